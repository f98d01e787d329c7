-- What a type is spelled by is read as that type.
use Rattle.std.proofs.Common.{◌≡◌, ℕ, zero, suc, ◌≤◌, Bool, true, false, ◌&&◌, List, [], ◌∷◌, ◌++◌, refl, sym, ◌∙◌, ap, subst, arith}
use Rattle.std.specs.Prelude.{Option, Some, None, codes, bytes_eq}
use Rattle.std.proofs.lemmas.Bool.{false_from_ne_true}
use Rattle.std.proofs.lemmas.Slice.Eq.{bytes_eq-Decides}
use Rattle.circus_text.specs.declared.token.TokenKind.{TokenKind}
use Rattle.circus_text.specs.declared.token.TokenKind.TheVariants.{Word, Number, Quoted, Sign}
use Rattle.circus_text.specs.Token.{Lexeme}
use Rattle.circus_syntax.specs.declared.named.Named.{Named}
use Rattle.circus_syntax.specs.declared.named.Numeral.{Numeral}
use Rattle.circus_syntax.specs.declared.named.TypeName.{TypeName}
use Rattle.circus_syntax.specs.declared.reading.TypeStart.{TypeStart}
use Rattle.circus_syntax.specs.declared.reading.TypeStart.TheVariants as begins
use Rattle.circus_syntax.specs.Reserved.{is_reserved, reserved_words}
use Rattle.circus_syntax.specs.TypeTree.{TypeTree, GroupTree, ArmTree, GroupTrees, ArmTrees, boolean, cardinal, long_cardinal, integer, long_integer, text, enumeration, array, sequence, «record», choice, called, no_groups, more_groups, no_arms, more_arms, group_trees, arm_trees}
use Rattle.circus_syntax.specs.Placed.{Placed, first, same_kind, is_lexeme, is_name, is_number, word, sign, Due, due, due_at, due_name, due_number, open_level, AreDue}
use Rattle.circus_syntax.specs.Reader.{Reader, passes, nothing, both, map_read, choose_by, either, either_case}
use Rattle.circus_syntax.specs.Reading.{expect_token, fixed_at, number, comma_list, names, label, label_of, labels, type_name, name_of_type, start_of_type, long_of, is_long_integer, long, called_of, type_name_place, simple_type, group, groups_with, arm, arm_of_parts, array_with, sequence_with, record_with, choice_with, type_with, flat_type, stop_in_type, type, groups}
use Rattle.circus_syntax.specs.Spelling.{each, spelling_more_groups, with_commas, comma, if_written, spelling_name, spelling_number, spelling_names, spelling_label, spelling_type_name, spelling_type, spelling_groups, spelling_arms, IsEach, IsListed, IfWritten, IsName, IsNumeral, IsLabel, IsType, IsTypeNameAt, levels, arm_levels}
use Rattle.circus_syntax.proofs.Opened.{opened_due}
use Rattle.circus_syntax.proofs.Sound.{Sound, reader, AreDue-none}
use Rattle.circus_syntax.proofs.Complete.{Complete, Any, complete_both, complete_then, complete_mapped, complete_marked, complete_optional, complete_weaker, cased_is}
use Rattle.circus_syntax.proofs.Tokens.{Always, sound_name, complete_fixed, complete_fixed_at, complete_name, complete_number, complete_behind, complete_listed, is_comma, opens_due, opens_name, opens_number, lexeme_is}
use Rattle.circus_syntax.proofs.Types.{IsTypeName, IsTypeWithin, spelling_long, spelling_group, IsGroupWithin, AreGroupsWithin, groups_spelled, groups_each, spelling_arm, IsArmWithin, arms_spelled, arms_each, type_name_spelled, sound_label, sound_group, sound_arm, sound_type}

-- the first token is the due one, and fails the test
pub clash : (l : Lexeme) (ds : List Due) (ts rest : List Placed) (test : Placed → Bool)
    → ((s : ℕ) → test (record { kind = l.kind; bytes = l.bytes; start = s }) ≡ false)
    → AreDue (due l ∷ ds) ts → passes test (first (ts ++ rest)) ≡ false
clash l ds [] rest test fails d = absurd d
clash l ds (t ∷ ts) rest test fails d = (λ i. test (record { kind = d.0.0 i; bytes = d.0.1 i; start = t.start })) ∙ fails t.start

abbrev pub is_dot : Placed → Bool
is_dot = is_lexeme (sign (codes "."))

abbrev pub NotDot : Option Placed → Type 0
NotDot o = passes is_dot o ≡ false

abbrev pub NotComma : Option Placed → Type 0
NotComma o = passes is_comma o ≡ false

comma_is_no_dot : (o : Option Placed) → passes is_comma o ≡ true → NotDot o
comma_is_no_dot None hit = refl
comma_is_no_dot (Some t) hit = let (kind, bytes) = lexeme_is (sign (codes ",")) t hit in rw (kind, bytes) refl

pub complete_names : Complete names spelling_names (IsListed IsName) NotComma
unfolding names
complete_names = complete_weaker NotComma (λ o h. (tt, h)) (complete_listed sound_name complete_name (λ o h. tt))

complete_label : Complete label spelling_label IsLabel Any
unfolding label
complete_label =
    complete_mapped label_of spelling_label IsLabel (λ x. refl) (λ l g. ((l.name, (tt, (l.number, tt))), refl, (g.0, (tt, (g.1, tt)))))
    (complete_then complete_name (complete_then (complete_fixed (sign (codes "("))) (complete_then complete_number (complete_fixed (sign (codes ")"))))))

complete_labels : Complete labels (with_commas spelling_label) (IsListed IsLabel) NotComma
unfolding labels
complete_labels = complete_weaker NotComma (λ o h. (tt, h)) (complete_listed sound_label complete_label (λ o h. tt))

type_name_back : (t : TypeName) → IsTypeName t → (x : Named × Option Named) × (type_name x.0 x.1 ≡ t) × (IsName x.0 × IfWritten IsName x.1)
type_name_back t g = by_parts t.«module» t.name g
  where
    by_parts : (m : Option Named) (n : Named) → IsTypeNameAt (type_name_place m n) m n
        → (x : Named × Option Named) × (type_name x.0 x.1 ≡ record { «module» = m; name = n }) × (IsName x.0 × IfWritten IsName x.1)
    by_parts None n g = ((n, None), refl, (g.0, tt))
    by_parts (Some m) n g = ((m, Some n), refl, (g.0, g.1))

complete_name_of_type : Complete name_of_type spelling_type_name IsTypeName NotDot
unfolding name_of_type
complete_name_of_type =
    complete_mapped (λ x. type_name x.0 x.1) spelling_type_name IsTypeName type_name_spelled type_name_back
    (complete_weaker NotDot (λ o h. (tt, h))
    (complete_then complete_name (complete_optional is_dot (complete_behind (sign (codes ".")) complete_name) (λ n ts rest g d. opens_due (sign (codes ".")) (spelling_name n) ts rest d))))

-- What a type begins with.

start_fixed : (l : Lexeme) (k : TypeStart) (at : ℕ) (ds : List Due) (ts rest : List Placed)
    → ((s : ℕ) → start_of_type (Some (record { kind = l.kind; bytes = l.bytes; start = s })) ≡ k)
    → AreDue (due_at l at ∷ ds) ts → start_of_type (first (ts ++ rest)) ≡ k
start_fixed l k at ds [] rest is d = absurd d
start_fixed l k at ds (t ∷ ts) rest is d = (λ i. start_of_type (Some (record { kind = d.0.0 i; bytes = d.0.1 i; start = t.start }))) ∙ is t.start

not_word : (b w : List ℕ) → is_reserved b ≡ false → is_reserved w ≡ true → bytes_eq b w ≡ false
not_word b w free taken = false_from_ne_true (bytes_eq b w) (λ same. let is : b ≡ w = (bytes_eq-Decides b w).0 same in cc (ap is_reserved is))

reserved_starts : (is_reserved (codes "CARDINAL") ≡ true) × (is_reserved (codes "INTEGER") ≡ true) × (is_reserved (codes "LONG") ≡ true) × (is_reserved (codes "STRING") ≡ true) × (is_reserved (codes "ARRAY") ≡ true) × (is_reserved (codes "SEQUENCE") ≡ true) × (is_reserved (codes "RECORD") ≡ true) × (is_reserved (codes "CHOICE") ≡ true)
unfolding is_reserved reserved_words
reserved_starts = (refl, refl, refl, refl, refl, refl, refl, refl)

name_starts : (b : List ℕ) (s : ℕ) → is_reserved b ≡ false → start_of_type (Some (record { kind = Word; bytes = b; start = s })) ≡ begins.Name
unfolding start_of_type
name_starts b s free =
    rw (not_word b (codes "CARDINAL") free reserved_starts.0, not_word b (codes "INTEGER") free reserved_starts.1, not_word b (codes "LONG") free reserved_starts.2, not_word b (codes "STRING") free reserved_starts.3, not_word b (codes "ARRAY") free reserved_starts.4, not_word b (codes "SEQUENCE") free reserved_starts.5, not_word b (codes "RECORD") free reserved_starts.6, not_word b (codes "CHOICE") free reserved_starts.7, free) refl

start_name : (n : Named) (ds : List Due) (ts rest : List Placed) → IsName n → AreDue (due_name n ∷ ds) ts → start_of_type (first (ts ++ rest)) ≡ begins.Name
start_name n ds [] rest good d = absurd d
start_name n ds (t ∷ ts) rest good d =
    (λ i. start_of_type (Some (record { kind = d.0.0 i; bytes = d.0.1 i; start = t.start }))) ∙ name_starts n.name t.start good.1

start_called : (t : TypeName) (ts rest : List Placed) → IsTypeName t → AreDue (spelling_type_name t) ts → start_of_type (first (ts ++ rest)) ≡ begins.Name
start_called t ts rest good d = by_parts t.«module» t.name good d
  where
    by_parts : (m : Option Named) (n : Named) → IsTypeNameAt (type_name_place m n) m n → AreDue (spelling_type_name (record { «module» = m; name = n })) ts → start_of_type (first (ts ++ rest)) ≡ begins.Name
    by_parts None n g d = start_name n [] ts rest g.0 d
    by_parts (Some m) n g d = start_name m (due (sign (codes ".")) ∷ due_name n ∷ []) ts rest g.0 d

boolean_starts : (s : ℕ) → start_of_type (Some (record { kind = Word; bytes = codes "BOOLEAN"; start = s })) ≡ begins.Other
unfolding start_of_type is_reserved reserved_words
boolean_starts s = refl

-- Types that have no others in them.

complete_is_long_integer : Complete is_long_integer spelling_long Always Any
unfolding is_long_integer
complete_is_long_integer = record { reads = reads }
  where
    reads : (b : Bool) (ts rest : List Placed) (e : ℕ) → Unit {0} → AreDue (spelling_long b) ts → Unit {0}
        → either (is_lexeme (word (codes "INTEGER"))) (map_read (λ x. true) (expect_token (word (codes "INTEGER")))) (map_read (λ x. false) (expect_token (word (codes "CARDINAL")))) (reader None (ts ++ rest) e) ≡ (b, reader None rest e)
    reads true ts rest e good d stays =
        cased_is (passes (is_lexeme (word (codes "INTEGER")))) (either_case (map_read (λ x. true) (expect_token (word (codes "INTEGER")))) (map_read (λ x. false) (expect_token (word (codes "CARDINAL"))))) true (ts ++ rest) e (true, reader None rest e) (opens_due (word (codes "INTEGER")) [] ts rest d)
        (ap (λ y. (true, y.1)) ((complete_fixed (word (codes "INTEGER"))).reads tt ts rest e tt d tt))
    reads false ts rest e good d stays =
        cased_is (passes (is_lexeme (word (codes "INTEGER")))) (either_case (map_read (λ x. true) (expect_token (word (codes "INTEGER")))) (map_read (λ x. false) (expect_token (word (codes "CARDINAL"))))) false (ts ++ rest) e (false, reader None rest e) (clash (word (codes "CARDINAL")) [] ts rest (is_lexeme (word (codes "INTEGER"))) (λ s. refl) d)
        (ap (λ y. (false, y.1)) ((complete_fixed (word (codes "CARDINAL"))).reads tt ts rest e tt d tt))

long_is : (at : ℕ) (b : Bool) (ts rest : List Placed) (e : ℕ) → AreDue (due_at (word (codes "LONG")) at ∷ spelling_long b) ts
    → long (reader None (ts ++ rest) e) ≡ (long_of (at, b), reader None rest e)
unfolding long
long_is at b ts rest e d =
    ap (λ y. (long_of y.0, y.1)) ((complete_then (complete_fixed_at (word (codes "LONG"))) complete_is_long_integer).reads (at, b) ts rest e (tt, tt) d tt)

abbrev is_nested : TypeTree → Bool
is_nested (array at n t) = true
is_nested (sequence at bound t) = true
is_nested («record» at gs) = true
is_nested (choice at rest) = true
is_nested _ = false

abbrev nests : TypeStart → Bool
nests begins.Array = true
nests begins.Sequence = true
nests begins.Record = true
nests begins.Choice = true
nests _ = false

-- how a type with no other in it is read
record SimplyRead (t : TypeTree) (ts rest : List Placed) (e : ℕ) : Type 0 where
  start : TypeStart
  flat : nests start ≡ false
  begun : start_of_type (first (ts ++ rest)) ≡ start
  is : simple_type start (reader None (ts ++ rest) e) ≡ (t, reader None rest e)

at_is : (w : Lexeme) (f : ℕ → TypeTree) (at : ℕ) (ts rest : List Placed) (e : ℕ) → AreDue (due_at w at ∷ []) ts
    → map_read f (fixed_at w) (reader None (ts ++ rest) e) ≡ (f at, reader None rest e)
at_is w f at ts rest e d = ap (λ y. (f y.0, y.1)) ((complete_fixed_at w).reads at ts rest e tt d tt)

braces : Complete (both (fixed_at (sign (codes "{"))) (both labels (expect_token (sign (codes "}"))))) (λ x. due_at (sign (codes "{")) x.0 ∷ (with_commas spelling_label x.1.0 ++ due (sign (codes "}")) ∷ []))
    (λ x. Unit {0} × (IsListed IsLabel x.1.0 × Unit {0})) Any
braces =
    complete_then (complete_fixed_at (sign (codes "{")))
    (complete_both complete_labels (complete_fixed (sign (codes "}"))) (λ b ts rest g d stays. clash (sign (codes "}")) [] ts rest is_comma (λ s. refl) d))

simply_read : (t : TypeTree) (ts rest : List Placed) (e : ℕ) → is_nested t ≡ false → IsType t → AreDue (spelling_type t) ts → NotDot (first rest) → SimplyRead t ts rest e
unfolding simple_type start_of_type
simply_read (boolean at) ts rest e flat good d stays = record {
  start = begins.Other;
  flat = refl;
  begun = start_fixed (word (codes "BOOLEAN")) begins.Other at [] ts rest boolean_starts d;
  is = at_is (word (codes "BOOLEAN")) boolean at ts rest e d;
}
simply_read (cardinal at) ts rest e flat good d stays = record {
  start = begins.Cardinal;
  flat = refl;
  begun = start_fixed (word (codes "CARDINAL")) begins.Cardinal at [] ts rest (λ s. refl) d;
  is = at_is (word (codes "CARDINAL")) cardinal at ts rest e d;
}
simply_read (long_cardinal at) ts rest e flat good d stays = record {
  start = begins.Long;
  flat = refl;
  begun = start_fixed (word (codes "LONG")) begins.Long at (spelling_long false) ts rest (λ s. refl) d;
  is = long_is at false ts rest e d;
}
simply_read (integer at) ts rest e flat good d stays = record {
  start = begins.Integer;
  flat = refl;
  begun = start_fixed (word (codes "INTEGER")) begins.Integer at [] ts rest (λ s. refl) d;
  is = at_is (word (codes "INTEGER")) integer at ts rest e d;
}
simply_read (long_integer at) ts rest e flat good d stays = record {
  start = begins.Long;
  flat = refl;
  begun = start_fixed (word (codes "LONG")) begins.Long at (spelling_long true) ts rest (λ s. refl) d;
  is = long_is at true ts rest e d;
}
simply_read (text at) ts rest e flat good d stays = record {
  start = begins.Text;
  flat = refl;
  begun = start_fixed (word (codes "STRING")) begins.Text at [] ts rest (λ s. refl) d;
  is = at_is (word (codes "STRING")) text at ts rest e d;
}
simply_read (enumeration at ls) ts rest e flat good d stays = record {
  start = begins.Labels;
  flat = refl;
  begun = start_fixed (sign (codes "{")) begins.Labels at (with_commas spelling_label ls ++ due (sign (codes "}")) ∷ []) ts rest (λ s. refl) d;
  is = ap (λ y. (enumeration y.0.0 y.0.1.0, y.1)) (braces.reads (at, (ls, tt)) ts rest e (tt, (good, tt)) d tt);
}
simply_read (called at t) ts rest e flat good d stays = record {
  start = begins.Name;
  flat = refl;
  begun = start_called t ts rest (placed_good at t good) d;
  is =
      ap (λ y. (called_of y.0, y.1)) (complete_name_of_type.reads t ts rest e (placed_good at t good) d stays)
      ∙ ap (λ p. (called p t, reader None rest e)) (sym (place_is at t good));
}
  where
    place_is : (at : ℕ) (t : TypeName) → IsTypeNameAt at t.«module» t.name → at ≡ type_name_place t.«module» t.name
    place_is at t g = by_parts t.«module» g
      where
        by_parts : (m : Option Named) → IsTypeNameAt at m t.name → at ≡ type_name_place m t.name
        by_parts None g = g.1
        by_parts (Some m) g = g.2

    placed_good : (at : ℕ) (t : TypeName) → IsTypeNameAt at t.«module» t.name → IsTypeName t
    placed_good at t g = subst (λ p. IsTypeNameAt p t.«module» t.name) (place_is at t g) g
simply_read _ ts rest e flat good d stays = cc

flat_is : (k : TypeStart) → nests k ≡ false → flat_type k ≡ simple_type k
flat_is begins.Array h = cc
flat_is begins.Sequence h = cc
flat_is begins.Record h = cc
flat_is begins.Choice h = cc
flat_is begins.Cardinal h = refl
flat_is begins.Integer h = refl
flat_is begins.Long h = refl
flat_is begins.Text h = refl
flat_is begins.Labels h = refl
flat_is begins.Name h = refl
flat_is begins.Other h = refl

with_is : (inner : Reader → TypeTree × Reader) (k : TypeStart) → nests k ≡ false → type_with inner k ≡ simple_type k
with_is inner begins.Array h = cc
with_is inner begins.Sequence h = cc
with_is inner begins.Record h = cc
with_is inner begins.Choice h = cc
with_is inner begins.Cardinal h = refl
with_is inner begins.Integer h = refl
with_is inner begins.Long h = refl
with_is inner begins.Text h = refl
with_is inner begins.Labels h = refl
with_is inner begins.Name h = refl
with_is inner begins.Other h = refl

-- Types that have others in them.

pub complete_group : (n : ℕ) {inner : Reader → TypeTree × Reader} → Complete inner spelling_type (IsTypeWithin n) NotDot → Complete (group inner) spelling_group (IsGroupWithin n) NotDot
complete_group n T =
    complete_mapped (λ x. record { names = x.0; shape = x.1.1 }) spelling_group (IsGroupWithin n) (λ x. refl) (λ g good. ((g.names, (tt, g.shape)), refl, (good.0, (tt, good.1))))
    (complete_both complete_names (complete_then (complete_fixed (sign (codes ":"))) T)
    (λ b ts rest g d stays. clash (sign (codes ":")) _ ts rest is_comma (λ s. refl) d))

opens_group : (n : ℕ) (g : GroupTree) (gs : List GroupTree) (ts rest : List Placed) → IsGroupWithin n g → AreDue (spelling_groups (group_trees (g ∷ gs))) ts → passes is_name (first (ts ++ rest)) ≡ true
opens_group n g gs ts rest good d = by_names g.names good.0 d
  where
    by_names : (ns : List Named) → IsListed IsName ns → AreDue (spelling_groups (more_groups ns g.shape (group_trees gs))) ts → passes is_name (first (ts ++ rest)) ≡ true
    by_names [] good d = absurd good
    by_names (m ∷ ns) good d =
        opens_name m ((each (λ y. comma ∷ spelling_name y) ns ++ due (sign (codes ":")) ∷ spelling_type g.shape) ++ spelling_more_groups (group_trees gs)) ts rest good.0 d

-- the bracket behind groups
abbrev pub is_closing : Placed → Bool
is_closing = is_lexeme (sign (codes "]"))

-- what doesn't go on a list of groups, but ends it
abbrev pub NotGroups : Option Placed → Type 0
NotGroups o = NotDot o × NotComma o × (passes is_closing o ≡ true)

-- a name is no bracket
name_closes_not : (o : Option Placed) → passes is_name o ≡ true → passes is_closing o ≡ false
name_closes_not None h = refl
name_closes_not (Some t) h = by_kind t.kind _ _ h
  where
    by_kind : (k : TokenKind) (a b : Bool) → same_kind k Word && a ≡ true → same_kind k Sign && b ≡ false
    by_kind Word a b h = refl
    by_kind Number a b h = refl
    by_kind Quoted a b h = refl
    by_kind Sign a b h = absurd cc

pub complete_groups_with : (n : ℕ) {inner : Reader → TypeTree × Reader} → Sound inner spelling_type (IsTypeWithin n) → Complete inner spelling_type (IsTypeWithin n) NotDot
    → Complete (groups_with inner) (λ gs. spelling_groups (group_trees gs)) (AreGroupsWithin n) NotGroups
complete_groups_with n {inner} S T = record { reads = reads }
  where
    listed_group : Complete (comma_list (group inner)) (with_commas spelling_group) (IsListed (IsGroupWithin n)) (λ o. NotDot o × NotComma o)
    listed_group = complete_listed (sound_group n S) (complete_group n T) comma_is_no_dot

    reads : (gs : List GroupTree) (ts rest : List Placed) (e : ℕ) → AreGroupsWithin n gs → AreDue (spelling_groups (group_trees gs)) ts → NotGroups (first rest)
        → groups_with inner (reader None (ts ++ rest) e) ≡ (gs, reader None rest e)
    reads [] ts rest e good d stays =
        subst (λ (us : List Placed). groups_with inner (reader None (us ++ rest) e) ≡ ([], reader None rest e)) (sym (AreDue-none ts d))
        (cased_is (passes is_closing) (either_case (nothing []) (comma_list (group inner))) true rest e ([], reader None rest e) stays.2 refl)
    reads (g ∷ gs) ts rest e good d stays =
        let each_good : IsEach (IsGroupWithin n) (g ∷ gs) = groups_each n (g ∷ gs) good in
        cased_is (passes is_closing) (either_case (nothing []) (comma_list (group inner))) false (ts ++ rest) e (g ∷ gs, reader None rest e)
        (name_closes_not (first (ts ++ rest)) (opens_group n g gs ts rest each_good.0 d))
        (listed_group.reads (g ∷ gs) ts rest e each_good (subst (λ ds. AreDue ds ts) (groups_spelled (g ∷ gs)) d) (stays.0, stays.1))

complete_arm : (n : ℕ) {inner : Reader → TypeTree × Reader} → Complete inner spelling_type (IsTypeWithin n) NotDot → Complete (arm inner) spelling_arm (IsArmWithin n) NotDot
complete_arm n T =
    complete_mapped arm_of_parts spelling_arm (IsArmWithin n) (λ x. refl) (λ a g. ((a.name, (tt, (a.number, (tt, (tt, a.shape))))), refl, (g.0, (tt, (g.1, (tt, (tt, g.2)))))))
    (complete_then complete_name (complete_then (complete_fixed (sign (codes "("))) (complete_then complete_number (complete_then (complete_fixed (sign (codes ")"))) (complete_then (complete_fixed (sign (codes "=>"))) T)))))

-- a type of so many levels where its parts are read with one less
array_is : (n : ℕ) {inner : Reader → TypeTree × Reader} → Complete inner spelling_type (IsTypeWithin n) NotDot
    → (at : ℕ) (k : Numeral) (t : TypeTree) (ts rest : List Placed) (e : ℕ) → IsNumeral k → IsTypeWithin n t → AreDue (spelling_type (array at k t)) ts → NotDot (first rest)
    → array_with inner (reader None (ts ++ rest) e) ≡ (array at k t, reader None rest e)
array_is n T at k t ts rest e number good d stays =
    ap (λ y. (array y.0.0 y.0.1.0 y.0.1.1.1, y.1))
    ((complete_then (complete_fixed_at (word (codes "ARRAY"))) (complete_then complete_number (complete_then (complete_fixed (word (codes "OF"))) T))).reads
    (at, (k, (tt, t))) ts rest e (tt, (number, (tt, good))) (opened_due (due_at (word (codes "ARRAY")) at ∷ due_number k ∷ due (word (codes "OF")) ∷ spelling_type t) ts d) stays)

sequence_is : (n : ℕ) {inner : Reader → TypeTree × Reader} → Complete inner spelling_type (IsTypeWithin n) NotDot
    → (at : ℕ) (b : Option Numeral) (t : TypeTree) (ts rest : List Placed) (e : ℕ) → IfWritten IsNumeral b → IsTypeWithin n t → AreDue (spelling_type (sequence at b t)) ts → NotDot (first rest)
    → sequence_with inner (reader None (ts ++ rest) e) ≡ (sequence at b t, reader None rest e)
sequence_is n T at b t ts rest e bound good d stays =
    ap (λ y. (sequence y.0.0 y.0.1.0 y.0.1.1.1, y.1))
    ((complete_then (complete_fixed_at (word (codes "SEQUENCE")))
    (complete_both (complete_optional is_number complete_number (λ k us rest g d. opens_number k [] us rest d)) (complete_then (complete_fixed (word (codes "OF"))) T)
    (λ x us rest g d stays. (tt, clash (word (codes "OF")) (spelling_type x.1) us rest is_number (λ s. refl) d)))).reads
    (at, (b, (tt, t))) ts rest e (tt, (bound, (tt, good)))
    (opened_due (due_at (word (codes "SEQUENCE")) at ∷ (if_written spelling_number b ++ due (word (codes "OF")) ∷ spelling_type t)) ts d) stays)

record_is : (n : ℕ) {inner : Reader → TypeTree × Reader} → Sound inner spelling_type (IsTypeWithin n) → Complete inner spelling_type (IsTypeWithin n) NotDot
    → (at : ℕ) (gs : List GroupTree) (ts rest : List Placed) (e : ℕ) → AreGroupsWithin n gs → AreDue (spelling_type («record» at (group_trees gs))) ts
    → record_with inner (reader None (ts ++ rest) e) ≡ («record» at (group_trees gs), reader None rest e)
record_is n S T at gs ts rest e good d =
    ap (λ y. («record» y.0.0 (group_trees y.0.1.1.0), y.1))
    ((complete_then (complete_fixed_at (word (codes "RECORD"))) (complete_then (complete_fixed (sign (codes "[")))
    (complete_both (complete_groups_with n S T) (complete_fixed (sign (codes "]")))
    (λ x us rest g d stays. (clash (sign (codes "]")) [] us rest is_dot (λ s. refl) d, clash (sign (codes "]")) [] us rest is_comma (λ s. refl) d, opens_due (sign (codes "]")) [] us rest d))))).reads
    (at, (tt, (gs, tt))) ts rest e (tt, (tt, (good, tt)))
    (opened_due (due_at (word (codes "RECORD")) at ∷ due (sign (codes "[")) ∷ (spelling_groups (group_trees gs) ++ due (sign (codes "]")) ∷ [])) ts d) tt)

choice_is : (n : ℕ) {inner : Reader → TypeTree × Reader} → Sound inner spelling_type (IsTypeWithin n) → Complete inner spelling_type (IsTypeWithin n) NotDot
    → (at : ℕ) (others : List ArmTree) (ts rest : List Placed) (e : ℕ) → IsListed (IsArmWithin n) others
    → AreDue (due_at (word (codes "CHOICE")) at ∷ due (word (codes "OF")) ∷ due (sign (codes "{")) ∷ (with_commas spelling_arm others ++ due (sign (codes "}")) ∷ [])) ts
    → choice_with inner (reader None (ts ++ rest) e) ≡ (choice at (arm_trees others), reader None rest e)
choice_is n S T at others ts rest e good d =
    ap (λ y. (choice y.0.0 (arm_trees y.0.1.1.1.0), y.1))
    ((complete_then (complete_fixed_at (word (codes "CHOICE"))) (complete_then (complete_fixed (word (codes "OF"))) (complete_then (complete_fixed (sign (codes "{")))
    (complete_both (complete_listed (sound_arm n S) (complete_arm n T) comma_is_no_dot) (complete_fixed (sign (codes "}")))
    (λ x us rest g d stays. (clash (sign (codes "}")) [] us rest is_dot (λ s. refl) d, clash (sign (codes "}")) [] us rest is_comma (λ s. refl) d)))))).reads
    (at, (tt, (tt, (others, tt)))) ts rest e (tt, (tt, (tt, (good, tt)))) d tt)

-- the lists that these trees were made of
group_list : GroupTrees → List GroupTree
group_list no_groups = []
group_list (more_groups ns t gs) = record { names = ns; shape = t } ∷ group_list gs

group_list_is : (gs : GroupTrees) → group_trees (group_list gs) ≡ gs
unfolding group_list
group_list_is no_groups = refl
group_list_is (more_groups ns t gs) = ap (more_groups ns t) (group_list_is gs)

arm_list : ArmTrees → List ArmTree
arm_list no_arms = []
arm_list (more_arms m k t rest) = record { name = m; number = k; shape = t } ∷ arm_list rest

arm_list_is : (rest : ArmTrees) → arm_trees (arm_list rest) ≡ rest
unfolding arm_list
arm_list_is no_arms = refl
arm_list_is (more_arms m k t rest) = ap (more_arms m k t) (arm_list_is rest)

choice_each : (n at : ℕ) (rest : List ArmTree) → IsType (choice at (arm_trees rest)) → arm_levels (arm_trees rest) ≤ n → IsListed (IsArmWithin n) rest
choice_each n at [] g few = absurd g
choice_each n at (a ∷ rest) g few = arms_each n (a ∷ rest) g few

record_read : (n : ℕ) {inner : Reader → TypeTree × Reader} → Sound inner spelling_type (IsTypeWithin n) → Complete inner spelling_type (IsTypeWithin n) NotDot
    → (at : ℕ) (gs : GroupTrees) (ts rest : List Placed) (e : ℕ) → IsTypeWithin (suc n) («record» at gs) → AreDue (spelling_type («record» at gs)) ts
    → record_with inner (reader None (ts ++ rest) e) ≡ («record» at gs, reader None rest e)
record_read n {inner} S T at gs ts rest e =
    subst (λ (hs : GroupTrees). IsTypeWithin (suc n) («record» at hs) → AreDue (spelling_type («record» at hs)) ts → record_with inner (reader None (ts ++ rest) e) ≡ («record» at hs, reader None rest e))
    (group_list_is gs)
    (λ good d. record_is n S T at (group_list gs) ts rest e (good.0, omega (arith, good.1)) d)

choice_read : (n : ℕ) {inner : Reader → TypeTree × Reader} → Sound inner spelling_type (IsTypeWithin n) → Complete inner spelling_type (IsTypeWithin n) NotDot
    → (at : ℕ) (others : ArmTrees) (ts rest : List Placed) (e : ℕ) → IsTypeWithin (suc n) (choice at others) → AreDue (spelling_type (choice at others)) ts
    → choice_with inner (reader None (ts ++ rest) e) ≡ (choice at others, reader None rest e)
choice_read n {inner} S T at others ts rest e =
    subst (λ (os : ArmTrees). IsTypeWithin (suc n) (choice at os) → AreDue (spelling_type (choice at os)) ts → choice_with inner (reader None (ts ++ rest) e) ≡ (choice at os, reader None rest e))
    (arm_list_is others)
    (λ good d. choice_is n S T at (arm_list others) ts rest e (choice_each n at (arm_list others) good.0 (omega (arith, good.1)))
    (subst (λ l. AreDue (due_at (word (codes "CHOICE")) at ∷ due (word (codes "OF")) ∷ due (sign (codes "{")) ∷ (l ++ due (sign (codes "}")) ∷ [])) ts) (arms_spelled (arm_list others))
    (opened_due (due_at (word (codes "CHOICE")) at ∷ due (word (codes "OF")) ∷ due (sign (codes "{")) ∷ (spelling_arms (arm_trees (arm_list others)) ++ due (sign (codes "}")) ∷ [])) ts d)))

type_reads : (n : ℕ) {inner : Reader → TypeTree × Reader} → Sound inner spelling_type (IsTypeWithin n) → Complete inner spelling_type (IsTypeWithin n) NotDot
    → (t : TypeTree) (ts rest : List Placed) (e : ℕ) → IsTypeWithin (suc n) t → AreDue (spelling_type t) ts → NotDot (first rest)
    → choose_by start_of_type (type_with inner) (reader None (ts ++ rest) e) ≡ (t, reader None rest e)
unfolding start_of_type
type_reads n {inner} S T t ts rest e good d stays = by_tree t good d
  where
    simple_one : (u : TypeTree) → SimplyRead u ts rest e → choose_by start_of_type (type_with inner) (reader None (ts ++ rest) e) ≡ (u, reader None rest e)
    simple_one u R =
        cased_is start_of_type (type_with inner) R.start (ts ++ rest) e (u, reader None rest e) R.begun
        (ap (λ p. p (reader None (ts ++ rest) e)) (with_is inner R.start R.flat) ∙ R.is)

    by_tree : (u : TypeTree) → IsTypeWithin (suc n) u → AreDue (spelling_type u) ts → choose_by start_of_type (type_with inner) (reader None (ts ++ rest) e) ≡ (u, reader None rest e)
    by_tree (array at k u) good d =
        cased_is start_of_type (type_with inner) begins.Array (ts ++ rest) e (array at k u, reader None rest e)
        (start_fixed (word (codes "ARRAY")) begins.Array at (open_level (due_number k ∷ due (word (codes "OF")) ∷ spelling_type u)) ts rest (λ s. refl) d)
        (array_is n T at k u ts rest e good.0.0 (good.0.1, omega (arith, good.1)) d stays)
    by_tree (sequence at b u) good d =
        cased_is start_of_type (type_with inner) begins.Sequence (ts ++ rest) e (sequence at b u, reader None rest e)
        (start_fixed (word (codes "SEQUENCE")) begins.Sequence at (open_level (if_written spelling_number b ++ due (word (codes "OF")) ∷ spelling_type u)) ts rest (λ s. refl) d)
        (sequence_is n T at b u ts rest e good.0.0 (good.0.1, omega (arith, good.1)) d stays)
    by_tree («record» at gs) good d =
        cased_is start_of_type (type_with inner) begins.Record (ts ++ rest) e («record» at gs, reader None rest e)
        (start_fixed (word (codes "RECORD")) begins.Record at (open_level (due (sign (codes "[")) ∷ (spelling_groups gs ++ due (sign (codes "]")) ∷ []))) ts rest (λ s. refl) d)
        (record_read n S T at gs ts rest e good d)
    by_tree (choice at os) good d =
        cased_is start_of_type (type_with inner) begins.Choice (ts ++ rest) e (choice at os, reader None rest e)
        (start_fixed (word (codes "CHOICE")) begins.Choice at (open_level (due (word (codes "OF")) ∷ due (sign (codes "{")) ∷ (spelling_arms os ++ due (sign (codes "}")) ∷ []))) ts rest (λ s. refl) d)
        (choice_read n S T at os ts rest e good d)
    by_tree (boolean at) good d = simple_one (boolean at) (simply_read (boolean at) ts rest e refl good.0 d stays)
    by_tree (cardinal at) good d = simple_one (cardinal at) (simply_read (cardinal at) ts rest e refl good.0 d stays)
    by_tree (long_cardinal at) good d = simple_one (long_cardinal at) (simply_read (long_cardinal at) ts rest e refl good.0 d stays)
    by_tree (integer at) good d = simple_one (integer at) (simply_read (integer at) ts rest e refl good.0 d stays)
    by_tree (long_integer at) good d = simple_one (long_integer at) (simply_read (long_integer at) ts rest e refl good.0 d stays)
    by_tree (text at) good d = simple_one (text at) (simply_read (text at) ts rest e refl good.0 d stays)
    by_tree (enumeration at ls) good d = simple_one (enumeration at ls) (simply_read (enumeration at ls) ts rest e refl good.0 d stays)
    by_tree (called at m) good d = simple_one (called at m) (simply_read (called at m) ts rest e refl good.0 d stays)

flat_reads : (t : TypeTree) (ts rest : List Placed) (e : ℕ) → IsTypeWithin 0 t → AreDue (spelling_type t) ts → NotDot (first rest)
    → choose_by start_of_type flat_type (reader None (ts ++ rest) e) ≡ (t, reader None rest e)
flat_reads t ts rest e good d stays = simple_one (simply_read t ts rest e (is_flat t good.1) good.0 d stays)
  where
    simple_one : SimplyRead t ts rest e → choose_by start_of_type flat_type (reader None (ts ++ rest) e) ≡ (t, reader None rest e)
    simple_one R =
        cased_is start_of_type flat_type R.start (ts ++ rest) e (t, reader None rest e) R.begun
        (ap (λ p. p (reader None (ts ++ rest) e)) (flat_is R.start R.flat) ∙ R.is)

    is_flat : (u : TypeTree) → levels u ≤ 0 → is_nested u ≡ false
    is_flat (array at k u) few = absurd (omega arith)
    is_flat (sequence at b u) few = absurd (omega arith)
    is_flat («record» at gs) few = absurd (omega arith)
    is_flat (choice at os) few = absurd (omega arith)
    is_flat _ few = refl

pub complete_type : (n : ℕ) → Complete (type n) spelling_type (IsTypeWithin n) NotDot
unfolding type
complete_type zero = complete_marked stop_in_type (record { reads = flat_reads })
complete_type (suc n) = complete_marked stop_in_type (record { reads = type_reads n (sound_type n) (complete_type n) })

pub complete_groups : (n : ℕ) → Complete (groups n) (λ gs. spelling_groups (group_trees gs)) (AreGroupsWithin n) NotGroups
unfolding groups
complete_groups n = complete_groups_with n (sound_type n) (complete_type n)
