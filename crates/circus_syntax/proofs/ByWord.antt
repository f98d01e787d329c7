-- What is read word by word.
use Rattle.std.proofs.Common.{◌≡◌, ◌-◌, arith, ℕ, zero, suc, Bool, true, false, List, [], ◌∷◌, refl, sym, ◌∙◌, ap}
use Rattle.std.specs.Prelude.{Option, Some, None, codes, if◌then◌else◌, option_map, Result, Ok, Err, IfOk, is_some, not}
use Rattle.circus_text.specs.Token.{Lexeme}
use Rattle.circus_syntax.specs.declared.named.Named.{Named}
use Rattle.circus_syntax.specs.declared.named.Numeral.{Numeral}
use Rattle.circus_syntax.specs.declared.named.TypeName.{TypeName}
use Rattle.circus_syntax.specs.declared.named.LabelText.{LabelText}
use Rattle.circus_syntax.specs.declared.stopping.Stop.{Stop}
use Rattle.circus_syntax.specs.declared.stopping.StopCause.TheVariants.{TooDeep}
use Rattle.circus_syntax.specs.declared.reading.TypeStart.{TypeStart}
use Rattle.circus_syntax.specs.declared.reading.TypeStart.TheVariants as begins
use Rattle.circus_syntax.specs.TypeTree.{TypeTree, GroupTree, ArmTree, boolean, cardinal, integer, text, enumeration, array, sequence, «record», choice, called, group_trees, arm_trees}
use Rattle.circus_syntax.specs.Placed.{Placed, is_lexeme, is_name, is_number, word, sign}
use Rattle.circus_syntax.specs.Reader.{Reader, place, place_of, stopped_by, passes, next, sees, token_in, both, map_read, optional, mark_stops, marked_in}
use Rattle.circus_syntax.specs.Reading.{expect_token, fixed_at, name, number, named_of, filled_name, number_if_any, names, label, labels, behind, type_name, type_name_place, name_of_type, start_of_type, long_of, is_long_integer, long, called_of, simple_type, type, array_type, sequence_type, record_type, choice_type, group_of_type, arm_of_type, arms, groups, stop_in_type, unmarked_type, type_within, type_with, flat_type, nests, too_deep, groups_with, group, arm, comma_list}
use Rattle.circus_syntax.proofs.Sound.{Sound, both_is}
use Rattle.circus_syntax.proofs.Tokens.{comma_sign, is_comma}
use Rattle.circus_syntax.proofs.Types.{spelling_group, IsGroupWithin, spelling_arm, IsArmWithin, sound_group, sound_arm, sound_type}
use Rattle.circus_syntax.proofs.Loops.{goes_on, listed_is}

tested : (b : Bool) (x y : Reader) (n : ℕ) → let P : ℕ × Reader = if b then (n, x) else (n, y) in let Q : Unit {0} × Reader = if b then (tt, x) else (tt, y) in P ≡ (n, Q.1)
tested true x y n = refl
tested false x y n = refl

token_place : (test : Placed → Bool) (stop : Option Stop) (ts : List Placed) (e : ℕ)
    → token_in {A = ℕ} test (λ t. t.start) (λ at. at) stop ts e ≡ (place_of stop ts e, (token_in {A = Unit {0}} test (λ t. tt) (λ at. tt) stop ts e).1)
token_place test (Some s) ts e = refl
token_place test None [] e = refl
token_place test None (t ∷ ts) e = tested (test t) _ _ t.start

-- a word or a sign with its place
pub fixed_at_is : (l : Lexeme) (r s : Reader) → expect_token l r ≡ (tt, s) → fixed_at l r ≡ (place r, s)
unfolding expect_token fixed_at
fixed_at_is l r s is = token_place (is_lexeme l) r.stop r.rest r.end ∙ ap (λ (x : Unit {0} × Reader). (place r, x.1)) is

pub at_is : {A : Type 0} (l : Lexeme) (f : ℕ → A) (r s : Reader) → expect_token l r ≡ (tt, s) → map_read f (fixed_at l) r ≡ (f (place r), s)
at_is l f r s is = ap (λ x. (f x.0, x.1)) (fixed_at_is l r s is)

name_tested : (b : Bool) (t : Placed) (x y : Reader) → let P : Named × Reader = if b then (named_of t, x) else (filled_name t.start, y) in P.0.at ≡ t.start
name_tested true t x y = refl
name_tested false t x y = refl

-- a name stands where it was read
pub name_place : (r s : Reader) (n : Named) → name r ≡ (n, s) → n.at ≡ place r
unfolding name
name_place r s n is = ap (λ (x : Named × Reader). x.0.at) (sym is) ∙ by_parts r.stop r.rest
  where
    by_parts : (stop : Option Stop) (ts : List Placed) → (token_in is_name named_of filled_name stop ts r.end).0.at ≡ place_of stop ts r.end
    by_parts (Some stop) ts = refl
    by_parts None [] = refl
    by_parts None (t ∷ ts) = name_tested (is_name t) t _ _

pub optional_some : {A : Type 0} (test : Placed → Bool) (p : Reader → A × Reader) (r s : Reader) (x : A) (b : Bool) → b ≡ sees test r → b ≡ true → p r ≡ (x, s) → optional test p r ≡ (Some x, s)
optional_some test p r s x b seen hit is = rw (← seen, hit) (ap (λ y. (Some y.0, y.1)) is)

pub optional_none : {A : Type 0} (test : Placed → Bool) (p : Reader → A × Reader) (r : Reader) (b : Bool) → b ≡ sees test r → b ≡ false → optional test p r ≡ (None, r)
optional_none test p r b seen missed = rw (← seen, missed) refl

abbrev dot : Lexeme
dot = sign (codes ".")

pub name_of_type_two : (r s t u : Reader) (m n : Named) (b : Bool) → name r ≡ (m, s) → b ≡ sees (is_lexeme dot) s → b ≡ true → expect_token dot s ≡ (tt, t) → name t ≡ (n, u)
    → name_of_type r ≡ (record { «module» = Some m; name = n }, u)
unfolding name_of_type
name_of_type_two r s t u m n b first seen hit dot_is second =
    ap (λ x. (type_name x.0.0 x.0.1, x.1))
    (both_is name (optional (is_lexeme dot) (behind dot name)) r s u m (Some n) first
    (optional_some (is_lexeme dot) (behind dot name) s u n b seen hit (ap (λ y. (y.0.1, y.1)) (both_is (expect_token dot) name s t u tt n dot_is second))))

pub name_of_type_one : (r s : Reader) (m : Named) (b : Bool) → name r ≡ (m, s) → b ≡ sees (is_lexeme dot) s → b ≡ false → name_of_type r ≡ (record { «module» = None; name = m }, s)
unfolding name_of_type
name_of_type_one r s m b first seen missed =
    ap (λ x. (type_name x.0.0 x.0.1, x.1))
    (both_is name (optional (is_lexeme dot) (behind dot name)) r s s m None first (optional_none (is_lexeme dot) (behind dot name) s b seen missed))

-- what a type begins with, test by test
pub start_by_sight : (o : Option Placed) → start_of_type o ≡
    (if passes (is_lexeme (word (codes "CARDINAL"))) o then begins.Cardinal
    else (if passes (is_lexeme (word (codes "INTEGER"))) o then begins.Integer
    else (if passes (is_lexeme (word (codes "LONG"))) o then begins.Long
    else (if passes (is_lexeme (word (codes "STRING"))) o then begins.Text
    else (if passes (is_lexeme (sign (codes "{"))) o then begins.Labels
    else (if passes (is_lexeme (word (codes "ARRAY"))) o then begins.Array
    else (if passes (is_lexeme (word (codes "SEQUENCE"))) o then begins.Sequence
    else (if passes (is_lexeme (word (codes "RECORD"))) o then begins.Record
    else (if passes (is_lexeme (word (codes "CHOICE"))) o then begins.Choice
    else (if passes is_name o then begins.Name
    else begins.Other))))))))))
unfolding start_of_type
start_by_sight None = refl
start_by_sight (Some t) = refl

pub long_is : (r s t : Reader) (b c : Bool) → expect_token (word (codes "LONG")) r ≡ (tt, s) → is_long_integer s ≡ (b, t) → b ≡ c → simple_type begins.Long r ≡ (long_of (place r, c), t)
unfolding simple_type long
long_is r s t b c long_word rest is =
    ap (λ x. (long_of x.0, x.1)) (both_is (fixed_at (word (codes "LONG"))) is_long_integer r s t (place r) b (fixed_at_is (word (codes "LONG")) r s long_word) rest)
    ∙ ap (λ d. (long_of (place r, d), t)) is

pub labels_is : (r s t u : Reader) (ls : List LabelText) → expect_token (sign (codes "{")) r ≡ (tt, s) → labels s ≡ (ls, t) → expect_token (sign (codes "}")) t ≡ (tt, u) → simple_type begins.Labels r ≡ (enumeration (place r) ls, u)
unfolding simple_type
labels_is r s t u ls opened inside closed =
    ap (λ x. (enumeration x.0.0 x.0.1.0, x.1))
    (both_is (fixed_at (sign (codes "{"))) (both labels (expect_token (sign (codes "}")))) r s u (place r) (ls, tt) (fixed_at_is (sign (codes "{")) r s opened) (both_is labels (expect_token (sign (codes "}"))) s t u ls tt inside closed))

pub called_is : (r s : Reader) (n : TypeName) → name_of_type r ≡ (n, s) → type_name_place n.«module» n.name ≡ place r → simple_type begins.Name r ≡ (called (place r) n, s)
unfolding simple_type
called_is r s n is placed = ap (λ x. (called_of x.0, x.1)) is ∙ ap (λ at. (called at n, s)) placed

pub cardinal_is : (r s : Reader) → expect_token (word (codes "CARDINAL")) r ≡ (tt, s) → simple_type begins.Cardinal r ≡ (cardinal (place r), s)
unfolding simple_type
cardinal_is r s is = at_is (word (codes "CARDINAL")) cardinal r s is

pub integer_is : (r s : Reader) → expect_token (word (codes "INTEGER")) r ≡ (tt, s) → simple_type begins.Integer r ≡ (integer (place r), s)
unfolding simple_type
integer_is r s is = at_is (word (codes "INTEGER")) integer r s is

pub text_is : (r s : Reader) → expect_token (word (codes "STRING")) r ≡ (tt, s) → simple_type begins.Text r ≡ (text (place r), s)
unfolding simple_type
text_is r s is = at_is (word (codes "STRING")) text r s is

-- any other start is BOOLEAN's
pub boolean_is : (k : TypeStart) (r s : Reader) → expect_token (word (codes "BOOLEAN")) r ≡ (tt, s)
    → (k ≡ begins.Cardinal → ⊥) → (k ≡ begins.Integer → ⊥) → (k ≡ begins.Text → ⊥) → (k ≡ begins.Long → ⊥) → (k ≡ begins.Labels → ⊥) → (k ≡ begins.Name → ⊥)
    → simple_type k r ≡ (boolean (place r), s)
unfolding simple_type
boolean_is begins.Cardinal r s is no_cardinal no_integer no_text no_long no_labels no_name = absurd (no_cardinal refl)
boolean_is begins.Integer r s is no_cardinal no_integer no_text no_long no_labels no_name = absurd (no_integer refl)
boolean_is begins.Text r s is no_cardinal no_integer no_text no_long no_labels no_name = absurd (no_text refl)
boolean_is begins.Long r s is no_cardinal no_integer no_text no_long no_labels no_name = absurd (no_long refl)
boolean_is begins.Labels r s is no_cardinal no_integer no_text no_long no_labels no_name = absurd (no_labels refl)
boolean_is begins.Name r s is no_cardinal no_integer no_text no_long no_labels no_name = absurd (no_name refl)
boolean_is _ r s is no_cardinal no_integer no_text no_long no_labels no_name = at_is (word (codes "BOOLEAN")) boolean r s is

-- Types with others in them, their parts read with so many levels.

pub array_is : (n : ℕ) (r s t u v : Reader) (k : Numeral) (e : TypeTree) → expect_token (word (codes "ARRAY")) r ≡ (tt, s) → number s ≡ (k, t) → expect_token (word (codes "OF")) t ≡ (tt, u) → type n u ≡ (e, v)
    → array_type n r ≡ (array (place r) k e, v)
unfolding array_type
array_is n r s t u v k e first second third last =
    ap (λ x. (array x.0.0 x.0.1.0 x.0.1.1.1, x.1))
    (both_is (fixed_at (word (codes "ARRAY"))) (both number (both (expect_token (word (codes "OF"))) (type n))) r s v (place r) (k, (tt, e)) (fixed_at_is (word (codes "ARRAY")) r s first)
    (both_is number (both (expect_token (word (codes "OF"))) (type n)) s t v k (tt, e) second
    (both_is (expect_token (word (codes "OF"))) (type n) t u v tt e third last)))

pub sequence_is : (n : ℕ) (r s t u v : Reader) (b : Option Numeral) (e : TypeTree) → expect_token (word (codes "SEQUENCE")) r ≡ (tt, s) → number_if_any s ≡ (b, t) → expect_token (word (codes "OF")) t ≡ (tt, u) → type n u ≡ (e, v)
    → sequence_type n r ≡ (sequence (place r) b e, v)
unfolding sequence_type number_if_any
sequence_is n r s t u v b e first second third last =
    ap (λ x. (sequence x.0.0 x.0.1.0 x.0.1.1.1, x.1))
    (both_is (fixed_at (word (codes "SEQUENCE"))) (both (optional is_number number) (both (expect_token (word (codes "OF"))) (type n))) r s v (place r) (b, (tt, e)) (fixed_at_is (word (codes "SEQUENCE")) r s first)
    (both_is (optional is_number number) (both (expect_token (word (codes "OF"))) (type n)) s t v b (tt, e) second
    (both_is (expect_token (word (codes "OF"))) (type n) t u v tt e third last)))

pub record_is : (n : ℕ) (r s t u v : Reader) (gs : List GroupTree) → expect_token (word (codes "RECORD")) r ≡ (tt, s) → expect_token (sign (codes "[")) s ≡ (tt, t) → groups n t ≡ (gs, u) → expect_token (sign (codes "]")) u ≡ (tt, v)
    → record_type n r ≡ («record» (place r) (group_trees gs), v)
unfolding record_type groups
record_is n r s t u v gs first second third last =
    ap (λ x. («record» x.0.0 (group_trees x.0.1.1.0), x.1))
    (both_is (fixed_at (word (codes "RECORD"))) (both (expect_token (sign (codes "["))) (both (groups_with (type n)) (expect_token (sign (codes "]"))))) r s v (place r) (tt, (gs, tt)) (fixed_at_is (word (codes "RECORD")) r s first)
    (both_is (expect_token (sign (codes "["))) (both (groups_with (type n)) (expect_token (sign (codes "]")))) s t v tt (gs, tt) second
    (both_is (groups_with (type n)) (expect_token (sign (codes "]"))) t u v gs tt third last)))

pub choice_is : (n : ℕ) (r s t u v w : Reader) (others : List ArmTree) → expect_token (word (codes "CHOICE")) r ≡ (tt, s) → expect_token (word (codes "OF")) s ≡ (tt, t) → expect_token (sign (codes "{")) t ≡ (tt, u) → arms n u ≡ (others, v) → expect_token (sign (codes "}")) v ≡ (tt, w)
    → choice_type n r ≡ (choice (place r) (arm_trees others), w)
unfolding choice_type arms arm_of_type
choice_is n r s t u v w others first second third fourth last =
    ap (λ x. (choice x.0.0 (arm_trees x.0.1.1.1.0), x.1))
    (both_is (fixed_at (word (codes "CHOICE"))) (both (expect_token (word (codes "OF"))) (both (expect_token (sign (codes "{"))) (both (comma_list (arm (type n))) (expect_token (sign (codes "}")))))) r s w (place r) (tt, (tt, (others, tt))) (fixed_at_is (word (codes "CHOICE")) r s first)
    (both_is (expect_token (word (codes "OF"))) (both (expect_token (sign (codes "{"))) (both (comma_list (arm (type n))) (expect_token (sign (codes "}"))))) s t w tt (tt, (others, tt)) second
    (both_is (expect_token (sign (codes "{"))) (both (comma_list (arm (type n))) (expect_token (sign (codes "}")))) t u w tt (others, tt) third
    (both_is (comma_list (arm (type n))) (expect_token (sign (codes "}"))) u v w others tt fourth last))))

pub group_is : (n : ℕ) (r s t u : Reader) (ns : List Named) (e : TypeTree) → names r ≡ (ns, s) → expect_token (sign (codes ":")) s ≡ (tt, t) → type n t ≡ (e, u) → group_of_type n r ≡ (record { names = ns; shape = e }, u)
unfolding group_of_type
group_is n r s t u ns e first second last =
    ap (λ x. (record { names = x.0.0; shape = x.0.1.1 }, x.1))
    (both_is names (both (expect_token (sign (codes ":"))) (type n)) r s u ns (tt, e) first (both_is (expect_token (sign (codes ":"))) (type n) s t u tt e second last))

pub arm_is : (n : ℕ) (r s t u : Reader) (l : LabelText) (e : TypeTree) → label r ≡ (l, s) → expect_token (sign (codes "=>")) s ≡ (tt, t) → type n t ≡ (e, u)
    → arm_of_type n r ≡ (record { name = l.name; number = l.number; shape = e }, u)
unfolding arm_of_type label
arm_is n r s t u l e first second last =
    ap (λ x. (record { name = x.0.name; number = x.0.number; shape = (type n (expect_token (sign (codes "=>")) x.1).1).0 }, (type n (expect_token (sign (codes "=>")) x.1).1).1)) first
    ∙ ap (λ x. (record { name = l.name; number = l.number; shape = (type n x.1).0 }, (type n x.1).1)) second
    ∙ ap (λ x. (record { name = l.name; number = l.number; shape = x.0 }, x.1)) last

-- no groups
pub groups_none : (n : ℕ) (r : Reader) (b : Bool) → b ≡ sees (is_lexeme (sign (codes "]"))) r → b ≡ true → groups n r ≡ ([], r)
unfolding groups
groups_none n r b seen hit = rw (← seen, hit) refl

-- the first group, and those that follow
pub groups_some : (n : ℕ) (r s : Reader) (x : GroupTree) (b : Bool) → b ≡ sees (is_lexeme (sign (codes "]"))) r → b ≡ false → group_of_type n r ≡ (x, s)
    → groups n r ≡ goes_on is_comma (behind comma_sign (group_of_type n)) (x ∷ []) s
unfolding groups group_of_type
groups_some n r s x b seen missed is = rw (← seen, missed) (listed_is (group (type n)) r s x is)

pub arms_some : (n : ℕ) (r s : Reader) (x : ArmTree) → arm_of_type n r ≡ (x, s) → arms n r ≡ goes_on is_comma (behind comma_sign (arm_of_type n)) (x ∷ []) s
unfolding arms
arms_some n r s x is = listed_is (arm_of_type n) r s x is

pub sound_group_of_type : (n : ℕ) → Sound (group_of_type n) spelling_group (IsGroupWithin n)
unfolding group_of_type
sound_group_of_type n = sound_group n (sound_type n)

pub sound_arm_of_type : (n : ℕ) → Sound (arm_of_type n) spelling_arm (IsArmWithin n)
unfolding arm_of_type
sound_arm_of_type n = sound_arm n (sound_type n)

-- A mark on the way out.

still_open : (o : Option Stop) (b : Bool) → is_some o ≡ not b → b ≡ true → o ≡ None
still_open None b is hit = refl
still_open (Some s) b is hit = cc (ap not hit)

had_stopped : (o : Option Stop) (b : Bool) → is_some o ≡ not b → b ≡ false → o ≡ None → ⊥
had_stopped None b is missed none = cc (ap not missed)
had_stopped (Some s) b is missed none = cc

pub marked_open : {A : Type 0} (mark : ℕ → Stop → Stop) (p : Reader → A × Reader) (r s m : Reader) (f : ℕ → A) (o : Option Stop) (b : Bool) (at : ℕ) → o ≡ r.stop → is_some o ≡ not b → b ≡ true → at ≡ place r
    → p r ≡ (f (place r), s) → m ≡ record { rest = s.rest; end = s.end; stop = option_map (mark at) s.stop } → mark_stops mark p r ≡ (f at, m)
marked_open mark p r s m f o b at o_is some hit at_is is m_is =
    let going : r.stop ≡ None = sym o_is ∙ still_open o b some hit in
    ap (marked_in mark r.stop (place r)) is ∙ (λ i. marked_in mark (going i) (place r) (f (place r), s))
    ∙ (λ i. (f (sym at_is i), record { rest = s.rest; end = s.end; stop = option_map (mark (sym at_is i)) s.stop }))
    ∙ ap (λ t. (f at, t)) (sym m_is)

pub marked_stopped : {A : Type 0} (mark : ℕ → Stop → Stop) (p : Reader → A × Reader) (r s m : Reader) (f : ℕ → A) (o : Option Stop) (b : Bool) (at : ℕ) → o ≡ r.stop → is_some o ≡ not b → b ≡ false → at ≡ place r
    → p r ≡ (f (place r), s) → m ≡ s → mark_stops mark p r ≡ (f at, m)
marked_stopped {A} mark p r s m f o b at o_is some missed at_is is m_is =
    ap (marked_in mark r.stop (place r)) is ∙ by_stop r.stop (λ none. had_stopped o b some missed (o_is ∙ none)) ∙ (λ i. (f (sym at_is i), sym m_is i))
  where
    by_stop : (stop : Option Stop) → (stop ≡ None → ⊥) → marked_in mark stop (place r) (f (place r), s) ≡ (f (place r), s)
    by_stop None stopped = absurd (stopped refl)
    by_stop (Some stop) stopped = refl

pub type_is : (n : ℕ) (r : Reader) → type n r ≡ mark_stops stop_in_type (unmarked_type n) r
unfolding type unmarked_type
type_is zero r = refl
type_is (suc n) r = refl

-- A type without it.

flat_simple : (k : TypeStart) → nests k ≡ false → (n : ℕ) → type_within n k ≡ simple_type k
flat_simple begins.Array h n = cc
flat_simple begins.Sequence h n = cc
flat_simple begins.Record h n = cc
flat_simple begins.Choice h n = cc
flat_simple begins.Cardinal h zero = refl
flat_simple begins.Cardinal h (suc n) = refl
flat_simple begins.Integer h zero = refl
flat_simple begins.Integer h (suc n) = refl
flat_simple begins.Long h zero = refl
flat_simple begins.Long h (suc n) = refl
flat_simple begins.Text h zero = refl
flat_simple begins.Text h (suc n) = refl
flat_simple begins.Labels h zero = refl
flat_simple begins.Labels h (suc n) = refl
flat_simple begins.Name h zero = refl
flat_simple begins.Name h (suc n) = refl
flat_simple begins.Other h zero = refl
flat_simple begins.Other h (suc n) = refl

pub unmarked_simple : (n : ℕ) (r : Reader) (k : TypeStart) (x : TypeTree × Reader) (b : Bool) → k ≡ start_of_type (next r) → b ≡ nests k → b ≡ false → simple_type k r ≡ x → unmarked_type n r ≡ x
unfolding unmarked_type
unmarked_simple n r k x b start flat is same =
    ap (λ j. type_within n j r) (sym start) ∙ ap (λ (p : Reader → TypeTree × Reader). p r) (flat_simple k (sym flat ∙ is) n) ∙ same

pub unmarked_deep : (n : ℕ) (r : Reader) (k : TypeStart) (b : Bool) → n ≡ 0 → k ≡ start_of_type (next r) → b ≡ nests k → b ≡ true
    → unmarked_type n r ≡ (boolean (place r), stopped_by TooDeep r.stop r.rest r.end)
unfolding unmarked_type too_deep
unmarked_deep n r k b none start nested is = ap (λ m. type_within m (start_of_type (next r)) r) none ∙ ap (λ j. flat_type j r) (sym start) ∙ by_start k (sym nested ∙ is)
  where
    by_start : (j : TypeStart) → nests j ≡ true → flat_type j r ≡ (boolean (place r), stopped_by TooDeep r.stop r.rest r.end)
    by_start begins.Array h = refl
    by_start begins.Sequence h = refl
    by_start begins.Record h = refl
    by_start begins.Choice h = refl
    by_start _ h = cc

-- the branch of a start, where a level is left
pub unmarked_nested : (n m : ℕ) (r : Reader) (k j : TypeStart) (x : TypeTree × Reader) → n ≡ suc m → k ≡ start_of_type (next r) → k ≡ j → type_with (type m) j r ≡ x → unmarked_type n r ≡ x
unfolding unmarked_type
unmarked_nested n m r k j x more start is same =
    ap (λ i. type_within i (start_of_type (next r)) r) more ∙ ap (λ i. type_with (type m) i r) (sym start ∙ is) ∙ same

pub only_choice : (k : TypeStart) → nests k ≡ true → (k ≡ begins.Array → ⊥) → (k ≡ begins.Sequence → ⊥) → (k ≡ begins.Record → ⊥) → k ≡ begins.Choice
only_choice begins.Array h a s r = absurd (a refl)
only_choice begins.Sequence h a s r = absurd (s refl)
only_choice begins.Record h a s r = absurd (r refl)
only_choice begins.Choice h a s r = refl
only_choice _ h a s r = cc

pub type_with_array : (m : ℕ) (r : Reader) → array_type m r ≡ type_with (type m) begins.Array r
unfolding array_type
type_with_array m r = refl

pub type_with_sequence : (m : ℕ) (r : Reader) → sequence_type m r ≡ type_with (type m) begins.Sequence r
unfolding sequence_type
type_with_sequence m r = refl

pub type_with_record : (m : ℕ) (r : Reader) → record_type m r ≡ type_with (type m) begins.Record r
unfolding record_type
type_with_record m r = refl

pub type_with_choice : (m : ℕ) (r : Reader) → choice_type m r ≡ type_with (type m) begins.Choice r
unfolding choice_type
type_with_choice m r = refl

-- what holds of the value where there is one
pub if_ok : {T E : Type 0} (o : Result T E) (P Q : T → Type 0) → ((x : T) → P x → Q x) → IfOk o P → IfOk o Q
if_ok (Ok x) P Q weaker h = weaker x h
if_ok (Err e) P Q weaker h = h

pub suc_before : (n : ℕ) → (n ≡ 0 → ⊥) → n ≡ suc (n - 1)
suc_before zero some = absurd (some refl)
suc_before (suc n) some = omega arith
