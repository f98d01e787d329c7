-- Types: a stop in one is marked with its place, and with nothing else.
use Rattle.std.proofs.Common.{◌≡◌, ℕ, zero, suc, Bool, true, false, List, [], ◌∷◌, ◌++◌, refl, ap, ◌∙◌}
use Rattle.std.specs.Prelude.{Option, Some, None, if◌then◌else◌, codes}
use Rattle.circus_text.specs.Token.{Lexeme}
use Rattle.circus_syntax.specs.declared.named.Named.{Named}
use Rattle.circus_syntax.specs.declared.stopping.StopCause.TheVariants.{Unexpected, TooDeep}
use Rattle.circus_syntax.specs.declared.reading.TypeStart.{TypeStart}
use Rattle.circus_syntax.specs.declared.reading.TypeStart.TheVariants as begins
use Rattle.circus_syntax.specs.TypeTree.{TypeTree, boolean, cardinal, integer, text, enumeration, array, sequence, «record», choice, group_trees, arm_trees, type_place}
use Rattle.circus_syntax.specs.Placed.{Placed, first, is_lexeme, is_name, is_number, word, sign, Due, due, due_at, open_level}
use Rattle.circus_syntax.specs.Reader.{Reader, place_in, stop_at, token, map_read, choose_by}
use Rattle.circus_syntax.specs.Reading.{expect_token, fixed_at, name, number, named_of, numeral_of, filled_name, filled_numeral, behind, comma_list, names, label, label_of, labels, type_name, name_of_type, start_of_type, long_of, is_long_integer, long, called_of, simple_type, too_deep, group, groups_with, arm, arm_of_parts, array_with, sequence_with, record_with, choice_with, type_with, flat_type, stop_in_type, type, type_within}
use Rattle.circus_syntax.specs.Spelling.{with_commas, spelling_name, spelling_names, spelling_number, spelling_label, spelling_type_name, spelling_type, spelling_groups}
use Rattle.circus_syntax.specs.Standing.{outside, in_type, apart, standing_type}
use Rattle.circus_syntax.proofs.Sound.{reader}
use Rattle.circus_syntax.proofs.Tokens.{spelling_fixed, spelling_fixed_at, comma_sign, is_comma}
use Rattle.circus_syntax.proofs.Types.{type_name_spelled, spelling_long, spelling_group, groups_spelled, spelling_arm, arms_spelled}
use Rattle.circus_syntax.proofs.Cuts.{Tie, Cuts, cuts_token, cuts_stopped, cuts_marked, Apart, apart_as, apart_both, apart_mapped, apart_cased, apart_either, apart_nothing, apart_optional, apart_repeated, apart_kept}

-- the mark has the list in which the token stands
abbrev pub ByList : Tie
ByList m s = s.list ≡ m.list

-- Tokens, whatever they are tied by.

pub cuts_fixed : (R : Tie) → ((at : ℕ) → R outside (stop_at Unexpected at)) → (l : Lexeme) → Apart R (expect_token l) (spelling_fixed l)
unfolding expect_token
cuts_fixed R stands l = record { cuts = cuts_token R outside (is_lexeme l) (λ t. tt) (λ at. tt) stands }

pub cuts_fixed_at : (R : Tie) → ((at : ℕ) → R outside (stop_at Unexpected at)) → (l : Lexeme) → Apart R (fixed_at l) (spelling_fixed_at l)
unfolding fixed_at
cuts_fixed_at R stands l = record { cuts = cuts_token R outside (is_lexeme l) (λ t. t.start) (λ at. at) stands }

pub cuts_name : (R : Tie) → ((at : ℕ) → R outside (stop_at Unexpected at)) → Apart R name spelling_name
unfolding name
cuts_name R stands = record { cuts = cuts_token R outside is_name named_of filled_name stands }

pub cuts_number : (R : Tie) → ((at : ℕ) → R outside (stop_at Unexpected at)) → Apart R number spelling_number
unfolding number
cuts_number R stands = record { cuts = cuts_token R outside is_number numeral_of filled_numeral stands }

pub apart_behind : (R : Tie) → ((at : ℕ) → R outside (stop_at Unexpected at)) → (l : Lexeme) {A : Type 0} {p : Reader → A × Reader} {spell : A → List Due}
    → Apart R p spell → Apart R (behind l p) (λ a. due l ∷ spell a)
apart_behind R stands l {spell = spell} P = apart_mapped R (λ x. x.1) (λ a. due l ∷ spell a) (λ x. refl) (apart_both R (cuts_fixed R stands l) P)

pub apart_listed : (R : Tie) → ((at : ℕ) → R outside (stop_at Unexpected at)) → {A : Type 0} {item : Reader → A × Reader} {spell : A → List Due}
    → Apart R item spell → Apart R (comma_list item) (with_commas spell)
apart_listed R stands {spell = spell} P =
    apart_mapped R (λ x. x.0 ∷ x.1) (with_commas spell) (λ x. refl) (apart_both R P (apart_repeated R is_comma (apart_behind R stands comma_sign P)))

pub cuts_names : (R : Tie) → ((at : ℕ) → R outside (stop_at Unexpected at)) → Apart R names spelling_names
unfolding names
cuts_names R stands = apart_listed R stands (cuts_name R stands)

-- Inside of a type.

fixed_in : (l : Lexeme) → Apart ByList (expect_token l) (spelling_fixed l)
fixed_in = cuts_fixed ByList (λ at. refl)

fixed_at_in : (l : Lexeme) → Apart ByList (fixed_at l) (spelling_fixed_at l)
fixed_at_in = cuts_fixed_at ByList (λ at. refl)

name_in : Apart ByList name spelling_name
name_in = cuts_name ByList (λ at. refl)

number_in : Apart ByList number spelling_number
number_in = cuts_number ByList (λ at. refl)

-- a part of a type
abbrev InType : {A : Type 0} → (Reader → A × Reader) → (A → List Due) → Type 0
InType p spell = Apart ByList p spell

labels_in : InType labels (with_commas spelling_label)
unfolding labels label
labels_in =
    apart_listed ByList (λ at. refl)
    (apart_mapped ByList label_of spelling_label (λ x. refl)
    (apart_both ByList name_in (apart_both ByList (fixed_in (sign (codes "("))) (apart_both ByList number_in (fixed_in (sign (codes ")")))))))

type_name_in : InType name_of_type spelling_type_name
unfolding name_of_type
type_name_in =
    apart_mapped ByList (λ x. type_name x.0 x.1) spelling_type_name type_name_spelled
    (apart_both ByList name_in (apart_optional ByList (is_lexeme (sign (codes "."))) (apart_behind ByList (λ at. refl) (sign (codes ".")) name_in)))

long_in : InType long spelling_type
unfolding long is_long_integer
long_in =
    apart_mapped ByList long_of spelling_type (λ x. spelled x.0 x.1)
    (apart_both ByList (fixed_at_in (word (codes "LONG")))
    (apart_either ByList (is_lexeme (word (codes "INTEGER")))
    (apart_mapped ByList (λ x. true) spelling_long (λ x. refl) (fixed_in (word (codes "INTEGER"))))
    (apart_mapped ByList (λ x. false) spelling_long (λ x. refl) (fixed_in (word (codes "CARDINAL"))))))
  where
    spelled : (at : ℕ) (b : Bool) → spelling_type (long_of (at, b)) ≡ due_at (word (codes "LONG")) at ∷ spelling_long b
    spelled at true = refl
    spelled at false = refl

at_in : (w : Lexeme) (f : ℕ → TypeTree) → ((at : ℕ) → spelling_type (f at) ≡ due_at w at ∷ []) → InType (map_read f (fixed_at w)) spelling_type
at_in w f spelled = apart_mapped ByList f spelling_type spelled (fixed_at_in w)

simple_in : (k : TypeStart) → InType (simple_type k) spelling_type
unfolding simple_type
simple_in begins.Cardinal = at_in (word (codes "CARDINAL")) cardinal (λ at. refl)
simple_in begins.Integer = at_in (word (codes "INTEGER")) integer (λ at. refl)
simple_in begins.Long = long_in
simple_in begins.Text = at_in (word (codes "STRING")) text (λ at. refl)
simple_in begins.Labels =
    apart_mapped ByList (λ x. enumeration x.0 x.1.0) spelling_type (λ x. refl)
    (apart_both ByList (fixed_at_in (sign (codes "{"))) (apart_both ByList labels_in (fixed_in (sign (codes "}")))))
simple_in begins.Name = apart_mapped ByList called_of spelling_type (λ x. refl) type_name_in
simple_in _ = at_in (word (codes "BOOLEAN")) boolean (λ at. refl)

apart_opened : (ds : List Due) → apart (open_level ds) ≡ apart ds
apart_opened [] = refl
apart_opened (d ∷ ds) = ap (λ l. outside ∷ l) (apart_opened ds)

opened_in : {A : Type 0} {p : Reader → A × Reader} {spell : A → List Due} → InType p spell → InType p (λ a. open_level (spell a))
opened_in {spell = spell} P = apart_as ByList (λ a. open_level (spell a)) (λ a. apart_opened (spell a)) P

group_in : {inner : Reader → TypeTree × Reader} → InType inner spelling_type → InType (group inner) spelling_group
group_in T =
    apart_mapped ByList (λ x. record { names = x.0; shape = x.1.1 }) spelling_group (λ x. refl)
    (apart_both ByList (cuts_names ByList (λ at. refl)) (apart_both ByList (fixed_in (sign (codes ":"))) T))

groups_in : {inner : Reader → TypeTree × Reader} → InType inner spelling_type → InType (groups_with inner) (λ gs. spelling_groups (group_trees gs))
groups_in T =
    apart_either ByList (is_lexeme (sign (codes "]")))
    (apart_nothing ByList [] (λ gs. spelling_groups (group_trees gs)) refl)
    (apart_as ByList (λ gs. spelling_groups (group_trees gs)) (λ gs. ap apart (groups_spelled gs)) (apart_listed ByList (λ at. refl) (group_in T)))

arm_in : {inner : Reader → TypeTree × Reader} → InType inner spelling_type → InType (arm inner) spelling_arm
arm_in T =
    apart_mapped ByList arm_of_parts spelling_arm (λ x. refl)
    (apart_both ByList name_in (apart_both ByList (fixed_in (sign (codes "("))) (apart_both ByList number_in (apart_both ByList (fixed_in (sign (codes ")"))) (apart_both ByList (fixed_in (sign (codes "=>"))) T)))))

array_in : {inner : Reader → TypeTree × Reader} → InType inner spelling_type → InType (array_with inner) spelling_type
array_in T =
    apart_mapped ByList (λ x. array x.0 x.1.0 x.1.1.1) spelling_type (λ x. refl)
    (opened_in (apart_both ByList (fixed_at_in (word (codes "ARRAY"))) (apart_both ByList number_in (apart_both ByList (fixed_in (word (codes "OF"))) T))))

sequence_in : {inner : Reader → TypeTree × Reader} → InType inner spelling_type → InType (sequence_with inner) spelling_type
sequence_in T =
    apart_mapped ByList (λ x. sequence x.0 x.1.0 x.1.1.1) spelling_type (λ x. refl)
    (opened_in (apart_both ByList (fixed_at_in (word (codes "SEQUENCE"))) (apart_both ByList (apart_optional ByList is_number number_in) (apart_both ByList (fixed_in (word (codes "OF"))) T))))

record_in : {inner : Reader → TypeTree × Reader} → InType inner spelling_type → InType (record_with inner) spelling_type
record_in T =
    apart_mapped ByList (λ x. «record» x.0 (group_trees x.1.1.0)) spelling_type (λ x. refl)
    (opened_in (apart_both ByList (fixed_at_in (word (codes "RECORD"))) (apart_both ByList (fixed_in (sign (codes "["))) (apart_both ByList (groups_in T) (fixed_in (sign (codes "]")))))))

choice_in : {inner : Reader → TypeTree × Reader} → InType inner spelling_type → InType (choice_with inner) spelling_type
choice_in T =
    apart_mapped ByList (λ x. choice x.0 (arm_trees x.1.1.1.0)) spelling_type
    (λ x. ap (λ l. open_level (due_at (word (codes "CHOICE")) x.0 ∷ due (word (codes "OF")) ∷ due (sign (codes "{")) ∷ (l ++ due (sign (codes "}")) ∷ []))) (arms_spelled x.1.1.1.0))
    (opened_in (apart_both ByList (fixed_at_in (word (codes "CHOICE"))) (apart_both ByList (fixed_in (word (codes "OF"))) (apart_both ByList (fixed_in (sign (codes "{")))
    (apart_both ByList (apart_listed ByList (λ at. refl) (arm_in T)) (fixed_in (sign (codes "}"))))))))

type_with_in : {inner : Reader → TypeTree × Reader} → InType inner spelling_type → (k : TypeStart) → InType (type_with inner k) spelling_type
type_with_in T begins.Array = array_in T
type_with_in T begins.Sequence = sequence_in T
type_with_in T begins.Record = record_in T
type_with_in T begins.Choice = choice_in T
type_with_in T begins.Cardinal = simple_in begins.Cardinal
type_with_in T begins.Integer = simple_in begins.Integer
type_with_in T begins.Long = simple_in begins.Long
type_with_in T begins.Text = simple_in begins.Text
type_with_in T begins.Labels = simple_in begins.Labels
type_with_in T begins.Name = simple_in begins.Name
type_with_in T begins.Other = simple_in begins.Other

too_deep_in : InType too_deep spelling_type
unfolding too_deep
too_deep_in = record { cuts = cuts_stopped ByList outside TooDeep boolean (λ t. apart (spelling_type t)) (λ at. refl) (λ at. refl) }

flat_in : (k : TypeStart) → InType (flat_type k) spelling_type
flat_in begins.Array = too_deep_in
flat_in begins.Sequence = too_deep_in
flat_in begins.Record = too_deep_in
flat_in begins.Choice = too_deep_in
flat_in begins.Cardinal = simple_in begins.Cardinal
flat_in begins.Integer = simple_in begins.Integer
flat_in begins.Long = simple_in begins.Long
flat_in begins.Text = simple_in begins.Text
flat_in begins.Labels = simple_in begins.Labels
flat_in begins.Name = simple_in begins.Name
flat_in begins.Other = simple_in begins.Other

type_in : (n : ℕ) → InType (type n) spelling_type
unfolding type
type_in zero = apart_kept ByList stop_in_type (λ at m s is. is) (apart_cased ByList start_of_type flat_type flat_in)
type_in (suc n) = apart_kept ByList stop_in_type (λ at m s is. is) (apart_cased ByList start_of_type (type_with (type n)) (type_with_in (type_in n)))

unmarked_in : (n : ℕ) → InType (choose_by start_of_type (type_within n)) spelling_type
unmarked_in zero = apart_cased ByList start_of_type flat_type flat_in
unmarked_in (suc n) = apart_cased ByList start_of_type (type_with (type n)) (type_with_in (type_in n))

-- A type begins at the next token.

-- a production that answers at the place of the next token
abbrev Here : {A : Type 0} → (A → ℕ) → (Reader → A × Reader) → Type 0
Here place p = (ts : List Placed) (e : ℕ) → place (p (reader None ts e)).0 ≡ place_in ts e

here_token : {A : Type 0} (place : A → ℕ) (test : Placed → Bool) (read : Placed → A) (fill : ℕ → A) → ((t : Placed) → place (read t) ≡ t.start) → ((at : ℕ) → place (fill at) ≡ at) → Here place (token test read fill)
here_token {A} place test read fill reads fills ts e = by_tokens ts
  where
    tested : (b : Bool) (t : Placed) (us : List Placed) → place (if◌then◌else◌ {A = A × Reader} b (read t, reader None us e) (fill t.start, reader (Some (stop_at Unexpected t.start)) (t ∷ us) e)).0 ≡ t.start
    tested true t us = reads t
    tested false t us = fills t.start

    by_tokens : (us : List Placed) → place (token test read fill (reader None us e)).0 ≡ place_in us e
    by_tokens [] = fills e
    by_tokens (t ∷ us) = tested (test t) t us

pub here_fixed : (l : Lexeme) → Here (λ at. at) (fixed_at l)
unfolding fixed_at
here_fixed l = here_token (λ at. at) (is_lexeme l) (λ t. t.start) (λ at. at) (λ t. refl) (λ at. refl)

here_name : Here (λ (n : Named). n.at) name
unfolding name
here_name = here_token (λ (n : Named). n.at) is_name named_of filled_name (λ t. refl) (λ at. refl)

named_first : (n : Named) (o : Option Named) → type_place (called_of (type_name n o)) ≡ n.at
named_first n None = refl
named_first n (Some m) = refl

long_first : (at : ℕ) (b : Bool) → type_place (long_of (at, b)) ≡ at
long_first at true = refl
long_first at false = refl

here_simple : (k : TypeStart) → Here type_place (simple_type k)
unfolding simple_type long name_of_type
here_simple begins.Cardinal ts e = here_fixed (word (codes "CARDINAL")) ts e
here_simple begins.Integer ts e = here_fixed (word (codes "INTEGER")) ts e
here_simple begins.Long ts e = long_first _ _ ∙ here_fixed (word (codes "LONG")) ts e
here_simple begins.Text ts e = here_fixed (word (codes "STRING")) ts e
here_simple begins.Labels ts e = here_fixed (sign (codes "{")) ts e
here_simple begins.Name ts e = named_first _ _ ∙ here_name ts e
here_simple _ ts e = here_fixed (word (codes "BOOLEAN")) ts e

here_type_with : (inner : Reader → TypeTree × Reader) (k : TypeStart) → Here type_place (type_with inner k)
here_type_with inner begins.Array ts e = here_fixed (word (codes "ARRAY")) ts e
here_type_with inner begins.Sequence ts e = here_fixed (word (codes "SEQUENCE")) ts e
here_type_with inner begins.Record ts e = here_fixed (word (codes "RECORD")) ts e
here_type_with inner begins.Choice ts e = here_fixed (word (codes "CHOICE")) ts e
here_type_with inner begins.Cardinal ts e = here_simple begins.Cardinal ts e
here_type_with inner begins.Integer ts e = here_simple begins.Integer ts e
here_type_with inner begins.Long ts e = here_simple begins.Long ts e
here_type_with inner begins.Text ts e = here_simple begins.Text ts e
here_type_with inner begins.Labels ts e = here_simple begins.Labels ts e
here_type_with inner begins.Name ts e = here_simple begins.Name ts e
here_type_with inner begins.Other ts e = here_simple begins.Other ts e

here_flat : (k : TypeStart) → Here type_place (flat_type k)
unfolding too_deep
here_flat begins.Array ts e = refl
here_flat begins.Sequence ts e = refl
here_flat begins.Record ts e = refl
here_flat begins.Choice ts e = refl
here_flat begins.Cardinal ts e = here_simple begins.Cardinal ts e
here_flat begins.Integer ts e = here_simple begins.Integer ts e
here_flat begins.Long ts e = here_simple begins.Long ts e
here_flat begins.Text ts e = here_simple begins.Text ts e
here_flat begins.Labels ts e = here_simple begins.Labels ts e
here_flat begins.Name ts e = here_simple begins.Name ts e
here_flat begins.Other ts e = here_simple begins.Other ts e

here_type : (n : ℕ) → Here type_place (choose_by start_of_type (type_within n))
here_type zero ts e = here_flat (start_of_type (first ts)) ts e
here_type (suc n) ts e = here_type_with (type n) (start_of_type (first ts)) ts e

-- Whole types.

-- the mark has what the token stands in
abbrev pub Exactly : Tie
Exactly m s = (s.within ≡ m.within) × (s.list ≡ m.list)

pub cuts_type : (n : ℕ) → Cuts Exactly (type n) standing_type
unfolding type
cuts_type zero = cuts_marked ByList Exactly stop_in_type in_type type_place (λ at m s is. (refl, is)) (here_type zero) (unmarked_in zero).cuts
cuts_type (suc n) = cuts_marked ByList Exactly stop_in_type in_type type_place (λ at m s is. (refl, is)) (here_type (suc n)) (unmarked_in (suc n)).cuts
