-- Types at tokens that are the same up to a place.
use Rattle.std.proofs.Common.{◌≡◌, ℕ, zero, suc, Bool, true, false, not, List, [], ◌∷◌, ◌++◌, refl, ap}
use Rattle.std.specs.Prelude.{Option, Some, None, codes}
use Rattle.circus_text.specs.Token.{Lexeme}
use Rattle.circus_syntax.specs.declared.named.Named.{Named}
use Rattle.circus_syntax.specs.declared.named.TypeName.{TypeName}
use Rattle.circus_syntax.specs.declared.named.LabelText.{LabelText}
use Rattle.circus_syntax.specs.declared.stopping.StopCause.TheVariants.{TooDeep}
use Rattle.circus_syntax.specs.declared.reading.TypeStart.{TypeStart}
use Rattle.circus_syntax.specs.declared.reading.TypeStart.TheVariants as begins
use Rattle.circus_syntax.specs.TypeTree.{TypeTree, GroupTree, ArmTree, boolean, cardinal, integer, text, enumeration, array, sequence, «record», choice, group_trees, arm_trees}
use Rattle.circus_syntax.specs.Placed.{is_lexeme, is_name, is_number, word, sign}
use Rattle.circus_syntax.specs.Reader.{Reader, nothing, both, map_read, either_case, repeat_while, passes}
use Rattle.circus_syntax.specs.Reading.{expect_token, fixed_at, name, number, named_of, numeral_of, filled_name, filled_numeral, behind, comma_list, names, label, label_of, labels, type_name, name_of_type, start_of_type, long_of, is_long_integer, long, called_of, simple_type, too_deep, group, groups_with, arm, arm_of_parts, array_with, sequence_with, record_with, choice_with, type_with, flat_type, stop_in_type, type}
use Rattle.circus_syntax.specs.Spelling.{spelling_type}
use Rattle.circus_syntax.proofs.Sound.{Sound}
use Rattle.circus_syntax.proofs.Tokens.{comma_sign, is_comma, sound_name, shrinks_behind}
use Rattle.circus_syntax.proofs.Types.{IsTypeWithin, sound_label, sound_group, sound_arm, sound_type}
use Rattle.circus_syntax.specs.Filling.{AllSo, behind_commas, as_name, as_number, as_listed, as_names, as_label, as_bound, as_type_name, as_closed, as_type, as_groups, as_more_groups, as_arms, as_more_arms}
use Rattle.circus_syntax.proofs.Twice.{Twice, twice_token, twice_both, twice_mapped, twice_never, twice_cased, twice_either, twice_stopped, twice_marked, twice_fixed, twice_fixed_at, twice_name, twice_number, twice_behind, twice_listed, twice_optional, twice_repeated}

pub unlike : false ≡ true → ⊥
unlike is = cc

pub twice_names : (P : ℕ) → Twice P names as_names (filled_name P ∷ [])
unfolding names
twice_names P = twice_listed P (shrinks_behind comma_sign sound_name) (twice_name P)

pub filled_label : ℕ → LabelText
filled_label P = label_of (filled_name P, (tt, (filled_numeral P, tt)))

pub twice_label : (P : ℕ) → Twice P label as_label (filled_label P)
unfolding label filled_label
twice_label P =
    twice_mapped P label_of as_label (λ x. refl)
    (twice_both P (twice_name P) (twice_both P (twice_fixed P true (sign (codes "("))) (twice_both P (twice_number P) (twice_fixed P true (sign (codes ")"))))))

pub twice_labels : (P : ℕ) → Twice P labels (as_listed as_label) (filled_label P ∷ [])
unfolding labels
twice_labels P = twice_listed P (shrinks_behind comma_sign sound_label) (twice_label P)

-- a name that isn't filled in
pub twice_other_name : (P : ℕ) → Twice P name (λ n. false ∷ []) (filled_name P)
unfolding name
twice_other_name P = twice_token P is_name named_of filled_name (λ n. false ∷ []) (filled_name P) (λ x. refl) (λ t there filled. absurd (unlike filled.0))

twice_other_number : (P : ℕ) → Twice P number (λ n. false ∷ []) (filled_numeral P)
unfolding number
twice_other_number P = twice_token P is_number numeral_of filled_numeral (λ n. false ∷ []) (filled_numeral P) (λ x. refl) (λ t there filled. absurd (unlike filled.0))

abbrev pub second_name : Option Named → List Bool
second_name None = []
second_name (Some n) = false ∷ as_name n

pub named_so : (x : Named × Option Named) → as_type_name (type_name x.0 x.1).«module» (type_name x.0 x.1).name ≡ false ∷ second_name x.1
named_so x = by_parts x.0 x.1
  where
    by_parts : (m : Named) (o : Option Named) → as_type_name (type_name m o).«module» (type_name m o).name ≡ false ∷ second_name o
    by_parts m None = refl
    by_parts m (Some n) = refl

pub twice_name_of_type : (P : ℕ) → Twice P name_of_type (λ t. as_type_name t.«module» t.name) (type_name (filled_name P) None)
unfolding name_of_type
twice_name_of_type P =
    twice_mapped P (λ x. type_name x.0 x.1) (λ (t : TypeName). as_type_name t.«module» t.name) named_so
    (twice_both P (twice_other_name P)
    (twice_optional P (is_lexeme (sign (codes "."))) second_name refl (λ x. refl) (λ x filled. unlike filled.0) (twice_behind P false (sign (codes ".")) (twice_name P))))

never_named : (m : Option Named) (n : Named) → AllSo (as_type_name m n) → ⊥
never_named None n filled = unlike filled.0
never_named (Some m) n filled = unlike filled.0

pub twice_is_long : (P : ℕ) → Twice P is_long_integer (λ b. not b ∷ []) false
unfolding is_long_integer
twice_is_long P =
    twice_either P (is_lexeme (word (codes "INTEGER")))
    (twice_never P (λ x. true) (λ b. not b ∷ []) false (λ x. refl) (λ x filled. unlike filled.0) (twice_fixed P false (word (codes "INTEGER"))))
    (twice_mapped P (λ x. false) (λ b. not b ∷ []) (λ x. refl) (twice_fixed P true (word (codes "CARDINAL"))))

pub long_so : (at : ℕ) (b : Bool) → as_type (long_of (at, b)) ≡ false ∷ not b ∷ []
long_so at true = refl
long_so at false = refl

never_long : (at : ℕ) (b : Bool) → AllSo (as_type (long_of (at, b))) → ⊥
never_long at true filled = unlike filled.0
never_long at false filled = unlike filled.0

twice_at : (P : ℕ) (w : Lexeme) (f : ℕ → TypeTree) → ((at : ℕ) → as_type (f at) ≡ false ∷ []) → ((at : ℕ) → AllSo (as_type (f at)) → ⊥) → Twice P (map_read f (fixed_at w)) as_type (boolean P)
twice_at P w f so never = twice_never P f as_type (boolean P) so never (twice_fixed_at P false w)

pub twice_simple : (P : ℕ) (k : TypeStart) → Twice P (simple_type k) as_type (boolean P)
unfolding simple_type long
twice_simple P begins.Cardinal = twice_at P (word (codes "CARDINAL")) cardinal (λ at. refl) (λ at filled. unlike filled.0)
twice_simple P begins.Integer = twice_at P (word (codes "INTEGER")) integer (λ at. refl) (λ at filled. unlike filled.0)
twice_simple P begins.Long =
    twice_never P long_of as_type (boolean P) (λ x. long_so x.0 x.1) (λ x filled. never_long x.0 x.1 filled) (twice_both P (twice_fixed_at P false (word (codes "LONG"))) (twice_is_long P))
twice_simple P begins.Text = twice_at P (word (codes "STRING")) text (λ at. refl) (λ at filled. unlike filled.0)
twice_simple P begins.Labels =
    twice_never P (λ x. enumeration x.0 x.1.0) as_type (boolean P) (λ x. refl) (λ x filled. unlike filled.0)
    (twice_both P (twice_fixed_at P false (sign (codes "{"))) (twice_both P (twice_labels P) (twice_fixed P true (sign (codes "}")))))
twice_simple P begins.Name = twice_never P called_of as_type (boolean P) (λ x. refl) (λ x filled. never_named x.«module» x.name filled) (twice_name_of_type P)
twice_simple P _ = twice_mapped P boolean as_type (λ x. refl) (twice_fixed_at P true (word (codes "BOOLEAN")))

-- ---- types of types

abbrev pub as_group : GroupTree → List Bool
as_group g = as_names g.names ++ true ∷ as_type g.shape

abbrev pub as_arm : ArmTree → List Bool
as_arm a = as_name a.name ++ true ∷ (as_number a.number ++ true ∷ true ∷ as_type a.shape)

pub more_groups_so : (gs : List GroupTree) → as_more_groups (group_trees gs) ≡ behind_commas as_group gs
more_groups_so [] = refl
more_groups_so (g ∷ gs) = ap (λ l. (false ∷ as_group g) ++ l) (more_groups_so gs)

more_arms_so : (rest : List ArmTree) → as_more_arms (arm_trees rest) ≡ behind_commas as_arm rest
more_arms_so [] = refl
more_arms_so (a ∷ rest) = ap (λ l. (false ∷ as_arm a) ++ l) (more_arms_so rest)

pub arms_so : (rest : List ArmTree) → as_arms (arm_trees rest) ≡ as_listed as_arm rest
arms_so [] = refl
arms_so (a ∷ rest) = ap (λ l. as_arm a ++ l) (more_arms_so rest)

-- groups, and the bracket behind them
abbrev pub as_closed_groups : List GroupTree × Unit {0} → List Bool
as_closed_groups x = as_groups (group_trees x.0) ++ as_closed (group_trees x.0)

abbrev pub Items : (A : Type 0) → Type 0
Items A = (A × List A) × Unit {0}

abbrev pub listed : {A : Type 0} → Items A → List A × Unit {0}
listed x = (x.0.0 ∷ x.0.1, x.1)

abbrev pub filled_group : ℕ → GroupTree
filled_group P = record { names = filled_name P ∷ []; shape = boolean P }

module _ (P n : ℕ) {inner : Reader → TypeTree × Reader} (S : Sound inner spelling_type (IsTypeWithin n)) (T : Twice P inner as_type (boolean P)) where
  pub twice_group : Twice P (group inner) as_group (filled_group P)
  twice_group = twice_mapped P (λ x. record { names = x.0; shape = x.1.1 }) as_group (λ x. refl) (twice_both P (twice_names P) (twice_both P (twice_fixed P true (sign (codes ":"))) T))

  pub groups_so : (x : Items GroupTree) → as_closed_groups (listed x) ≡ (as_group x.0.0 ++ behind_commas as_group x.0.1) ++ true ∷ []
  groups_so x = ap (λ l. (as_group x.0.0 ++ l) ++ true ∷ []) (more_groups_so x.0.1)

  twice_items : Twice P (both (group inner) (repeat_while is_comma (behind comma_sign (group inner)))) (λ x. as_group x.0 ++ behind_commas as_group x.1) (filled_group P, [])
  twice_items = twice_both P twice_group (twice_repeated P is_comma (shrinks_behind comma_sign (sound_group n S)) (λ x filled. unlike filled.0) (twice_behind P false comma_sign twice_group))

  closed_by : (k : Bool) → Twice P (both (either_case (nothing []) (comma_list (group inner)) k) (expect_token (sign (codes "]")))) as_closed_groups (filled_group P ∷ [], tt)
  closed_by true = twice_never P (λ u. ([], u)) as_closed_groups (filled_group P ∷ [], tt) (λ u. refl) (λ u filled. unlike filled.0) (twice_fixed P false (sign (codes "]")))
  closed_by false = twice_mapped P listed as_closed_groups groups_so (twice_both P twice_items (twice_fixed P true (sign (codes "]"))))

  pub twice_closed_groups : Twice P (both (groups_with inner) (expect_token (sign (codes "]")))) as_closed_groups (filled_group P ∷ [], tt)
  twice_closed_groups = twice_cased P (passes (is_lexeme (sign (codes "]")))) (λ k. both (either_case (nothing []) (comma_list (group inner)) k) (expect_token (sign (codes "]")))) closed_by

  pub twice_arm : Twice P (arm inner) as_arm (arm_of_parts (filled_name P, (tt, (filled_numeral P, (tt, (tt, boolean P))))))
  twice_arm =
      twice_mapped P arm_of_parts as_arm (λ x. refl)
      (twice_both P (twice_name P) (twice_both P (twice_fixed P true (sign (codes "("))) (twice_both P (twice_number P) (twice_both P (twice_fixed P true (sign (codes ")"))) (twice_both P (twice_fixed P true (sign (codes "=>"))) T)))))

  twice_array : Twice P (array_with inner) as_type (boolean P)
  twice_array =
      twice_never P (λ x. array x.0 x.1.0 x.1.1.1) as_type (boolean P) (λ x. refl) (λ x filled. unlike filled.0)
      (twice_both P (twice_fixed_at P false (word (codes "ARRAY"))) (twice_both P (twice_number P) (twice_both P (twice_fixed P true (word (codes "OF"))) T)))

  twice_sequence : Twice P (sequence_with inner) as_type (boolean P)
  twice_sequence =
      twice_never P (λ x. sequence x.0 x.1.0 x.1.1.1) as_type (boolean P) (λ x. refl) (λ x filled. unlike filled.0)
      (twice_both P (twice_fixed_at P false (word (codes "SEQUENCE")))
      (twice_both P (twice_optional P is_number as_bound refl (λ x. refl) (λ x filled. unlike filled.0) (twice_other_number P)) (twice_both P (twice_fixed P true (word (codes "OF"))) T)))

  twice_record : Twice P (record_with inner) as_type (boolean P)
  twice_record =
      twice_never P (λ x. «record» x.0 (group_trees x.1.1.0)) as_type (boolean P) (λ x. refl) (λ x filled. unlike filled.0)
      (twice_both P (twice_fixed_at P false (word (codes "RECORD"))) (twice_both P (twice_fixed P true (sign (codes "["))) twice_closed_groups))

  twice_choice : Twice P (choice_with inner) as_type (boolean P)
  twice_choice =
      twice_never P (λ x. choice x.0 (arm_trees x.1.1.1.0)) as_type (boolean P) (λ x. ap (λ l. false ∷ true ∷ true ∷ (l ++ true ∷ [])) (arms_so x.1.1.1.0)) (λ x filled. unlike filled.0)
      (twice_both P (twice_fixed_at P false (word (codes "CHOICE"))) (twice_both P (twice_fixed P true (word (codes "OF"))) (twice_both P (twice_fixed P true (sign (codes "{")))
      (twice_both P (twice_listed P (shrinks_behind comma_sign (sound_arm n S)) twice_arm) (twice_fixed P true (sign (codes "}")))))))

  pub twice_type_with : (k : TypeStart) → Twice P (type_with inner k) as_type (boolean P)
  twice_type_with begins.Array = twice_array
  twice_type_with begins.Sequence = twice_sequence
  twice_type_with begins.Record = twice_record
  twice_type_with begins.Choice = twice_choice
  twice_type_with begins.Cardinal = twice_simple P begins.Cardinal
  twice_type_with begins.Integer = twice_simple P begins.Integer
  twice_type_with begins.Long = twice_simple P begins.Long
  twice_type_with begins.Text = twice_simple P begins.Text
  twice_type_with begins.Labels = twice_simple P begins.Labels
  twice_type_with begins.Name = twice_simple P begins.Name
  twice_type_with begins.Other = twice_simple P begins.Other

twice_too_deep : (P : ℕ) → Twice P too_deep as_type (boolean P)
unfolding too_deep
twice_too_deep P = twice_stopped P TooDeep boolean as_type (boolean P)

pub twice_flat : (P : ℕ) (k : TypeStart) → Twice P (flat_type k) as_type (boolean P)
twice_flat P begins.Array = twice_too_deep P
twice_flat P begins.Sequence = twice_too_deep P
twice_flat P begins.Record = twice_too_deep P
twice_flat P begins.Choice = twice_too_deep P
twice_flat P begins.Cardinal = twice_simple P begins.Cardinal
twice_flat P begins.Integer = twice_simple P begins.Integer
twice_flat P begins.Long = twice_simple P begins.Long
twice_flat P begins.Text = twice_simple P begins.Text
twice_flat P begins.Labels = twice_simple P begins.Labels
twice_flat P begins.Name = twice_simple P begins.Name
twice_flat P begins.Other = twice_simple P begins.Other

pub twice_type : (P n : ℕ) → Twice P (type n) as_type (boolean P)
unfolding type
twice_type P zero = twice_marked P stop_in_type (twice_cased P start_of_type flat_type (twice_flat P))
twice_type P (suc n) = twice_marked P stop_in_type (twice_cased P start_of_type (type_with (type n)) (twice_type_with P n (sound_type n) (twice_type P n)))
