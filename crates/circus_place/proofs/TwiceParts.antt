-- Names, values, machines and relations at tokens that are the same up to a place.
use Rattle.std.proofs.Common.{◌≡◌, ℕ, true, false, List, [], ◌∷◌, ◌++◌, refl, sym, append-nil}
use Rattle.std.specs.Prelude.{Bool, Option, Some, None, codes}
use Rattle.std.specs.List.{flat_map}
use Rattle.std.proofs.lemmas.Slice.Eq.{bytes_eq-Decides}
use Rattle.circus_text.specs.Token.{content_of}
use Rattle.circus_syntax.specs.declared.named.Named.{Named}
use Rattle.circus_syntax.specs.declared.named.Numeral.{Numeral}
use Rattle.circus_syntax.specs.Placed.{word, sign, is_lexeme, is_text}
use Rattle.circus_syntax.specs.Reading.{quoted_text, named_of, filled_name, filled_numeral}
use Rattle.circus_syntax.specs.Filling.{as_name, as_number, as_names}
use Rattle.circus_syntax.proofs.Tokens.{comma_sign, is_comma, shrinks_behind}
use Rattle.circus_syntax.proofs.TypesRead.{is_dot}
use Rattle.circus_syntax.proofs.Twice.{Twice, twice_token, twice_both, twice_mapped, twice_never, twice_cased, twice_either, twice_nothing, twice_repeated, twice_fixed, twice_number, twice_behind, twice_listed, twice_optional}
use Rattle.circus_syntax.proofs.TwiceTypes.{unlike}
use Rattle.circus_place.specs.declared.condition.Comparison.{Comparison}
use Rattle.circus_place.specs.declared.text.ConstantText.{ConstantText}
use Rattle.circus_place.specs.declared.text.ConstantText.TheVariants as constant
use Rattle.circus_place.specs.declared.text.AttributeText.{AttributeText}
use Rattle.circus_place.specs.declared.text.MachineText.{MachineText}
use Rattle.circus_place.specs.declared.text.OperandText.{OperandText}
use Rattle.circus_place.specs.declared.text.OperandText.TheVariants as operand
use Rattle.circus_place.specs.declared.start.ValueStart.{ValueStart}
use Rattle.circus_place.specs.declared.start.ValueStart.TheVariants as value
use Rattle.circus_place.specs.Written.{differ}
use Rattle.circus_place.specs.Grammar.{truth_word, sign_of}
use Rattle.circus_place.specs.Filling.{as_constant, as_attribute, as_first_attribute, as_attributes, as_machine, as_operand, as_condition}
use Rattle.circus_place.specs.Seen.Reading.{is_own_name, own_name, own_names, value_start, constant_by, a_constant, operand_by, attribute, attributes, machine, machines, number_operand, number_or_attribute, an_operand, seen_comparison, compared_by, rest_of_relation, relation_from, relation, differ_test, filled_condition}
use Rattle.circus_place.proofs.Parts.{lawful_own_name, lawful_attribute, shrinks_machine}

pub twice_own_name : (P : ℕ) → Twice P own_name as_name (filled_name P)
unfolding own_name
twice_own_name P =
    twice_token P is_own_name named_of filled_name as_name (filled_name P) (λ x. refl)
    (λ t there filled. λ i. record { name = (bytes_eq-Decides t.bytes (codes "x")).0 filled.0 i; at = there i })

-- a name that isn't filled in
twice_other_name : (P : ℕ) → Twice P own_name (λ n. false ∷ []) (filled_name P)
unfolding own_name
twice_other_name P = twice_token P is_own_name named_of filled_name (λ n. false ∷ []) (filled_name P) (λ x. refl) (λ t there filled. absurd (unlike filled.0))

pub twice_own_names : (P : ℕ) → Twice P own_names as_names (filled_name P ∷ [])
unfolding own_names
twice_own_names P = twice_listed P (shrinks_behind comma_sign (lawful_own_name 0).narrow) (twice_own_name P)

-- Values.

twice_quoted : (P : ℕ) → Twice P quoted_text (λ x. false ∷ []) ([], P)
unfolding quoted_text
twice_quoted P = twice_token P is_text (λ t. (content_of t.bytes, t.start)) (λ at. ([], at)) (λ x. false ∷ []) ([], P) (λ x. refl) (λ t there filled. absurd (unlike filled.0))

abbrev pub filled_constant : ℕ → ConstantText
filled_constant P = constant.Number (filled_numeral P)

pub twice_constant_by : (P : ℕ) (k : ValueStart) → Twice P (constant_by k) as_constant (filled_constant P)
twice_constant_by P value.Number = twice_mapped P (λ n. constant.Number n) as_constant (λ x. refl) (twice_number P)
twice_constant_by P value.Text = twice_never P (λ x. constant.Text x.0 x.1) as_constant (filled_constant P) (λ x. refl) (λ x filled. unlike filled.0) (twice_quoted P)
twice_constant_by P value.True = twice_never P (λ x. constant.Truth true) as_constant (filled_constant P) (λ x. refl) (λ x filled. unlike filled.0) (twice_fixed P false (truth_word true))
twice_constant_by P value.False = twice_never P (λ x. constant.Truth false) as_constant (filled_constant P) (λ x. refl) (λ x filled. unlike filled.0) (twice_fixed P false (truth_word false))

twice_constant : (P : ℕ) → Twice P a_constant as_constant (filled_constant P)
unfolding a_constant
twice_constant P = twice_cased P value_start constant_by (twice_constant_by P)

-- Attributes and machines.

abbrev filled_attribute : ℕ → AttributeText
filled_attribute P = record { name = filled_name P; constant = filled_constant P }

pub twice_attribute : (P : ℕ) → Twice P attribute as_attribute (filled_attribute P)
unfolding attribute
twice_attribute P =
    twice_mapped P (λ x. record { name = x.0; constant = x.1.1 }) as_attribute (λ x. refl)
    (twice_both P (twice_own_name P) (twice_both P (twice_fixed P true (sign (codes "="))) (twice_constant P)))

twice_first_attribute : (P : ℕ) → Twice P attribute as_first_attribute (filled_attribute P)
unfolding attribute
twice_first_attribute P =
    twice_mapped P (λ x. record { name = x.0; constant = x.1.1 }) as_first_attribute (λ x. refl)
    (twice_both P (twice_other_name P) (twice_both P (twice_fixed P true (sign (codes "="))) (twice_constant P)))

pub twice_attributes : (P : ℕ) → Twice P attributes as_attributes []
unfolding attributes
twice_attributes P =
    twice_either P is_own_name
    (twice_never P (λ x. x.0 ∷ x.1) as_attributes [] (λ x. refl) (λ x filled. unlike filled.0)
    (twice_both P (twice_first_attribute P)
    (twice_repeated P is_comma (shrinks_behind comma_sign (lawful_attribute 0).narrow) (λ x filled. unlike filled.0) (twice_behind P false comma_sign (twice_attribute P)))))
    (twice_nothing P [] as_attributes refl)

abbrev filled_machine : ℕ → MachineText
filled_machine P = record { name = filled_name P; attributes = [] }

pub twice_machine : (P : ℕ) → Twice P machine as_machine (filled_machine P)
unfolding machine
twice_machine P =
    twice_mapped P (λ x. record { name = x.1.0; attributes = x.1.1.1.0 }) as_machine (λ x. refl)
    (twice_both P (twice_fixed P false (word (codes "MACHINE"))) (twice_both P (twice_own_name P) (twice_both P (twice_fixed P true (sign (codes "[")))
    (twice_both P (twice_attributes P) (twice_both P (twice_fixed P true (sign (codes "]"))) (twice_fixed P true (sign (codes ";"))))))))

pub twice_machines : (P : ℕ) → Twice P machines (flat_map as_machine) []
unfolding machines
twice_machines P = twice_repeated P (is_lexeme (word (codes "MACHINE"))) shrinks_machine (λ x filled. unlike filled.0) (twice_machine P)

-- Operands.

-- the dot and the name behind a number
abbrev pub as_attribute_of : Option Named → List Bool
as_attribute_of None = []
as_attribute_of (Some name) = false ∷ as_name name

pub numbered_so : (x : Numeral × Option Named) → as_operand (number_operand x.0 x.1) ≡ as_number x.0 ++ as_attribute_of x.1
numbered_so x = by_name x.0 x.1
  where
    by_name : (n : Numeral) (o : Option Named) → as_operand (number_operand n o) ≡ as_number n ++ as_attribute_of o
    by_name n None = refl
    by_name n (Some m) = refl

abbrev pub filled_operand : ℕ → OperandText
filled_operand P = operand.Fixed (filled_constant P)

pub twice_operand_by : (P : ℕ) (k : ValueStart) → Twice P (operand_by k) as_operand (filled_operand P)
unfolding number_or_attribute
twice_operand_by P value.Number =
    twice_mapped P (λ x. number_operand x.0 x.1) as_operand numbered_so
    (twice_both P (twice_number P)
    (twice_optional P is_dot as_attribute_of refl (λ x. refl) (λ x filled. unlike filled.0) (twice_behind P false (sign (codes ".")) (twice_own_name P))))
twice_operand_by P value.Text = twice_mapped P (λ c. operand.Fixed c) as_operand (λ c. refl) (twice_constant_by P value.Text)
twice_operand_by P value.True = twice_mapped P (λ c. operand.Fixed c) as_operand (λ c. refl) (twice_constant_by P value.True)
twice_operand_by P value.False = twice_mapped P (λ c. operand.Fixed c) as_operand (λ c. refl) (twice_constant_by P value.False)

pub twice_operand : (P : ℕ) → Twice P an_operand as_operand (filled_operand P)
unfolding an_operand
twice_operand P = twice_cased P value_start operand_by (twice_operand_by P)

-- Relations.

abbrev pub as_compared : Option (Comparison × OperandText) → List Bool
as_compared None = []
as_compared (Some x) = false ∷ as_operand x.1

pub twice_compared_by : (P : ℕ) (k : Option Comparison) → Twice P (compared_by k) as_compared None
twice_compared_by P None = twice_nothing P None as_compared refl
twice_compared_by P (Some c) =
    twice_never P (λ x. Some (c, x)) as_compared None (λ x. refl) (λ x filled. unlike filled.0) (twice_behind P false (sign_of c) (twice_operand P))

pub related_so : (x : OperandText × Option (Comparison × OperandText)) → as_condition (relation_from x.0 x.1) ≡ as_operand x.0 ++ as_compared x.1
related_so x = by_right x.0 x.1
  where
    by_right : (a : OperandText) (o : Option (Comparison × OperandText)) → as_condition (relation_from a o) ≡ as_operand a ++ as_compared o
    by_right a None = sym (append-nil (as_operand a))
    by_right a (Some y) = refl

pub twice_relation : (P : ℕ) → Twice P relation as_condition (filled_condition P)
unfolding relation rest_of_relation
twice_relation P =
    twice_mapped P (λ x. relation_from x.0 x.1) as_condition related_so
    (twice_both P (twice_operand P) (twice_cased P seen_comparison compared_by (twice_compared_by P)))

pub twice_differing : (P : ℕ) → Twice P differ_test as_condition (filled_condition P)
unfolding differ_test
twice_differing P =
    twice_never P (λ x. differ x.1.1) as_condition (filled_condition P) (λ x. refl) (λ x filled. unlike filled.0)
    (twice_both P (twice_fixed P false (word (codes "ALL"))) (twice_both P (twice_fixed P true (word (codes "DIFFER"))) (twice_own_name P)))
