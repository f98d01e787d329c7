-- Names, values, machines and relations: where reading stops in one, what stands behind the tokens that were read is filled in.
use Rattle.std.proofs.Common.{◌≡◌, Bool, true, false, List, [], ◌∷◌, refl}
use Rattle.std.specs.Prelude.{Option, Some, None, codes, if◌then◌else◌}
use Rattle.std.specs.List.{flat_map}
use Rattle.circus_text.specs.Token.{content_of}
use Rattle.circus_syntax.specs.Placed.{Placed, first, word, sign, is_lexeme, is_text}
use Rattle.circus_syntax.specs.Reader.{passes, repeat_while}
use Rattle.circus_syntax.specs.Reading.{quoted_text, named_of, filled_name, behind}
use Rattle.circus_syntax.specs.Filling.{as_name, behind_commas, as_names}
use Rattle.circus_syntax.proofs.Tokens.{comma_sign, is_comma, shrinks_behind}
use Rattle.circus_syntax.proofs.TypesRead.{is_dot}
use Rattle.circus_syntax.proofs.Twice.{still_both, still_mapped, twice_behind, twice_repeated}
use Rattle.circus_syntax.proofs.TwiceTypes.{unlike}
use Rattle.circus_syntax.proofs.Fills.{Fills, FillsAt, at_token, at_then, at_mapped, at_fixed, at_behind, fills_token, fills_both, fills_mapped, fills_fixed, fills_number, fills_either, fills_nothing, fills_cased, fills_repeated, fills_listed, fills_optional, still_fixed, still_behind}
use Rattle.circus_place.specs.declared.condition.Comparison.{Comparison}
use Rattle.circus_place.specs.declared.condition.Comparison.TheVariants as by
use Rattle.circus_place.specs.declared.text.ConstantText.TheVariants as constant
use Rattle.circus_place.specs.declared.text.OperandText.TheVariants as operand
use Rattle.circus_place.specs.declared.start.ValueStart.{ValueStart}
use Rattle.circus_place.specs.declared.start.ValueStart.TheVariants as value
use Rattle.circus_place.specs.Written.{differ}
use Rattle.circus_place.specs.Grammar.{truth_word, sign_of}
use Rattle.circus_place.specs.Filling.{as_constant, as_attribute, as_first_attribute, as_attributes, as_machine, as_operand, as_condition}
use Rattle.circus_place.specs.Seen.Reading.{is_own_name, own_name, own_names, value_start, constant_by, a_constant, operand_by, attribute, attributes, machine, machines, number_operand, number_or_attribute, an_operand, seen_comparison, compared_by, rest_of_relation, relation_from, relation, differ_test}
use Rattle.circus_place.proofs.Parts.{lawful_own_name, lawful_attribute, shrinks_machine}
use Rattle.circus_place.proofs.TwiceParts.{twice_own_name, twice_constant_by, twice_attribute, twice_machine, twice_machines, as_attribute_of, numbered_so, twice_operand_by, as_compared, twice_compared_by, related_so}

-- Names.

pub fills_own_name : Fills own_name as_name
unfolding own_name
fills_own_name = fills_token is_own_name named_of filled_name as_name (λ x. refl) (λ at. (refl, tt))

at_own_name : (flag : Bool) (ts : List Placed) → passes is_own_name (first ts) ≡ true → FillsAt own_name (λ x. flag ∷ []) ts
unfolding own_name
at_own_name flag [] hit = absurd (cc)
at_own_name flag (t ∷ ts) hit = at_token is_own_name named_of filled_name (λ x. flag ∷ []) (λ x. refl) t ts hit

pub fills_own_names : Fills own_names as_names
unfolding own_names
fills_own_names =
    fills_listed (shrinks_behind comma_sign (lawful_own_name 0).narrow)
    (twice_repeated 0 is_comma (shrinks_behind comma_sign (lawful_own_name 0).narrow) (λ x filled. unlike filled.0) (twice_behind 0 false comma_sign (twice_own_name 0))).stays fills_own_name

-- Values.

at_quoted : (ts : List Placed) → passes is_text (first ts) ≡ true → FillsAt quoted_text (λ x. false ∷ []) ts
unfolding quoted_text
at_quoted [] hit = absurd (cc)
at_quoted (t ∷ ts) hit = at_token is_text (λ t. (content_of t.bytes, t.start)) (λ at. ([], at)) (λ x. false ∷ []) (λ x. refl) t ts hit

-- the token that such a value begins with
abbrev ValueBegun : ValueStart → List Placed → Type 0
ValueBegun value.Number ts = Unit {0}
ValueBegun value.Text ts = passes is_text (first ts) ≡ true
ValueBegun value.True ts = passes (is_lexeme (truth_word true)) (first ts) ≡ true
ValueBegun value.False ts = passes (is_lexeme (truth_word false)) (first ts) ≡ true

value_begun : (ts : List Placed) → ValueBegun (value_start (first ts)) ts
unfolding value_start
value_begun [] = tt
value_begun (t ∷ ts) = by_tests (is_text t) (is_lexeme (truth_word true) t) (is_lexeme (truth_word false) t) refl refl refl
  where
    by_tests : (a b c : Bool) → is_text t ≡ a → is_lexeme (truth_word true) t ≡ b → is_lexeme (truth_word false) t ≡ c
        → ValueBegun (if a then value.Text else (if b then value.True else (if c then value.False else value.Number))) (t ∷ ts)
    by_tests true b c is_a is_b is_c = is_a
    by_tests false true c is_a is_b is_c = is_b
    by_tests false false true is_a is_b is_c = is_c
    by_tests false false false is_a is_b is_c = tt

fills_zero : Fills (constant_by value.Number) as_constant
fills_zero = fills_mapped (λ n. constant.Number n) as_constant (λ x. refl) fills_number

constant_at : (k : ValueStart) (ts : List Placed) → ValueBegun k ts → FillsAt (constant_by k) as_constant ts
constant_at value.Number ts hit = fills_zero.runs ts
constant_at value.Text ts hit = at_mapped (λ x. constant.Text x.0 x.1) as_constant (λ x. refl) ts (at_quoted ts hit)
constant_at value.True ts hit = at_mapped (λ x. constant.Truth true) as_constant (λ x. refl) ts (at_fixed false (truth_word true) ts hit)
constant_at value.False ts hit = at_mapped (λ x. constant.Truth false) as_constant (λ x. refl) ts (at_fixed false (truth_word false) ts hit)

fills_constant : Fills a_constant as_constant
unfolding a_constant value_start
fills_constant = fills_cased value_start constant_by (λ k. (twice_constant_by 0 k).stays) fills_zero.stopped (λ ts. constant_at (value_start (first ts)) ts (value_begun ts))

-- Attributes and machines.

fills_attribute : Fills attribute as_attribute
unfolding attribute
fills_attribute =
    fills_mapped (λ x. record { name = x.0; constant = x.1.1 }) as_attribute (λ x. refl)
    (fills_both fills_own_name (fills_both (fills_fixed (sign (codes "="))) fills_constant))

first_attribute_at : (ts : List Placed) → passes is_own_name (first ts) ≡ true → FillsAt attribute as_first_attribute ts
unfolding attribute
first_attribute_at ts hit =
    at_mapped (λ x. record { name = x.0; constant = x.1.1 }) as_first_attribute (λ x. refl) ts
    (at_then fills_own_name.stays ts (at_own_name false ts hit) (fills_both (fills_fixed (sign (codes "="))) fills_constant))

fills_more_attributes : Fills (repeat_while is_comma (behind comma_sign attribute)) (behind_commas as_attribute)
fills_more_attributes =
    let shrinks = shrinks_behind comma_sign (lawful_attribute 0).narrow in
    fills_repeated is_comma shrinks (still_behind comma_sign fills_attribute.stays)
    (twice_repeated 0 is_comma shrinks (λ x filled. unlike filled.0) (twice_behind 0 false comma_sign (twice_attribute 0))).stays (λ ts hit. at_behind false comma_sign ts hit fills_attribute)

fills_attributes : Fills attributes as_attributes
unfolding attributes
fills_attributes =
    fills_either is_own_name (still_mapped (λ x. x.0 ∷ x.1) (still_both fills_attribute.stays fills_more_attributes.stays))
    (λ ts hit. at_mapped (λ x. x.0 ∷ x.1) as_attributes (λ x. refl) ts (at_then fills_attribute.stays ts (first_attribute_at ts hit) fills_more_attributes))
    (fills_nothing [] as_attributes refl)

machine_at : (ts : List Placed) → passes (is_lexeme (word (codes "MACHINE"))) (first ts) ≡ true → FillsAt machine as_machine ts
unfolding machine
machine_at ts hit =
    at_mapped (λ x. record { name = x.1.0; attributes = x.1.1.1.0 }) as_machine (λ x. refl) ts
    (at_then (still_fixed (word (codes "MACHINE"))) ts (at_fixed false (word (codes "MACHINE")) ts hit)
    (fills_both fills_own_name (fills_both (fills_fixed (sign (codes "["))) (fills_both fills_attributes (fills_both (fills_fixed (sign (codes "]"))) (fills_fixed (sign (codes ";"))))))))

pub fills_machines : Fills machines (flat_map as_machine)
unfolding machines
fills_machines = fills_repeated (is_lexeme (word (codes "MACHINE"))) shrinks_machine (twice_machine 0).stays (twice_machines 0).stays machine_at

-- Operands.

fills_numbered : Fills (operand_by value.Number) as_operand
unfolding number_or_attribute
fills_numbered =
    fills_mapped (λ x. number_operand x.0 x.1) as_operand numbered_so
    (fills_both fills_number
    (fills_optional is_dot as_attribute_of refl (λ x. refl) (still_behind (sign (codes ".")) fills_own_name.stays) (λ ts hit. at_behind false (sign (codes ".")) ts hit fills_own_name)))

operand_at : (k : ValueStart) (ts : List Placed) → ValueBegun k ts → FillsAt (operand_by k) as_operand ts
operand_at value.Number ts hit = fills_numbered.runs ts
operand_at value.Text ts hit = at_mapped (λ c. operand.Fixed c) as_operand (λ c. refl) ts (constant_at value.Text ts hit)
operand_at value.True ts hit = at_mapped (λ c. operand.Fixed c) as_operand (λ c. refl) ts (constant_at value.True ts hit)
operand_at value.False ts hit = at_mapped (λ c. operand.Fixed c) as_operand (λ c. refl) ts (constant_at value.False ts hit)

fills_operand : Fills an_operand as_operand
unfolding an_operand value_start
fills_operand = fills_cased value_start operand_by (λ k. (twice_operand_by 0 k).stays) fills_numbered.stopped (λ ts. operand_at (value_start (first ts)) ts (value_begun ts))

-- Relations.

-- the sign that a comparison is
abbrev SignSeen : Option Comparison → List Placed → Type 0
SignSeen None ts = Unit {0}
SignSeen (Some c) ts = passes (is_lexeme (sign_of c)) (first ts) ≡ true

sign_seen : (ts : List Placed) → SignSeen (seen_comparison (first ts)) ts
unfolding seen_comparison
sign_seen [] = tt
sign_seen (t ∷ ts) =
    by_tests (is_lexeme (sign (codes "=")) t) (is_lexeme (sign (codes "<>")) t) (is_lexeme (sign (codes "<")) t) (is_lexeme (sign (codes "<=")) t) (is_lexeme (sign (codes ">")) t) (is_lexeme (sign (codes ">=")) t)
    refl refl refl refl refl refl
  where
    by_tests : (a b c d e f : Bool) → is_lexeme (sign (codes "=")) t ≡ a → is_lexeme (sign (codes "<>")) t ≡ b → is_lexeme (sign (codes "<")) t ≡ c → is_lexeme (sign (codes "<=")) t ≡ d
        → is_lexeme (sign (codes ">")) t ≡ e → is_lexeme (sign (codes ">=")) t ≡ f
        → SignSeen (if a then Some by.Equal else (if b then Some by.Unequal else (if c then Some by.Less else (if d then Some by.AtMost else (if e then Some by.Greater else (if f then Some by.AtLeast else None)))))) (t ∷ ts)
    by_tests true b c d e f is_a is_b is_c is_d is_e is_f = is_a
    by_tests false true c d e f is_a is_b is_c is_d is_e is_f = is_b
    by_tests false false true d e f is_a is_b is_c is_d is_e is_f = is_c
    by_tests false false false true e f is_a is_b is_c is_d is_e is_f = is_d
    by_tests false false false false true f is_a is_b is_c is_d is_e is_f = is_e
    by_tests false false false false false true is_a is_b is_c is_d is_e is_f = is_f
    by_tests false false false false false false is_a is_b is_c is_d is_e is_f = tt

fills_none : Fills (compared_by None) as_compared
fills_none = fills_nothing None as_compared refl

compared_at : (k : Option Comparison) (ts : List Placed) → SignSeen k ts → FillsAt (compared_by k) as_compared ts
compared_at None ts hit = fills_none.runs ts
compared_at (Some c) ts hit = at_mapped (λ x. Some (c, x)) as_compared (λ x. refl) ts (at_behind false (sign_of c) ts hit fills_operand)

fills_compared : Fills rest_of_relation as_compared
unfolding rest_of_relation seen_comparison
fills_compared = fills_cased seen_comparison compared_by (λ k. (twice_compared_by 0 k).stays) fills_none.stopped (λ ts. compared_at (seen_comparison (first ts)) ts (sign_seen ts))

pub fills_relation : Fills relation as_condition
unfolding relation
fills_relation = fills_mapped (λ x. relation_from x.0 x.1) as_condition related_so (fills_both fills_operand fills_compared)

pub differing_at : (ts : List Placed) → passes (is_lexeme (word (codes "ALL"))) (first ts) ≡ true → FillsAt differ_test as_condition ts
unfolding differ_test
differing_at ts hit =
    at_mapped (λ x. differ x.1.1) as_condition (λ x. refl) ts
    (at_then (still_fixed (word (codes "ALL"))) ts (at_fixed false (word (codes "ALL")) ts hit) (fills_both (fills_fixed (word (codes "DIFFER"))) fills_own_name))
