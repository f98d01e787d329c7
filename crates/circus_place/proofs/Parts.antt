-- Names, values, machines and relations: what is read is spelled, and what is spelled is read.
use Rattle.std.proofs.Common.{◌≡◌, ℕ, true, false, not, List, [], ◌∷◌, ◌++◌, refl, sym, ◌∙◌, ap, subst, append-nil, ◌⊎◌, inl, inr}
use Rattle.std.specs.Prelude.{Option, Some, None, codes}
use Rattle.std.proofs.lemmas.Bool.{and_parts, not-true}
use Rattle.circus_text.specs.declared.token.TokenKind.TheVariants.{Word}
use Rattle.circus_text.specs.Token.{Lexeme, IsSpelling}
use Rattle.circus_syntax.specs.declared.named.Named.{Named}
use Rattle.circus_syntax.specs.declared.named.Numeral.{Numeral}
use Rattle.circus_syntax.specs.Placed.{Placed, first, same_kind, word, sign, is_lexeme, Due, due, due_name, AreDue}
use Rattle.circus_syntax.specs.Reader.{Reader, passes, both, map_read}
use Rattle.circus_syntax.specs.Reading.{expect_token, named_of, filled_name}
use Rattle.circus_syntax.specs.Spelling.{with_commas, each, if_written, spelling_name, spelling_names, spelling_number, IsEach, IsListed, IfWritten, IsNumeral}
use Rattle.circus_syntax.proofs.Sound.{Sound, sound_token}
use Rattle.circus_syntax.proofs.Repeats.{Shrinks}
use Rattle.circus_syntax.proofs.Complete.{Complete, Any, Opens, complete_token}
use Rattle.circus_syntax.proofs.Tokens.{same_kind-is, Always, IsQuotedText, opens_due, is_comma, shrinks_fixed, shrinks_both}
use Rattle.circus_syntax.proofs.TypesRead.{is_dot, NotDot, NotComma}
use Rattle.circus_syntax.proofs.Lawful.{Lawful, lawful_at, lawful_token, lawful_weaker, lawful_fixed, lawful_number, lawful_quoted, lawful_both, lawful_then, lawful_mapped, lawful_cased, lawful_rest, lawful_optional, lawful_repeated, lawful_behind, lawful_listed, branch_of}
use Rattle.circus_place.specs.declared.condition.Comparison.{Comparison}
use Rattle.circus_place.specs.declared.condition.Comparison.TheVariants as by
use Rattle.circus_place.specs.declared.text.ConstantText.{ConstantText}
use Rattle.circus_place.specs.declared.text.ConstantText.TheVariants as constant
use Rattle.circus_place.specs.declared.text.AttributeText.{AttributeText}
use Rattle.circus_place.specs.declared.text.OperandText.{OperandText}
use Rattle.circus_place.specs.declared.text.OperandText.TheVariants as operand
use Rattle.circus_place.specs.declared.start.ValueStart.{ValueStart}
use Rattle.circus_place.specs.declared.start.ValueStart.TheVariants as value
use Rattle.circus_place.specs.Words.{is_placing_word, placing_words}
use Rattle.circus_place.specs.Written.{differ}
use Rattle.circus_place.specs.Grammar.{truth_word, spelling_constant, spelling_attribute, spelling_machine, spelling_operand, sign_of, spelling_condition, IsOwnName, IsConstant, IsAttribute, IsMachine, IsOperand}
use Rattle.circus_place.specs.Seen.Reading.{is_own_name, own_name, own_names, value_start, constant_by, a_constant, operand_by, attribute, attributes, machine, machines, number_operand, number_or_attribute, an_operand, seen_comparison, compared_by, rest_of_relation, relation_from, relation, differ_test}
use Rattle.circus_place.proofs.Ways.{due_is, number_is, text_is, Image, lawful_image, lawful_nothing}

-- Names.

name_parts : (t : Placed) → is_own_name t ≡ true → (t.kind ≡ Word) × (is_placing_word t.bytes ≡ false)
name_parts t hit =
    let (kind, free) = and_parts (same_kind t.kind Word) (not (is_placing_word t.bytes)) hit in
    (same_kind-is t.kind Word kind, not-true (is_placing_word t.bytes) free)

x_is_free : is_placing_word (codes "x") ≡ false
unfolding is_placing_word placing_words
x_is_free = refl

x_is_word : IsSpelling Word (codes "x")
x_is_word = record { formed = (refl, refl); no_bad_byte = refl; no_long_number = refl }

sound_own_name : Sound own_name spelling_name IsOwnName
unfolding own_name
sound_own_name =
    sound_token is_own_name named_of filled_name spelling_name IsOwnName
    (λ t hit fine.
    let (kind, free) = name_parts t hit in
    ((subst (λ k. IsSpelling k t.bytes) kind fine, free), ((kind, refl, refl), tt)))
    (λ at. ((x_is_word, x_is_free), record { kind = Word; bytes = codes "x"; start = at }, refl, ((refl, refl, refl), tt)))

own_name_of : (t : Placed) → t.kind ≡ Word → is_placing_word t.bytes ≡ false → is_own_name t ≡ true
own_name_of t kind free = rw (kind, free) refl

complete_own_name : Complete own_name spelling_name IsOwnName Any
unfolding own_name
complete_own_name = complete_token is_own_name named_of filled_name spelling_name IsOwnName back
  where
    back : (a : Named) (ts : List Placed) → IsOwnName a → AreDue (due_name a ∷ []) ts → (t : Placed) × (ts ≡ t ∷ []) × (is_own_name t ≡ true) × (named_of t ≡ a)
    back a [] good d = absurd d
    back a (t ∷ []) good d = (t, refl, own_name_of t d.0.0 (ap is_placing_word d.0.1 ∙ good.1), λ i. record { name = d.0.1 i; at = d.0.2 i })
    back a (t ∷ u ∷ ts) good d = absurd d.1

pub lawful_own_name : (n : ℕ) → Lawful n own_name own_name spelling_name IsOwnName Any
unfolding own_name
lawful_own_name n = lawful_token n is_own_name named_of filled_name (λ a. (_, refl, refl)) sound_own_name complete_own_name

pub lawful_own_names : (n : ℕ) → Lawful n own_names own_names spelling_names (IsListed IsOwnName) NotComma
unfolding own_names
lawful_own_names n = lawful_weaker n NotComma (λ o h. (tt, h)) (lawful_listed n (λ o h. tt) (lawful_own_name n))

-- Constants.

abbrev IsConstantBy : ValueStart → ConstantText → Type 0
IsConstantBy value.Number = Image (λ n. constant.Number n) IsNumeral
IsConstantBy value.Text = Image (λ x. constant.Text x.0 x.1) IsQuotedText
IsConstantBy value.True = Image (λ (u : Unit {0}). constant.Truth true) Always
IsConstantBy value.False = Image (λ (u : Unit {0}). constant.Truth false) Always

constant_by_lawful : (n : ℕ) (k : ValueStart) → Lawful n (constant_by k) (constant_by k) spelling_constant (IsConstantBy k) Any
constant_by_lawful n value.Number = lawful_image n (λ m. constant.Number m) spelling_constant (λ x. refl) (lawful_number n)
constant_by_lawful n value.Text = lawful_image n (λ x. constant.Text x.0 x.1) spelling_constant (λ x. refl) (lawful_quoted n)
constant_by_lawful n value.True = lawful_image n (λ u. constant.Truth true) spelling_constant (λ x. refl) (lawful_fixed n (truth_word true))
constant_by_lawful n value.False = lawful_image n (λ u. constant.Truth false) spelling_constant (λ x. refl) (lawful_fixed n (truth_word false))

good_constant : (k : ValueStart) (c : ConstantText) → IsConstantBy k c → IsConstant c
good_constant value.Number c (x, is, g) = subst IsConstant is g
good_constant value.Text c (x, is, g) = subst IsConstant is g
good_constant value.True c (x, is, g) = subst IsConstant is g
good_constant value.False c (x, is, g) = subst IsConstant is g

constant_begins : (c : ConstantText) (ts rest : List Placed) → IsConstant c → AreDue (spelling_constant c) ts → (k : ValueStart) × (value_start (first (ts ++ rest)) ≡ k) × IsConstantBy k c
unfolding value_start
constant_begins (constant.Number n) ts rest g d = (value.Number, number_is value_start value.Number n [] ts rest (λ w s. refl) d, (n, refl, g))
constant_begins (constant.Text content at) ts rest g d = (value.Text, text_is value_start value.Text content at [] ts rest (λ w s. refl) d, ((content, at), refl, g))
constant_begins (constant.Truth true) ts rest g d = (value.True, due_is value_start value.True (truth_word true) [] ts rest (λ s. refl) d, (tt, refl, tt))
constant_begins (constant.Truth false) ts rest g d = (value.False, due_is value_start value.False (truth_word false) [] ts rest (λ s. refl) d, (tt, refl, tt))

pub lawful_constant : (n : ℕ) → Lawful n a_constant a_constant spelling_constant IsConstant Any
unfolding a_constant
lawful_constant n =
    lawful_cased value_start n constant_by constant_by IsConstantBy
    (λ k. branch_of value_start k n IsConstant (good_constant k) (constant_by_lawful n k)) (λ s ts e. refl) (λ c ts rest g d stays. constant_begins c ts rest g d)

-- Attributes and machines.

pub lawful_attribute : (n : ℕ) → Lawful n attribute attribute spelling_attribute IsAttribute Any
unfolding attribute
lawful_attribute n =
    lawful_mapped n (λ x. record { name = x.0; constant = x.1.1 }) spelling_attribute IsAttribute (λ x. refl) (λ x g. (g.0, g.1.1))
    (λ a g. ((a.name, (tt, a.constant)), refl, (g.0, (tt, g.1))))
    (lawful_then n (lawful_own_name n) (lawful_then n (lawful_fixed n (sign (codes "="))) (lawful_constant n)))

pub each_listed : {A : Type 0} (P : A → Type 0) (xs : List A) → IsEach P xs → (xs ≡ []) ⊎ IsListed P xs
each_listed P [] g = inl refl
each_listed P (x ∷ xs) g = inr g

pub listed_each : {A : Type 0} (P : A → Type 0) (xs : List A) → IsListed P xs → IsEach P xs
listed_each P [] g = absurd g
listed_each P (x ∷ xs) g = g

abbrev NoAttribute : Option Placed → Type 0
NoAttribute o = NotComma o × (passes is_own_name o ≡ false)

attributes_open : Opens (with_commas spelling_attribute) (IsListed IsAttribute) is_own_name
attributes_open [] ts rest g d = absurd g
attributes_open (a ∷ more) [] rest g d = absurd d
attributes_open (a ∷ more) (t ∷ ts) rest g d = own_name_of t d.0.0 (ap is_placing_word d.0.1 ∙ g.0.0.1)

pub lawful_attributes : (n : ℕ) → Lawful n attributes attributes (with_commas spelling_attribute) (IsEach IsAttribute) NoAttribute
unfolding attributes
lawful_attributes n =
    lawful_rest is_own_name n [] (IsEach IsAttribute) refl tt (listed_each IsAttribute) (each_listed IsAttribute) attributes_open
    (lawful_at is_own_name n (lawful_weaker n NotComma (λ o h. (tt, h)) (lawful_listed n (λ o h. tt) (lawful_attribute n))))

-- what stands behind the word MACHINE
abbrev MachineParts : Type 0
MachineParts = Named × (Unit {0} × (List AttributeText × (Unit {0} × Unit {0})))

abbrev spelling_machine_parts : MachineParts → List Due
spelling_machine_parts x = due_name x.0 ∷ due (sign (codes "[")) ∷ (with_commas spelling_attribute x.1.1.0 ++ due (sign (codes "]")) ∷ due (sign (codes ";")) ∷ [])

abbrev AreMachineParts : MachineParts → Type 0
AreMachineParts x = IsOwnName x.0 × (Unit {0} × (IsEach IsAttribute x.1.1.0 × (Unit {0} × Unit {0})))

abbrev machine_parts : Reader → MachineParts × Reader
machine_parts = both own_name (both (expect_token (sign (codes "["))) (both attributes (both (expect_token (sign (codes "]"))) (expect_token (sign (codes ";"))))))

machine_parts_lawful : (n : ℕ) → Lawful n machine_parts machine_parts spelling_machine_parts AreMachineParts Any
machine_parts_lawful n =
    lawful_then n (lawful_own_name n) (lawful_then n (lawful_fixed n (sign (codes "[")))
    (lawful_both n (lawful_attributes n) (lawful_then n (lawful_fixed n (sign (codes "]"))) (lawful_fixed n (sign (codes ";"))))
    (λ x ts rest g d stays. (
      due_is (passes is_comma) false (sign (codes "]")) (due (sign (codes ";")) ∷ []) ts rest (λ s. refl) d,
      due_is (passes is_own_name) false (sign (codes "]")) (due (sign (codes ";")) ∷ []) ts rest (λ s. refl) d,
    ))))

abbrev machine_word : Lexeme
machine_word = word (codes "MACHINE")

pub lawful_machine : (n : ℕ) → Lawful n machine machine spelling_machine IsMachine Any
unfolding machine
lawful_machine n =
    lawful_mapped n (λ x. record { name = x.1.0; attributes = x.1.1.1.0 }) spelling_machine IsMachine (λ x. refl) (λ x g. (g.1.0, g.1.1.1.0))
    (λ m g. ((tt, (m.name, (tt, (m.attributes, (tt, tt))))), refl, (tt, (g.0, (tt, (g.1, (tt, tt)))))))
    (lawful_then n (lawful_fixed n machine_word) (machine_parts_lawful n))

pub shrinks_machine : Shrinks (is_lexeme machine_word) machine
unfolding machine
shrinks_machine r hit = shrinks_both (is_lexeme machine_word) (expect_token machine_word) machine_parts (shrinks_fixed machine_word) (machine_parts_lawful 0).narrow r hit

abbrev pub NoMachine : Option Placed → Type 0
NoMachine o = passes (is_lexeme machine_word) o ≡ false

pub lawful_machines : (n : ℕ) → Lawful n machines machines (each spelling_machine) (IsEach IsMachine) NoMachine
unfolding machines
lawful_machines n =
    lawful_weaker n NoMachine (λ o h. (tt, h))
    (lawful_repeated (is_lexeme machine_word) n shrinks_machine shrinks_machine
    (λ m ts rest g d. opens_due machine_word (spelling_machine_parts (m.name, (tt, (m.attributes, (tt, tt))))) ts rest d)
    (λ o h. tt) (lawful_at (is_lexeme machine_word) n (lawful_machine n)))

-- Operands.

numbered_spelled : (n : Numeral) (o : Option Named) → spelling_operand (number_operand n o) ≡ spelling_number n ++ if_written (λ m. due (sign (codes ".")) ∷ spelling_name m) o
numbered_spelled n None = refl
numbered_spelled n (Some m) = refl

abbrev IsOperandBy : ValueStart → OperandText → Type 0
IsOperandBy value.Number = Image (λ (x : Numeral × Option Named). number_operand x.0 x.1) (λ x. IsNumeral x.0 × IfWritten IsOwnName x.1)
IsOperandBy k = Image (λ c. operand.Fixed c) (IsConstantBy k)

fixed_lawful : (n : ℕ) (k : ValueStart) → Lawful n (map_read (λ c. operand.Fixed c) (constant_by k)) (map_read (λ c. operand.Fixed c) (constant_by k)) spelling_operand (Image (λ c. operand.Fixed c) (IsConstantBy k)) NotDot
fixed_lawful n k = lawful_weaker n NotDot (λ o h. tt) (lawful_image n (λ c. operand.Fixed c) spelling_operand (λ c. refl) (constant_by_lawful n k))

operand_by_lawful : (n : ℕ) (k : ValueStart) → Lawful n (operand_by k) (operand_by k) spelling_operand (IsOperandBy k) NotDot
unfolding number_or_attribute
operand_by_lawful n value.Number =
    lawful_image n (λ x. number_operand x.0 x.1) spelling_operand (λ x. numbered_spelled x.0 x.1)
    (lawful_then n (lawful_number n)
    (lawful_weaker n NotDot (λ o h. (tt, h))
    (lawful_optional is_dot n (λ m ts rest g d. opens_due (sign (codes ".")) (spelling_name m) ts rest d) (lawful_at is_dot n (lawful_behind n (sign (codes ".")) (lawful_own_name n))))))
operand_by_lawful n value.Text = fixed_lawful n value.Text
operand_by_lawful n value.True = fixed_lawful n value.True
operand_by_lawful n value.False = fixed_lawful n value.False

numbered_good : (n : Numeral) (o : Option Named) → IsNumeral n → IfWritten IsOwnName o → IsOperand (number_operand n o)
numbered_good n None g h = g
numbered_good n (Some m) g h = (g, h)

good_operand : (k : ValueStart) (a : OperandText) → IsOperandBy k a → IsOperand a
good_operand value.Number a (x, is, g) = subst IsOperand is (numbered_good x.0 x.1 g.0 g.1)
good_operand value.Text a (c, is, g) = subst IsOperand is (good_constant value.Text c g)
good_operand value.True a (c, is, g) = subst IsOperand is (good_constant value.True c g)
good_operand value.False a (c, is, g) = subst IsOperand is (good_constant value.False c g)

fixed_by : (k : ValueStart) (c : ConstantText) → IsConstantBy k c → IsOperandBy k (operand.Fixed c)
fixed_by value.Number c (n, is, g) = ((n, None), ap (λ d. operand.Fixed d) is, (g, tt))
fixed_by value.Text c g = (c, refl, g)
fixed_by value.True c g = (c, refl, g)
fixed_by value.False c g = (c, refl, g)

operand_begins : (a : OperandText) (ts rest : List Placed) → IsOperand a → AreDue (spelling_operand a) ts → (k : ValueStart) × (value_start (first (ts ++ rest)) ≡ k) × IsOperandBy k a
unfolding value_start
operand_begins (operand.Attribute m name) ts rest g d =
    (value.Number, number_is value_start value.Number m (due (sign (codes ".")) ∷ due_name name ∷ []) ts rest (λ w s. refl) d, ((m, Some name), refl, (g.0, g.1)))
operand_begins (operand.Fixed c) ts rest g d = let (k, is, by_k) = constant_begins c ts rest g d in (k, is, fixed_by k c by_k)

pub lawful_operand : (n : ℕ) → Lawful n an_operand an_operand spelling_operand IsOperand NotDot
unfolding an_operand
lawful_operand n =
    lawful_cased value_start n operand_by operand_by IsOperandBy
    (λ k. branch_of value_start k n IsOperand (good_operand k) (operand_by_lawful n k)) (λ s ts e. refl) (λ a ts rest g d stays. operand_begins a ts rest g d)

-- Relations.

-- a comparison and its right side
abbrev spelling_compared : Comparison × OperandText → List Due
spelling_compared x = due (sign_of x.0) ∷ spelling_operand x.1

abbrev pub IsCompared : Comparison × OperandText → Type 0
IsCompared x = IsOperand x.1

abbrev IsComparedBy : Option Comparison → Option (Comparison × OperandText) → Type 0
IsComparedBy None = λ o. o ≡ None
IsComparedBy (Some c) = Image (λ x. Some (c, x)) IsOperand

-- what doesn't go on a condition that stands by itself
abbrev pub Calms : Option Placed → Type 0
Calms o = NotDot o × (seen_comparison o ≡ None)

compared_by_lawful : (n : ℕ) (k : Option Comparison) → Lawful n (compared_by k) (compared_by k) (if_written spelling_compared) (IsComparedBy k) Calms
compared_by_lawful n None = lawful_weaker n Calms (λ o h. tt) (lawful_nothing n None (if_written spelling_compared) (IsComparedBy None) refl refl (λ a is. is))
compared_by_lawful n (Some c) =
    lawful_weaker n Calms (λ o h. h.0) (lawful_image n (λ x. Some (c, x)) (if_written spelling_compared) (λ x. refl) (lawful_behind n (sign_of c) (lawful_operand n)))

good_compared : (k : Option Comparison) (o : Option (Comparison × OperandText)) → IsComparedBy k o → IfWritten IsCompared o
good_compared None o is = subst (IfWritten IsCompared) (sym is) tt
good_compared (Some c) o (x, is, g) = subst (IfWritten IsCompared) is g

comparison_starts : (c : Comparison) (s : ℕ) → seen_comparison (Some (record { kind = (sign_of c).kind; bytes = (sign_of c).bytes; start = s })) ≡ Some c
unfolding seen_comparison
comparison_starts by.Equal s = refl
comparison_starts by.Unequal s = refl
comparison_starts by.Less s = refl
comparison_starts by.AtMost s = refl
comparison_starts by.Greater s = refl
comparison_starts by.AtLeast s = refl

comparison_no_dot : (c : Comparison) (s : ℕ) → is_dot (record { kind = (sign_of c).kind; bytes = (sign_of c).bytes; start = s }) ≡ false
comparison_no_dot by.Equal s = refl
comparison_no_dot by.Unequal s = refl
comparison_no_dot by.Less s = refl
comparison_no_dot by.AtMost s = refl
comparison_no_dot by.Greater s = refl
comparison_no_dot by.AtLeast s = refl

compared_begins : (o : Option (Comparison × OperandText)) (ts rest : List Placed) → IfWritten IsCompared o → AreDue (if_written spelling_compared o) ts → Calms (first rest)
    → (k : Option Comparison) × (seen_comparison (first (ts ++ rest)) ≡ k) × IsComparedBy k o
compared_begins None [] rest g d stays = (None, stays.1, refl)
compared_begins None (t ∷ ts) rest g d stays = absurd d
compared_begins (Some x) ts rest g d stays = (Some x.0, due_is seen_comparison (Some x.0) (sign_of x.0) (spelling_operand x.1) ts rest (comparison_starts x.0) d, (x.1, refl, g))

lawful_compared : (n : ℕ) → Lawful n rest_of_relation rest_of_relation (if_written spelling_compared) (IfWritten IsCompared) Calms
unfolding rest_of_relation
lawful_compared n =
    lawful_cased seen_comparison n compared_by compared_by IsComparedBy
    (λ k. branch_of seen_comparison k n (IfWritten IsCompared) (good_compared k) (compared_by_lawful n k)) (λ s ts e. refl) compared_begins

related_spelled : (a : OperandText) (o : Option (Comparison × OperandText)) → spelling_condition (relation_from a o) ≡ spelling_operand a ++ if_written spelling_compared o
related_spelled a None = sym (append-nil (spelling_operand a))
related_spelled a (Some x) = refl

compared_no_dot : (o : Option (Comparison × OperandText)) (ts rest : List Placed) → AreDue (if_written spelling_compared o) ts → Calms (first rest) → NotDot (first (ts ++ rest))
compared_no_dot None [] rest d stays = stays.0
compared_no_dot None (t ∷ ts) rest d stays = absurd d
compared_no_dot (Some x) ts rest d stays = due_is (passes is_dot) false (sign_of x.0) (spelling_operand x.1) ts rest (comparison_no_dot x.0) d

abbrev pub IsRelated : OperandText × Option (Comparison × OperandText) → Type 0
IsRelated x = IsOperand x.0 × IfWritten IsCompared x.1

pub lawful_relation : (n : ℕ) → Lawful n relation relation spelling_condition (Image (λ (x : OperandText × Option (Comparison × OperandText)). relation_from x.0 x.1) IsRelated) Calms
unfolding relation
lawful_relation n =
    lawful_image n (λ x. relation_from x.0 x.1) spelling_condition (λ x. related_spelled x.0 x.1)
    (lawful_both n (lawful_operand n) (lawful_compared n) (λ o ts rest g d stays. compared_no_dot o ts rest d stays))

abbrev pub IsDiffering : Unit {0} × (Unit {0} × Named) → Type 0
IsDiffering x = Unit {0} × (Unit {0} × IsOwnName x.1.1)

pub lawful_differing : (n : ℕ) → Lawful n differ_test differ_test spelling_condition (Image (λ (x : Unit {0} × (Unit {0} × Named)). differ x.1.1) IsDiffering) Calms
unfolding differ_test
lawful_differing n =
    lawful_weaker n Calms (λ o h. tt)
    (lawful_image n (λ x. differ x.1.1) spelling_condition (λ x. refl)
    (lawful_then n (lawful_fixed n (word (codes "ALL"))) (lawful_then n (lawful_fixed n (word (codes "DIFFER"))) (lawful_own_name n))))
