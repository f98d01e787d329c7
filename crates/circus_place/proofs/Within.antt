-- Whatever is read stands no deeper than there are levels.
use Rattle.std.proofs.Common.{◌≡◌, ℕ, zero, suc, Bool, true, false, List, [], ◌∷◌, ◌++◌, sym, subst, arith}
use Rattle.std.specs.Prelude.{Option, Some, None, codes}
use Rattle.circus_text.specs.Token.{Lexeme}
use Rattle.circus_syntax.specs.declared.named.Named.{Named}
use Rattle.circus_syntax.specs.Placed.{word, sign, is_lexeme, due, due_number, Due, open_level, AreWithin}
use Rattle.circus_syntax.specs.Reader.{Reader, passes, next, nothing, either, either_case, map_read, both}
use Rattle.circus_syntax.specs.Reading.{expect_token, behind}
use Rattle.circus_syntax.specs.Spelling.{each, comma, with_commas, if_written, spelling_name, spelling_names}
use Rattle.circus_syntax.proofs.Opened.{within_append, opened_within}
use Rattle.circus_place.specs.declared.condition.Comparison.{Comparison}
use Rattle.circus_place.specs.declared.text.ConstantText.{ConstantText}
use Rattle.circus_place.specs.declared.text.ConstantText.TheVariants as constant
use Rattle.circus_place.specs.declared.text.MachineText.{MachineText}
use Rattle.circus_place.specs.declared.text.OperandText.{OperandText}
use Rattle.circus_place.specs.declared.text.OperandText.TheVariants as operand
use Rattle.circus_place.specs.declared.start.AloneStart.{AloneStart}
use Rattle.circus_place.specs.declared.start.AloneStart.TheVariants as begins
use Rattle.circus_place.specs.Written.{Written, or, and}
use Rattle.circus_place.specs.Grammar.{sign_of, or_word, and_word, ors, ands, spelling_constant, spelling_attribute, spelling_machine, spelling_operand, spelling_condition, spelling_present, IsWithin}
use Rattle.circus_place.specs.Seen.Reading.{relation_from, relation, differ_test, too_deep, no_deeper, alone_start, alone_by, parts_behind, chain, grouped_with, denied_with, negation, further_and, further_or, conjunct, condition, placing}
use Rattle.circus_place.proofs.Conditions.{spelling_part, spelling_parts, and_chain, or_chain, single_negated, single_conjunct}

-- What opens no level.

constant_within : (n : ℕ) (c : ConstantText) → AreWithin n (spelling_constant c)
constant_within n (constant.Number k) = (omega arith, tt)
constant_within n (constant.Text content at) = (omega arith, tt)
constant_within n (constant.Truth b) = (omega arith, tt)

operand_within : (n : ℕ) (a : OperandText) → AreWithin n (spelling_operand a)
operand_within n (operand.Attribute m name) = (omega arith, (omega arith, (omega arith, tt)))
operand_within n (operand.Fixed c) = constant_within n c

each_within : {A : Type 0} (n : ℕ) (spell : A → List Due) → ((x : A) → AreWithin n (spell x)) → (xs : List A) → AreWithin n (each spell xs)
each_within n spell one [] = tt
each_within n spell one (x ∷ xs) = within_append n (spell x) (each spell xs) (one x) (each_within n spell one xs)

commas_within : {A : Type 0} (n : ℕ) (spell : A → List Due) → ((x : A) → AreWithin n (spell x)) → (xs : List A) → AreWithin n (with_commas spell xs)
commas_within n spell one [] = tt
commas_within n spell one (x ∷ xs) = within_append n (spell x) (each (λ y. comma ∷ spell y) xs) (one x) (each_within n (λ y. comma ∷ spell y) (λ y. (omega arith, one y)) xs)

machine_within : (n : ℕ) (m : MachineText) → AreWithin n (spelling_machine m)
machine_within n m =
    let attributes =
    within_append n (with_commas spelling_attribute m.attributes) (due (sign (codes "]")) ∷ due (sign (codes ";")) ∷ [])
    (commas_within n spelling_attribute (λ a. (omega arith, (omega arith, constant_within n a.constant))) m.attributes) (omega arith, (omega arith, tt)) in
    (omega arith, (omega arith, (omega arith, attributes)))

present_within : (n : ℕ) (o : Option (List Named)) → AreWithin n (if_written spelling_present o)
present_within n None = tt
present_within n (Some names) =
    (omega arith, within_append n (spelling_names names) (due (sign (codes ";")) ∷ []) (commas_within n spelling_name (λ m. (omega arith, tt)) names) (omega arith, tt))

-- Conditions.

related_within : (n : ℕ) (a : OperandText) (o : Option (Comparison × OperandText)) → AreWithin n (spelling_condition (relation_from a o))
related_within n a None = operand_within n a
related_within n a (Some x) = within_append n (spelling_operand a) (due (sign_of x.0) ∷ spelling_operand x.1) (operand_within n a) (omega arith, operand_within n x.1)

alone_within : (n : ℕ) (denied grouped : Reader → Written × Reader) (k : AloneStart) (r : Reader) → AreWithin n (spelling_condition (denied r).0) → AreWithin n (spelling_condition (grouped r).0)
    → AreWithin n (spelling_condition (alone_by denied grouped k r).0)
unfolding relation differ_test
alone_within n denied grouped begins.Not r d g = d
alone_within n denied grouped begins.Group r d g = g
alone_within n denied grouped begins.Differ r d g = (omega arith, (omega arith, (omega arith, tt)))
alone_within n denied grouped begins.Relation r d g = related_within n _ _

chained_within : (n : ℕ) (operator : Lexeme) (part : Reader → Written × Reader) (further : Reader → List Written × Reader) → ((r : Reader) → AreWithin n (spelling_condition (part r).0))
    → ((r : Reader) → AreWithin n (open_level (spelling_parts operator (further r).0))) → (r : Reader) → AreWithin n (spelling_parts operator (parts_behind operator part further r).0)
chained_within n operator part further one more r = by_case (passes (is_lexeme operator) (next r))
  where
    by_case : (b : Bool) → AreWithin n (spelling_parts operator (either_case (map_read (λ (x : Written × List Written). x.0 ∷ x.1) (both (behind operator part) further)) (nothing []) b r).0)
    by_case true =
        let s = (expect_token operator r).1 in
        within_append n (spelling_part operator (part s).0) (open_level (spelling_parts operator (further (part s).1).0)) (omega arith, one s) (more (part s).1)
    by_case false = tt

no_further_within : (operator : Lexeme) (r : Reader) → AreWithin 0 (open_level (spelling_parts operator (either (is_lexeme operator) no_deeper (nothing []) r).0))
unfolding no_deeper
no_further_within operator r = by_case (passes (is_lexeme operator) (next r))
  where
    by_case : (b : Bool) → AreWithin 0 (open_level (spelling_parts operator (either_case no_deeper (nothing []) b r).0))
    by_case true = tt
    by_case false = tt

ands_within : (n : ℕ) (part : Reader → Written × Reader) (further : Reader → List Written × Reader) → ((r : Reader) → ands (part r).0 ≡ 0) → ((r : Reader) → AreWithin n (spelling_condition (part r).0))
    → ((r : Reader) → AreWithin n (open_level (spelling_parts and_word (further r).0))) → (r : Reader) → AreWithin n (spelling_condition (chain and and_word part further r).0)
ands_within n part further single one more r =
    let w = (part r).0 in
    let xs = (parts_behind and_word part further (part r).1).0 in
    subst (AreWithin n) (sym (and_chain w xs (single r)))
    (within_append n (spelling_condition w) (spelling_parts and_word xs) (one r) (chained_within n and_word part further one more (part r).1))

ors_within : (n : ℕ) (part : Reader → Written × Reader) (further : Reader → List Written × Reader) → ((r : Reader) → ors (part r).0 ≡ 0) → ((r : Reader) → AreWithin n (spelling_condition (part r).0))
    → ((r : Reader) → AreWithin n (open_level (spelling_parts or_word (further r).0))) → (r : Reader) → AreWithin n (spelling_condition (chain or or_word part further r).0)
ors_within n part further single one more r =
    let w = (part r).0 in
    let xs = (parts_behind or_word part further (part r).1).0 in
    subst (AreWithin n) (sym (or_chain w xs (single r)))
    (within_append n (spelling_condition w) (spelling_parts or_word xs) (one r) (chained_within n or_word part further one more (part r).1))

denied_within : (n : ℕ) (inner : Reader → Written × Reader) → ((r : Reader) → AreWithin n (spelling_condition (inner r).0)) → (r : Reader) → AreWithin (suc n) (spelling_condition (denied_with inner r).0)
denied_within n inner one r = let w = (inner (expect_token (word (codes "NOT")) r).1).0 in opened_within n (due (word (codes "NOT")) ∷ spelling_condition w) (omega arith, one _)

grouped_within : (n : ℕ) (inner : Reader → Written × Reader) → ((r : Reader) → AreWithin n (spelling_condition (inner r).0)) → (r : Reader) → AreWithin (suc n) (spelling_condition (grouped_with inner r).0)
grouped_within n inner one r =
    let w = (inner (expect_token (sign (codes "(")) r).1).0 in
    opened_within n (due (sign (codes "(")) ∷ (spelling_condition w ++ due (sign (codes ")")) ∷ []))
    (omega arith, within_append n (spelling_condition w) (due (sign (codes ")")) ∷ []) (one _) (omega arith, tt))

mutual
  unfolding negation further_and further_or conjunct too_deep

  negated_within : (n : ℕ) (r : Reader) → AreWithin n (spelling_condition (negation n r).0)
  negated_within zero r = alone_within 0 too_deep too_deep (alone_start (next r)) r (omega arith, tt) (omega arith, tt)
  negated_within (suc n) r =
      alone_within (suc n) (denied_with (negation n)) (grouped_with (chain or or_word (conjunct n) (further_or n))) (alone_start (next r)) r (denied_within n (negation n) (negated_within n) r)
      (grouped_within n (chain or or_word (conjunct n) (further_or n))
      (ors_within n (conjunct n) (further_or n) (single_conjunct n) (ands_within n (negation n) (further_and n) (λ s. (single_negated n s).1) (negated_within n) (further_and_within n)) (further_or_within n)) r)

  further_and_within : (n : ℕ) (r : Reader) → AreWithin n (open_level (spelling_parts and_word (further_and n r).0))
  further_and_within zero r = no_further_within and_word r
  further_and_within (suc n) r =
      opened_within n (spelling_parts and_word (further_and (suc n) r).0) (chained_within n and_word (negation n) (further_and n) (negated_within n) (further_and_within n) r)

  further_or_within : (n : ℕ) (r : Reader) → AreWithin n (open_level (spelling_parts or_word (further_or n r).0))
  further_or_within zero r = no_further_within or_word r
  further_or_within (suc n) r =
      opened_within n (spelling_parts or_word (further_or (suc n) r).0)
      (chained_within n or_word (conjunct n) (further_or n) (ands_within n (negation n) (further_and n) (λ s. (single_negated n s).1) (negated_within n) (further_and_within n)) (further_or_within n) r)

condition_within : (n : ℕ) (r : Reader) → AreWithin n (spelling_condition (condition n r).0)
unfolding condition conjunct
condition_within n =
    ors_within n (conjunct n) (further_or n) (single_conjunct n) (ands_within n (negation n) (further_and n) (λ s. (single_negated n s).1) (negated_within n) (further_and_within n)) (further_or_within n)

pub placing_within : (n : ℕ) (r : Reader) → IsWithin n (placing n r).0
unfolding placing
placing_within n r =
    let p = (placing n r).0 in
    let asked = due (word (codes "MEMBERS")) ∷ due_number p.members ∷ due (word (codes "WHERE")) ∷ [] in
    let ended = due (sign (codes ";")) ∷ if_written spelling_present p.present in
    let behind_machines = within_append n asked (spelling_condition p.condition ++ ended) (omega arith, (omega arith, (omega arith, tt)))
    (within_append n (spelling_condition p.condition) ended (condition_within n _) (omega arith, present_within n p.present)) in
    let behind_heading = within_append n (each spelling_machine p.machines) (asked ++ (spelling_condition p.condition ++ ended)) (each_within n spelling_machine (machine_within n) p.machines) behind_machines in
    (omega arith, (omega arith, (omega arith, behind_heading)))
