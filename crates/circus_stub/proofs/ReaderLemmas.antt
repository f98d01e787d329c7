-- Reading one value behind another, by what stands among the operations.
use Rattle.std.proofs.Common.{◌≡◌, ℕ, true, false, cond, ◌||◌, nat_eq, Some, None, List, [], ◌∷◌, ◌++◌, Err, refl, sym, ap, ◌∙◌, append_assoc, append-nil}
use Rattle.std.specs.List.{list_any}
use Rattle.circus_value.specs.declared.shape.Label.{Label}
use Rattle.circus_value.specs.ValueTree.{ValueTree}
use Rattle.circus_value.specs.ValueTree as V
use Rattle.circus_value.specs.ShapeTree.{ShapeTree, FieldTrees, ArmTrees, no_fields, no_arms, more_arms}
use Rattle.circus_external.specs.declared.fault.ExternalFault.{ExternalFault}
use Rattle.circus_external.specs.Answer.{Answer, found, short, not_a_value, bad_pad}
use Rattle.circus_external.specs.Seen.Given.{Gives}
use Rattle.circus_external.specs.Reading.{label_of, and_then, answer_map, word_read, one_more, reading, fields_reading, arm_reading, choice_read}
use Rattle.circus_external.proofs.ReadLemmas.{behind, fault_behind}
use Rattle.circus_stub.specs.declared.operation.Operation.{Operation}
use Rattle.circus_stub.specs.Flat.{label_numbers}
use Rattle.circus_stub.specs.Seen.Standing.{first_arm, listed_value}
use Rattle.circus_stub.proofs.StandLemmas.{FieldsFirst}

behind_more : (done : List ValueTree) (t : ValueTree) (a : Answer (List ValueTree)) → behind done (one_more t a) ≡ behind (done ++ t ∷ []) a
behind_more done t (found ts next rest) = ap (λ xs. found xs next rest) (sym (append_assoc done (t ∷ []) ts))
behind_more done t (short place) = refl
behind_more done t (not_a_value place) = refl
behind_more done t (bad_pad place) = refl

-- ---- fields

pub fields_more : {ops : List Operation} {p end : ℕ} {left : FieldTrees} (at next : ℕ) (bs rest : List ℕ) (f : FieldsFirst ops p end left) (done : List ValueTree) (t : ValueTree) (whole : Answer (List ValueTree)) → reading f.shape at bs ≡ found t next rest → whole ≡ behind done (fields_reading left at bs) → whole ≡ behind (done ++ t ∷ []) (fields_reading f.others next rest)
fields_more {left = left} at next bs rest f done t whole read all =
    all ∙ ap (λ fs. behind done (fields_reading fs at bs)) f.is
    ∙ ap (λ a. behind done (and_then a (λ u m later. one_more u (fields_reading f.others m later)))) read
    ∙ behind_more done t (fields_reading f.others next rest)

pub fields_all : (at : ℕ) (bs : List ℕ) (left : FieldTrees) (done : List ValueTree) (whole : Answer (List ValueTree)) → left ≡ no_fields → whole ≡ behind done (fields_reading left at bs) → whole ≡ found done at bs
fields_all at bs left done whole none all =
    all ∙ ap (λ fs. behind done (fields_reading fs at bs)) none ∙ ap (λ xs. found xs at bs) (append-nil done)

pub fields_fault : {W : Type 0} {ops : List Operation} {p end : ℕ} {left : FieldTrees} (tree : W → ValueTree) (octets : List ℕ) (fault : ExternalFault) (at : ℕ) (bs : List ℕ) (f : FieldsFirst ops p end left) (done : List ValueTree) (whole : Answer (List ValueTree)) → Gives tree octets (Err fault) (reading f.shape at bs) → whole ≡ behind done (fields_reading left at bs) → Gives (λ ts. ts) octets (Err fault) whole
fields_fault {left = left} tree octets fault at bs f done whole gives all =
    fault_behind tree octets fault done (reading f.shape at bs) whole (λ u m later. one_more u (fields_reading f.others m later)) gives
    (all ∙ ap (λ fs. behind done (fields_reading fs at bs)) f.is)

-- ---- arms

arm_is : (arms : ArmTrees) (n at next : ℕ) (rest : List ℕ) (s : ShapeTree) → first_arm arms n ≡ Some s → arm_reading arms at n next rest ≡ answer_map (λ t. V.choice n t) (reading s next rest)
arm_is no_arms n at next rest s is = cc
arm_is (more_arms _ number shape arms) n at next rest s is =
    elim (nat_eq n number) as (λ b. cond b (Some shape) (first_arm arms n) ≡ Some s → cond b (answer_map (λ t. V.choice n t) (reading shape next rest)) (arm_reading arms at n next rest) ≡ answer_map (λ t. V.choice n t) (reading s next rest)) [
      | true ↦ λ same. let found_shape : shape ≡ s = cc in ap (λ x. answer_map (λ t. V.choice n t) (reading x next rest)) found_shape
      | false ↦ arm_is arms n at next rest s
    ] is

no_arm_is : (arms : ArmTrees) (n at next : ℕ) (rest : List ℕ) → first_arm arms n ≡ None → arm_reading arms at n next rest ≡ not_a_value at
no_arm_is no_arms n at next rest is = refl
no_arm_is (more_arms _ number shape arms) n at next rest is =
    elim (nat_eq n number) as (λ b. cond b (Some shape) (first_arm arms n) ≡ None → cond b (answer_map (λ t. V.choice n t) (reading shape next rest)) (arm_reading arms at n next rest) ≡ not_a_value at) [
      | true ↦ λ same. cc
      | false ↦ no_arm_is arms n at next rest
    ] is

pub chosen_read : (arms : ArmTrees) (n at next : ℕ) (bs rest : List ℕ) (s : ShapeTree) → word_read at bs ≡ found n next rest → first_arm arms n ≡ Some s → choice_read arms at bs ≡ answer_map (λ t. V.choice n t) (reading s next rest)
chosen_read arms n at next bs rest s word is = ap (λ a. and_then a (arm_reading arms at)) word ∙ arm_is arms n at next rest s is

pub unchosen_read : (arms : ArmTrees) (n at next : ℕ) (bs rest : List ℕ) → word_read at bs ≡ found n next rest → first_arm arms n ≡ None → choice_read arms at bs ≡ not_a_value at
unchosen_read arms n at next bs rest word is = ap (λ a. and_then a (arm_reading arms at)) word ∙ no_arm_is arms n at next rest is

-- ---- labels

any_label : (labels : List Label) (n : ℕ) → list_any (λ k. nat_eq k n) (label_numbers labels) ≡ list_any (λ (l : Label). nat_eq l.number n) labels
any_label [] n = refl
any_label (l ∷ labels) n = ap (λ b. nat_eq l.number n || b) (any_label labels n)

pub listed_value-label_numbers : (labels : List Label) → listed_value (label_numbers labels) ≡ label_of labels
listed_value-label_numbers labels = λ i n. cond (any_label labels n i) (Some (V.enumeration n)) None
