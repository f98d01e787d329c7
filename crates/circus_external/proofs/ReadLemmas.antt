-- Reading one value behind another.
use Rattle.std.proofs.Common.{◌≡◌, ℕ, suc, ◌+◌, ◌-◌, ◌<◌, true, false, cond, nat_eq, Some, None, List, [], ◌∷◌, ◌++◌, drop, map, Err, refl, sym, ap, ◌∙◌, arith, append_assoc}
use Rattle.circus_value.specs.declared.shape.Field.{Field}
use Rattle.circus_value.specs.ValueTree.{ValueTree}
use Rattle.circus_value.specs.ValueTree as V
use Rattle.circus_value.specs.ShapeTree.{ShapeTree, ArmTree, field_trees, arm_trees}
use Rattle.circus_value.specs.ShapeOf.{field_of}
use Rattle.circus_value.specs.Seen.ShapeWeight.{weight, arm_weights}
use Rattle.circus_value.specs.ArmShape.{arm_shape}
use Rattle.circus_external.specs.declared.fault.ExternalFault.{ExternalFault}
use Rattle.circus_external.specs.declared.fault.ExternalFault.TheVariants as fault
use Rattle.circus_external.specs.Answer.{Answer, found, short, not_a_value, bad_pad}
use Rattle.circus_external.specs.Seen.Given.{Gives}
use Rattle.circus_external.specs.Reading.{and_then, answer_map, word_read, items_read, one_more, reading, fields_reading, arm_reading, choice_read}

-- these values in front of the others
abbrev pub behind : List ValueTree → Answer (List ValueTree) → Answer (List ValueTree)
behind done answer = answer_map (λ ts. done ++ ts) answer

behind_more : (done : List ValueTree) (t : ValueTree) (a : Answer (List ValueTree)) → behind done (one_more t a) ≡ behind (done ++ t ∷ []) a
behind_more done t (found ts next rest) = ap (λ xs. found xs next rest) (sym (append_assoc done (t ∷ []) ts))
behind_more done t (short place) = refl
behind_more done t (not_a_value place) = refl
behind_more done t (bad_pad place) = refl

pub fault_mapped : {X Y Z W : Type 0} (tree : Y → X) (other : W → Z) (bs : List ℕ) (f : ExternalFault) (a : Answer X) (b : Answer Z) (seen : X → Z) → Gives tree bs (Err f) a → b ≡ answer_map seen a → Gives other bs (Err f) b
fault_mapped tree other bs (fault.Short place) a b seen gives is = is ∙ ap (answer_map seen) gives
fault_mapped tree other bs (fault.NotAValue place) a b seen gives is = is ∙ ap (answer_map seen) gives
fault_mapped tree other bs (fault.BadPad place) a b seen gives is = is ∙ ap (answer_map seen) gives
fault_mapped tree other bs fault.NoMemory a b seen gives is = tt

pub fault_behind : {W : Type 0} (tree : W → ValueTree) (bs : List ℕ) (f : ExternalFault) (done : List ValueTree) (a : Answer ValueTree) (b : Answer (List ValueTree)) (go_on : ValueTree → ℕ → List ℕ → Answer (List ValueTree)) → Gives tree bs (Err f) a → b ≡ behind done (and_then a go_on) → Gives (λ ts. ts) bs (Err f) b
fault_behind tree bs (fault.Short place) done a b go_on gives is = is ∙ ap (λ x. behind done (and_then x go_on)) gives
fault_behind tree bs (fault.NotAValue place) done a b go_on gives is = is ∙ ap (λ x. behind done (and_then x go_on)) gives
fault_behind tree bs (fault.BadPad place) done a b go_on gives is = is ∙ ap (λ x. behind done (and_then x go_on)) gives
fault_behind tree bs fault.NoMemory done a b go_on gives is = tt

-- ---- items

pub items_more : (item : ℕ → List ℕ → Answer ValueTree) (count i at next : ℕ) (bs rest : List ℕ) (done : List ValueTree) (t : ValueTree) (whole : Answer (List ValueTree)) → i < count → item at bs ≡ found t next rest → whole ≡ behind done (items_read item (count - i) at bs) → whole ≡ behind (done ++ t ∷ []) (items_read item (count - (i + 1)) next rest)
items_more item count i at next bs rest done t whole few is all =
    let left : count - i ≡ suc (count - (i + 1)) = omega arith in
    all ∙ ap (λ n. behind done (items_read item n at bs)) left
    ∙ ap (λ a. behind done (and_then a (λ u m later. one_more u (items_read item (count - (i + 1)) m later)))) is
    ∙ behind_more done t (items_read item (count - (i + 1)) next rest)

pub items_fault : {W : Type 0} (tree : W → ValueTree) (octets : List ℕ) (f : ExternalFault) (item : ℕ → List ℕ → Answer ValueTree) (count i at : ℕ) (bs : List ℕ) (done : List ValueTree) (whole : Answer (List ValueTree)) → i < count → Gives tree octets (Err f) (item at bs) → whole ≡ behind done (items_read item (count - i) at bs) → Gives (λ ts. ts) octets (Err f) whole
items_fault tree octets f item count i at bs done whole few gives is =
    let left : count - i ≡ suc (count - (i + 1)) = omega arith in
    fault_behind tree octets f done (item at bs) whole (λ u m later. one_more u (items_read item (count - (i + 1)) m later)) gives
    (is ∙ ap (λ n. behind done (items_read item n at bs)) left)

-- ---- fields

abbrev pub fields_left : List Field → ℕ → ℕ → List ℕ → Answer (List ValueTree)
fields_left gs i at bs = fields_reading (field_trees (map field_of (drop i gs))) at bs

-- ---- arms

arm_is : (arms : List ArmTree) (n at next : ℕ) (rest : List ℕ) (s : ShapeTree) → arm_shape arms n ≡ Some s → arm_reading (arm_trees arms) at n next rest ≡ answer_map (λ t. V.choice n t) (reading s next rest)
arm_is [] n at next rest s is = cc
arm_is (a ∷ arms) n at next rest s is =
    elim (nat_eq n a.number) as (λ b. cond b (Some a.shape) (arm_shape arms n) ≡ Some s → cond b (answer_map (λ t. V.choice n t) (reading a.shape next rest)) (arm_reading (arm_trees arms) at n next rest) ≡ answer_map (λ t. V.choice n t) (reading s next rest)) [
      | true ↦ λ same. let shape : a.shape ≡ s = cc in ap (λ x. answer_map (λ t. V.choice n t) (reading x next rest)) shape
      | false ↦ arm_is arms n at next rest s
    ] is

no_arm_is : (arms : List ArmTree) (n at next : ℕ) (rest : List ℕ) → arm_shape arms n ≡ None → arm_reading (arm_trees arms) at n next rest ≡ not_a_value at
no_arm_is [] n at next rest is = refl
no_arm_is (a ∷ arms) n at next rest is =
    elim (nat_eq n a.number) as (λ b. cond b (Some a.shape) (arm_shape arms n) ≡ None → cond b (answer_map (λ t. V.choice n t) (reading a.shape next rest)) (arm_reading (arm_trees arms) at n next rest) ≡ not_a_value at) [
      | true ↦ λ same. cc
      | false ↦ no_arm_is arms n at next rest
    ] is

pub chosen_read : (arms : List ArmTree) (n at next : ℕ) (bs rest : List ℕ) (s : ShapeTree) → word_read at bs ≡ found n next rest → arm_shape arms n ≡ Some s → choice_read (arm_trees arms) at bs ≡ answer_map (λ t. V.choice n t) (reading s next rest)
chosen_read arms n at next bs rest s word is =
    ap (λ a. and_then a (arm_reading (arm_trees arms) at)) word ∙ arm_is arms n at next rest s is

pub unchosen_read : (arms : List ArmTree) (n at next : ℕ) (bs rest : List ℕ) → word_read at bs ≡ found n next rest → arm_shape arms n ≡ None → choice_read (arm_trees arms) at bs ≡ not_a_value at
unchosen_read arms n at next bs rest word is =
    ap (λ a. and_then a (arm_reading (arm_trees arms) at)) word ∙ no_arm_is arms n at next rest is

pub weight_arm : (arms : List ArmTree) (n : ℕ) (s : ShapeTree) → arm_shape arms n ≡ Some s → weight s < arm_weights (arm_trees arms)
weight_arm [] n s is = cc
weight_arm (a ∷ arms) n s is =
    elim (nat_eq n a.number) as (λ b. cond b (Some a.shape) (arm_shape arms n) ≡ Some s → weight s < 2 + weight a.shape + arm_weights (arm_trees arms)) [
      | true ↦ λ same. let shape : a.shape ≡ s = cc in omega (arith, ap weight shape)
      | false ↦ λ later. omega (arith, weight_arm arms n s later)
    ] is
