-- Flat operations, how many they are and how they are put together.
use Rattle.std.proofs.Common.{◌≡◌, ℕ, ◌+◌, ◌<◌, List, [], ◌∷◌, ◌++◌, length, map, get_or, drop, refl, sym, ap, ◌∙◌, arith, append_assoc, length-append}
use Rattle.std.proofs.Math.ListN.{set}
use Rattle.std.proofs.Math.Seq.{set-append_seam}
use Rattle.std.proofs.lemmas.List.{drop_more}
use Rattle.circus_value.specs.ShapeTree.{ShapeTree, FieldTree, ArmTree, FieldTrees, ArmTrees, boolean, cardinal, long_cardinal, integer, long_integer, text, enumeration, array, sequence, «record», choice, no_fields, more_fields, no_arms, more_arms, field_trees, arm_trees}
use Rattle.circus_value.specs.ShapeOf.{tree_of, field_of, arm_of}
use Rattle.circus_value.specs.declared.shape.Field.{Field}
use Rattle.circus_value.specs.declared.shape.Arm.{Arm}
use Rattle.circus_stub.specs.declared.operation.Operation.{Operation}
use Rattle.circus_stub.specs.declared.operation.Operation.TheVariants as operation
use Rattle.circus_stub.specs.Flat.{operations_in, operations_in_fields, operations_in_arms, field_count, arm_count, flat, flat_fields, flat_arms}

mutual
  pub length-flat : (s : ShapeTree) (p : ℕ) → length (flat s p) ≡ operations_in s
  length-flat boolean p = refl
  length-flat cardinal p = refl
  length-flat long_cardinal p = refl
  length-flat integer p = refl
  length-flat long_integer p = refl
  length-flat text p = refl
  length-flat (enumeration _) p = refl
  length-flat (array _ s) p = omega (arith, length-flat s (p + 1))
  length-flat (sequence _ s) p = omega (arith, length-flat s (p + 1))
  length-flat («record» fs) p = omega (arith, length-flat_fields fs (p + 1))
  length-flat (choice arms) p = omega (arith, length-flat_arms arms (p + 1))

  pub length-flat_fields : (fs : FieldTrees) (p : ℕ) → length (flat_fields fs p) ≡ operations_in_fields fs
  length-flat_fields no_fields p = refl
  length-flat_fields (more_fields _ s fs) p =
      omega (arith, length-append (flat s p) (flat_fields fs (p + operations_in s)), length-flat s p, length-flat_fields fs (p + operations_in s))

  pub length-flat_arms : (arms : ArmTrees) (p : ℕ) → length (flat_arms arms p) ≡ operations_in_arms arms
  length-flat_arms no_arms p = refl
  length-flat_arms (more_arms _ _ s arms) p =
      omega (arith, length-append (flat s (p + 1)) (flat_arms arms (p + 1 + operations_in s)), length-flat s (p + 1), length-flat_arms arms (p + 1 + operations_in s))

pub field_count-field_trees : (fs : List FieldTree) → field_count (field_trees fs) ≡ length fs
field_count-field_trees [] = refl
field_count-field_trees (f ∷ fs) = omega (arith, field_count-field_trees fs)

pub arm_count-arm_trees : (arms : List ArmTree) → arm_count (arm_trees arms) ≡ length arms
arm_count-arm_trees [] = refl
arm_count-arm_trees (a ∷ arms) = omega (arith, arm_count-arm_trees arms)

-- an operation whose end is put in behind its part
pub part_added : (make : ℕ → Operation) (inner : ℕ → List Operation) (size : ℕ) (ops pushed added final : List Operation) (hole : Operation) (at end : ℕ) → ((p : ℕ) → length (inner p) ≡ size) → pushed ≡ ops ++ hole ∷ [] → added ≡ pushed ++ inner (length pushed) → at ≡ length ops → end ≡ length added → final ≡ set added at (make end) → final ≡ ops ++ (make (length ops + 1 + size) ∷ inner (length ops + 1))
part_added make inner size ops pushed added final hole at end sizes is_pushed is_added is_at is_end is_final =
    let behind : length pushed ≡ length ops + 1 = omega (arith, ap length is_pushed, length-append ops (hole ∷ [])) in
    let whole : added ≡ ops ++ (hole ∷ inner (length ops + 1)) =
    is_added ∙ (λ i. is_pushed i ++ inner (behind i)) ∙ append_assoc ops (hole ∷ []) (inner (length ops + 1)) in
    let last : end ≡ length ops + 1 + size = omega (arith, is_end, ap length is_added, length-append pushed (inner (length pushed)), sizes (length pushed), behind) in
    is_final ∙ (λ i. set (whole i) (is_at i) (make (last i))) ∙ set-append_seam ops hole (inner (length ops + 1)) (make (length ops + 1 + size))

-- one more field
pub field_added : (fs : List Field) (i : ℕ) (f : Field) (ops new whole : List Operation) → i < length fs → f ≡ get_or fs i f → new ≡ ops ++ flat (tree_of f.shape) (length ops) → ops ++ flat_fields (field_trees (map field_of (drop i fs))) (length ops) ≡ whole → new ++ flat_fields (field_trees (map field_of (drop (i + 1) fs))) (length new) ≡ whole
field_added fs i f ops new whole few is is_new so_far =
    let others = field_trees (map field_of (drop (i + 1) fs)) in
    let first : drop i fs ≡ f ∷ drop (i + 1) fs = drop_more fs i f few ∙ ap (λ x. x ∷ drop (i + 1) fs) (sym is) in
    let behind : length new ≡ length ops + operations_in (tree_of f.shape) =
    omega (arith, ap length is_new, length-append ops (flat (tree_of f.shape) (length ops)), length-flat (tree_of f.shape) (length ops)) in
    let split : ops ++ flat_fields (field_trees (map field_of (drop i fs))) (length ops) ≡ ops ++ (flat (tree_of f.shape) (length ops) ++ flat_fields others (length ops + operations_in (tree_of f.shape))) =
    ap (λ xs. ops ++ flat_fields (field_trees (map field_of xs)) (length ops)) first in
    (λ i. is_new i ++ flat_fields others (behind i)) ∙ append_assoc ops (flat (tree_of f.shape) (length ops)) (flat_fields others (length ops + operations_in (tree_of f.shape))) ∙ sym split ∙ so_far

-- one more arm
pub arm_added : (arms : List Arm) (i : ℕ) (a : Arm) (ops new whole : List Operation) → i < length arms → a ≡ get_or arms i a → new ≡ ops ++ (operation.Arm a.number (length ops + 1 + operations_in (tree_of a.shape)) ∷ flat (tree_of a.shape) (length ops + 1)) → ops ++ flat_arms (arm_trees (map arm_of (drop i arms))) (length ops) ≡ whole → new ++ flat_arms (arm_trees (map arm_of (drop (i + 1) arms))) (length new) ≡ whole
arm_added arms i a ops new whole few is is_new so_far =
    let others = arm_trees (map arm_of (drop (i + 1) arms)) in
    let s = tree_of a.shape in
    let part = operation.Arm a.number (length ops + 1 + operations_in s) ∷ flat s (length ops + 1) in
    let first : drop i arms ≡ a ∷ drop (i + 1) arms = drop_more arms i a few ∙ ap (λ x. x ∷ drop (i + 1) arms) (sym is) in
    let behind : length new ≡ length ops + 1 + operations_in s =
    omega (arith, ap length is_new, length-append ops part, length-flat s (length ops + 1)) in
    let split : ops ++ flat_arms (arm_trees (map arm_of (drop i arms))) (length ops) ≡ ops ++ (part ++ flat_arms others (length ops + 1 + operations_in s)) =
    ap (λ xs. ops ++ flat_arms (arm_trees (map arm_of xs)) (length ops)) first in
    (λ i. is_new i ++ flat_arms others (behind i)) ∙ append_assoc ops part (flat_arms others (length ops + 1 + operations_in s)) ∙ sym split ∙ so_far
