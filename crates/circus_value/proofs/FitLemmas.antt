-- Values against shapes, item by item.
use Rattle.std.proofs.Common.{◌≡◌, ℕ, suc, zero, ◌+◌, ◌<◌, ◌≤◌, Bool, true, false, cond, leb, ltb, ◌&&◌, nat_eq, nat_le, Some, None, List, [], ◌∷◌, length, get_or, drop, map, Fits, w8, refl, sym, ap, ◌∙◌, arith}
use Rattle.std.specs.List.{list_all}
use Rattle.std.proofs.lemmas.Bool.{eq-eqb, ne_eqb, le-leb, lt-leb, lt-ltb}
use Rattle.std.proofs.Math.Bool.{and-false}
use Rattle.std.proofs.lemmas.Bool.Decides.{nat_tests}
use Rattle.std.proofs.lemmas.List.{drop_more, drop-map}
use Rattle.circus_value.specs.ValueTree.{ValueTree, value_trees, array, sequence, choice}
use Rattle.circus_value.specs.ShapeTree.{ShapeTree, FieldTree, ArmTree, field_trees, arm_trees}
use Rattle.circus_value.specs.Seen.ValueWeight.{weight, weights}
use Rattle.circus_value.specs.ValueOf as values
use Rattle.circus_value.specs.ShapeOf.{field_of}
use Rattle.circus_value.specs.ShapeOf as shapes
use Rattle.circus_value.specs.ArmShape.{arm_shape}
use Rattle.circus_value.specs.Fits.{fits, count_of, every, is_array, is_sequence, is_choice, fields_fit, arm_fits}
use Rattle.circus_value.specs.declared.value.Value.{Value}
use Rattle.circus_value.specs.declared.shape.Field.{Field}

pub count_of-value_trees : (ts : List ValueTree) → count_of (value_trees ts) ≡ length ts
count_of-value_trees [] = refl
count_of-value_trees (t ∷ ts) = ap suc (count_of-value_trees ts)

-- an item is lighter than the list
pub weight-item : (vs : List Value) (i : ℕ) (v : Value) → i < length vs → v ≡ get_or vs i v → weight (values.tree_of v) < weights (value_trees (map values.tree_of vs))
weight-item [] i v few is = absurd (omega arith)
weight-item (w ∷ vs) zero v few is = omega (arith, ap (λ x. weight (values.tree_of x)) is)
weight-item (w ∷ vs) (suc i) v few is = omega (arith, weight-item vs i v (omega arith) is)

pub array_passes : (len : ℕ) (p : ValueTree → Bool) (ts : List ValueTree) → length ts ≡ len → every p (value_trees ts) ≡ is_array len p (array (value_trees ts))
array_passes len p ts same =
    let count : nat_eq (count_of (value_trees ts)) len ≡ true = eq-eqb _ _ (count_of-value_trees ts ∙ same) in
    sym (ap (λ b. b && every p (value_trees ts)) count)

pub array_fails : (len : ℕ) (p : ValueTree → Bool) (ts : List ValueTree) → (length ts ≡ len → ⊥) → is_array len p (array (value_trees ts)) ≡ false
array_fails len p ts differs =
    let count : nat_eq (count_of (value_trees ts)) len ≡ false = ne_eqb _ _ (λ same. differs (sym (count_of-value_trees ts) ∙ same)) in
    ap (λ b. b && every p (value_trees ts)) count

pub sequence_passes : (bound : ℕ) (p : ValueTree → Bool) (ts : List ValueTree) → length ts ≤ bound → every p (value_trees ts) ≡ is_sequence bound p (sequence (value_trees ts))
sequence_passes bound p ts few =
    let count : nat_le (count_of (value_trees ts)) bound ≡ true = le-leb _ _ (omega (arith, count_of-value_trees ts)) in
    sym (ap (λ b. b && every p (value_trees ts)) count)

pub sequence_fails : (bound : ℕ) (p : ValueTree → Bool) (ts : List ValueTree) → bound < length ts → is_sequence bound p (sequence (value_trees ts)) ≡ false
sequence_fails bound p ts many =
    let count : nat_le (count_of (value_trees ts)) bound ≡ false = lt-leb _ _ (omega (arith, count_of-value_trees ts)) in
    ap (λ b. b && every p (value_trees ts)) count

-- another number of values than of fields
pub fields_differ : (fs : List FieldTree) (ts : List ValueTree) → (length ts ≡ length fs → ⊥) → fields_fit (field_trees fs) (value_trees ts) ≡ false
fields_differ [] [] differs = absurd (differs refl)
fields_differ [] (t ∷ ts) differs = refl
fields_differ (f ∷ fs) [] differs = refl
fields_differ (f ∷ fs) (t ∷ ts) differs =
    ap (λ b. fits f.shape t && b) (fields_differ fs ts (λ same. differs (ap suc same))) ∙ and-false (fits f.shape t)

-- the field and the value at a place, and those behind them
pub fields_step : (gs : List Field) (fs : List FieldTree) (vs : List Value) (i : ℕ) (g : Field) (v : Value) → map field_of gs ≡ fs → i < length gs → i < length vs → v ≡ get_or vs i v → fields_fit (field_trees (drop i fs)) (value_trees (map values.tree_of (drop i vs))) ≡ (fits (shapes.tree_of (get_or gs i g).shape) (values.tree_of v) && fields_fit (field_trees (drop (i + 1) fs)) (value_trees (map values.tree_of (drop (i + 1) vs))))
fields_step gs fs vs i g v same few_fields few_values is_value =
    let front : drop i fs ≡ field_of (get_or gs i g) ∷ drop (i + 1) fs =
    ap (drop i) (sym same) ∙ drop-map field_of i gs ∙ ap (map field_of) (drop_more gs i g few_fields) ∙ ap (λ rest. field_of (get_or gs i g) ∷ rest) (sym (drop-map field_of (i + 1) gs) ∙ ap (drop (i + 1)) same) in
    let items : drop i vs ≡ v ∷ drop (i + 1) vs = drop_more vs i v few_values ∙ ap (λ x. x ∷ drop (i + 1) vs) (sym is_value) in
    λ j. fields_fit (field_trees (front j)) (value_trees (map values.tree_of (items j)))

pub chosen_fits : (arms : List ArmTree) (n : ℕ) (t : ValueTree) (s : ShapeTree) → arm_shape arms n ≡ Some s → arm_fits (arm_trees arms) n t ≡ fits s t
chosen_fits [] n t s is = cc
chosen_fits (a ∷ arms) n t s is =
    elim (nat_eq n a.number) as (λ b. cond b (Some a.shape) (arm_shape arms n) ≡ Some s → cond b (fits a.shape t) (arm_fits (arm_trees arms) n t) ≡ fits s t) [
      | true ↦ λ same. let shape : a.shape ≡ s = cc in ap (λ x. fits x t) shape
      | false ↦ chosen_fits arms n t s
    ] is

pub chosen_fails : (arms : List ArmTree) (n : ℕ) (t : ValueTree) → arm_shape arms n ≡ None → arm_fits (arm_trees arms) n t ≡ false
chosen_fails [] n t is = refl
chosen_fails (a ∷ arms) n t is =
    elim (nat_eq n a.number) as (λ b. cond b (Some a.shape) (arm_shape arms n) ≡ None → cond b (fits a.shape t) (arm_fits (arm_trees arms) n t) ≡ false) [
      | true ↦ λ same. cc
      | false ↦ chosen_fails arms n t
    ] is

pub choice_passes : (arms : List ArmTree) (n : ℕ) (t : ValueTree) (s : ShapeTree) → n < 65536 → arm_shape arms n ≡ Some s → fits s t ≡ is_choice (arm_fits (arm_trees arms)) (choice n t)
choice_passes arms n t s small is =
    sym (ap (λ b. b && arm_fits (arm_trees arms) n t) (lt-ltb n 65536 small) ∙ chosen_fits arms n t s is)

pub choice_fails : (arms : List ArmTree) (n : ℕ) (t : ValueTree) → arm_shape arms n ≡ None → is_choice (arm_fits (arm_trees arms)) (choice n t) ≡ false
choice_fails arms n t is =
    ap (λ b. ltb n 65536 && b) (chosen_fails arms n t is) ∙ and-false (ltb n 65536)

-- bytes are below 256
pub all_bytes : (xs : List ℕ) → ((i : ℕ) → Fits w8 (get_or xs i 0)) → list_all (λ b. ltb b 256) xs ≡ true
all_bytes [] each = refl
all_bytes (x ∷ xs) each =
    ap (λ b. b && list_all (λ y. ltb y 256) xs) (lt-ltb x 256 (each 0).fits) ∙ all_bytes xs (λ i. each (suc i))

pub leb-ltb : (n : ℕ) → leb n 65535 ≡ ltb n 65536
leb-ltb n = grind (arith, nat_tests)
