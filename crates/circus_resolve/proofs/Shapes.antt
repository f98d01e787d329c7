-- Shapes against shapes, part by part.
use Rattle.std.specs.Prelude.{option_map, slice_get}
use Rattle.std.proofs.Common.{◌≡◌, ℕ, zero, suc, ◌+◌, ◌<◌, Bool, true, false, IsTrue, ◌↔◌, ◌&&◌, bytes_eq, ◌==◌, List, [], ◌∷◌, length, get_or, drop, refl, sym, ap, ◌∙◌}
use Rattle.std.proofs.Math.Bool.{and-false}
use Rattle.std.proofs.lemmas.List.{drop_more}
use Rattle.circus_value.specs.declared.shape.Label.{Label}
use Rattle.circus_value.specs.ShapeTree.{FieldTree, ArmTree, «record», field_trees, arm_trees}
use Rattle.circus_resolve.specs.Named.{is_bare}
use Rattle.circus_resolve.specs.Faults.{field_at, field_count}
use Rattle.circus_resolve.specs.Same.{labels_eq, shape_eq, fields_eq, arms_eq}

-- lists of two lengths
pub labels_differ : (ls ms : List Label) → (length ls ≡ length ms → ⊥) → labels_eq ls ms ≡ false
labels_differ [] [] differs = absurd (differs refl)
labels_differ [] (m ∷ ms) differs = refl
labels_differ (l ∷ ls) [] differs = refl
labels_differ (l ∷ ls) (m ∷ ms) differs =
    ap (λ b. bytes_eq l.name m.name && (l.number == m.number) && b) (labels_differ ls ms (λ same. differs (ap suc same)))
    ∙ and-false (bytes_eq l.name m.name && (l.number == m.number))

pub fields_differ : (fs gs : List FieldTree) → (length fs ≡ length gs → ⊥) → fields_eq (field_trees fs) (field_trees gs) ≡ false
fields_differ [] [] differs = absurd (differs refl)
fields_differ [] (g ∷ gs) differs = refl
fields_differ (f ∷ fs) [] differs = refl
fields_differ (f ∷ fs) (g ∷ gs) differs =
    ap (λ b. bytes_eq f.name g.name && shape_eq f.shape g.shape && b) (fields_differ fs gs (λ same. differs (ap suc same)))
    ∙ and-false (bytes_eq f.name g.name && shape_eq f.shape g.shape)

pub arms_differ : (xs ys : List ArmTree) → (length xs ≡ length ys → ⊥) → arms_eq (arm_trees xs) (arm_trees ys) ≡ false
arms_differ [] [] differs = absurd (differs refl)
arms_differ [] (y ∷ ys) differs = refl
arms_differ (x ∷ xs) [] differs = refl
arms_differ (x ∷ xs) (y ∷ ys) differs =
    ap (λ b. bytes_eq x.name y.name && (x.number == y.number) && shape_eq x.shape y.shape && b) (arms_differ xs ys (λ same. differs (ap suc same)))
    ∙ and-false (bytes_eq x.name y.name && (x.number == y.number) && shape_eq x.shape y.shape)

-- a list from a place on
pub from_place : {X : Type 0} (xs : List X) (i : ℕ) (x : X) → i < length xs → x ≡ get_or xs i x → drop i xs ≡ x ∷ drop (i + 1) xs
from_place xs i x below is = drop_more xs i x below ∙ ap (λ y. y ∷ drop (i + 1) xs) (sym is)

-- a record that has no fields
pub bare_is : (b : Bool) (fs : List FieldTree) → (IsTrue b ↔ (fs ≡ [])) → b ≡ is_bare («record» (field_trees fs))
bare_is true [] tells = refl
bare_is false [] tells = tells.1 refl
bare_is true (f ∷ fs) tells = absurd (let e = tells.0 refl in cc)
bare_is false (f ∷ fs) tells = refl

-- the shape of the field at a place, and how many there are
pub field_at_is : (fs : List FieldTree) (n : ℕ) → option_map (λ (f : FieldTree). f.shape) (slice_get fs n) ≡ field_at (field_trees fs) n
field_at_is [] n = refl
field_at_is (f ∷ fs) zero = refl
field_at_is (f ∷ fs) (suc n) = field_at_is fs n

pub field_count_is : (fs : List FieldTree) → length fs ≡ field_count (field_trees fs)
field_count_is [] = refl
field_count_is (f ∷ fs) = ap suc (field_count_is fs)
