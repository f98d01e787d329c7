-- Shapes are the same exactly where they are equal.
use Rattle.std.proofs.Common.{◌≡◌, Bool, true, false, ◌&&◌, ◌==◌, bytes_eq, List, [], ◌∷◌, refl, sym, ap, ◌∙◌}
use Rattle.std.specs.Bool.{Decides}
use Rattle.std.proofs.lemmas.Bool.{false≢true}
use Rattle.std.proofs.lemmas.Bool.Decides.{Decides-and, Decides-eqb, same_from_decides}
use Rattle.std.proofs.lemmas.Slice.Eq.{bytes_eq-Decides}
use Rattle.circus_value.specs.declared.shape.Label.{Label}
use Rattle.circus_value.specs.ShapeTree.{ShapeTree, FieldTrees, ArmTrees, FieldTree, ArmTree, field_trees, arm_trees, boolean, cardinal, long_cardinal, integer, long_integer, text, enumeration, array, sequence, «record», choice, no_fields, more_fields, no_arms, more_arms}
use Rattle.circus_value.specs.ShapeOf.{fields_in, arms_in}
use Rattle.circus_value.proofs.ShapeBack.{fields_back, arms_back}
use Rattle.circus_resolve.specs.Same.{labels_eq, shape_eq, fields_eq, arms_eq}

-- what decides one thing decides what is the same
through : {A B : Type 0} (p : Bool) → (A → B) → (B → A) → Decides p A → Decides p B
through p to from d = (λ e. to (d.0 e), λ h. d.1 (from h))

apart : {A : Type 0} {x y : A} → (x ≡ y → ⊥) → Decides false (x ≡ y)
apart differs = (λ e. absurd (false≢true e), λ e. absurd (differs e))

alike : {A : Type 0} (x : A) → Decides true (x ≡ x)
alike x = (λ _. refl, λ _. refl)

labels_decide : (ls ms : List Label) → Decides (labels_eq ls ms) (ls ≡ ms)
labels_decide [] [] = alike []
labels_decide [] (m ∷ ms) = apart (λ e. cc)
labels_decide (l ∷ ls) [] = apart (λ e. cc)
labels_decide (l ∷ ls) (m ∷ ms) =
    through (bytes_eq l.name m.name && (l.number == m.number) && labels_eq ls ms) (λ h i. record { name = h.0.0 i; number = h.0.1 i } ∷ h.1 i) (λ e. ((cc, cc), cc))
    (Decides-and (bytes_eq l.name m.name && (l.number == m.number)) (labels_eq ls ms)
    (Decides-and (bytes_eq l.name m.name) (l.number == m.number) (bytes_eq-Decides l.name m.name) (Decides-eqb l.number m.number)) (labels_decide ls ms))

mutual
  pub shapes_decide : (s t : ShapeTree) → Decides (shape_eq s t) (s ≡ t)
  shapes_decide boolean boolean = alike boolean
  shapes_decide cardinal cardinal = alike cardinal
  shapes_decide long_cardinal long_cardinal = alike long_cardinal
  shapes_decide integer integer = alike integer
  shapes_decide long_integer long_integer = alike long_integer
  shapes_decide text text = alike text
  shapes_decide (enumeration ls) (enumeration ms) = through (labels_eq ls ms) (λ h i. enumeration (h i)) (λ e. cc) (labels_decide ls ms)
  shapes_decide (array n s) (array m t) =
      through ((n == m) && shape_eq s t) (λ h i. array (h.0 i) (h.1 i)) (λ e. (cc, cc)) (Decides-and (n == m) (shape_eq s t) (Decides-eqb n m) (shapes_decide s t))
  shapes_decide (sequence n s) (sequence m t) =
      through ((n == m) && shape_eq s t) (λ h i. sequence (h.0 i) (h.1 i)) (λ e. (cc, cc)) (Decides-and (n == m) (shape_eq s t) (Decides-eqb n m) (shapes_decide s t))
  shapes_decide («record» fs) («record» gs) = through (fields_eq fs gs) (λ h i. «record» (h i)) (λ e. cc) (fields_decide fs gs)
  shapes_decide (choice xs) (choice ys) = through (arms_eq xs ys) (λ h i. choice (h i)) (λ e. cc) (arms_decide xs ys)
  shapes_decide _ _ = apart (λ e. cc)

  fields_decide : (fs gs : FieldTrees) → Decides (fields_eq fs gs) (fs ≡ gs)
  fields_decide no_fields no_fields = alike no_fields
  fields_decide (more_fields n s fs) (more_fields m t gs) =
      through (bytes_eq n m && shape_eq s t && fields_eq fs gs) (λ h i. more_fields (h.0.0 i) (h.0.1 i) (h.1 i)) (λ e. ((cc, cc), cc))
      (Decides-and (bytes_eq n m && shape_eq s t) (fields_eq fs gs) (Decides-and (bytes_eq n m) (shape_eq s t) (bytes_eq-Decides n m) (shapes_decide s t)) (fields_decide fs gs))
  fields_decide _ _ = apart (λ e. cc)

  arms_decide : (xs ys : ArmTrees) → Decides (arms_eq xs ys) (xs ≡ ys)
  arms_decide no_arms no_arms = alike no_arms
  arms_decide (more_arms n a s xs) (more_arms m b t ys) =
      through (bytes_eq n m && (a == b) && shape_eq s t && arms_eq xs ys) (λ h i. more_arms (h.0.0.0 i) (h.0.0.1 i) (h.0.1 i) (h.1 i)) (λ e. (((cc, cc), cc), cc))
      (Decides-and (bytes_eq n m && (a == b) && shape_eq s t) (arms_eq xs ys)
      (Decides-and (bytes_eq n m && (a == b)) (shape_eq s t) (Decides-and (bytes_eq n m) (a == b) (bytes_eq-Decides n m) (Decides-eqb a b)) (shapes_decide s t)) (arms_decide xs ys))
  arms_decide _ _ = apart (λ e. cc)

-- whatever decides whether lists are equal says what is the same
pub labels_agree : (ls ms : List Label) (like : Bool) → Decides like (ls ≡ ms) → like ≡ labels_eq ls ms
labels_agree ls ms like decides = same_from_decides like (labels_eq ls ms) decides (labels_decide ls ms)

pub fields_agree : (fs gs : List FieldTree) (like : Bool) → Decides like (fs ≡ gs) → like ≡ fields_eq (field_trees fs) (field_trees gs)
fields_agree fs gs like decides =
    same_from_decides like (fields_eq (field_trees fs) (field_trees gs))
    (through like (λ e. ap field_trees e) (λ e. sym (fields_back fs) ∙ ap fields_in e ∙ fields_back gs) decides) (fields_decide (field_trees fs) (field_trees gs))

pub arms_agree : (xs ys : List ArmTree) (like : Bool) → Decides like (xs ≡ ys) → like ≡ arms_eq (arm_trees xs) (arm_trees ys)
arms_agree xs ys like decides =
    same_from_decides like (arms_eq (arm_trees xs) (arm_trees ys))
    (through like (λ e. ap arm_trees e) (λ e. sym (arms_back xs) ∙ ap arms_in e ∙ arms_back ys) decides) (arms_decide (arm_trees xs) (arm_trees ys))
