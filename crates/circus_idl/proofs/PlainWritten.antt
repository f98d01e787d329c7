-- The tree of a shape that obeys the rules means the shape.
use Rattle.std.proofs.Common.{◌≡◌, ℕ, List, [], ◌∷◌, refl, ap, ap₂}
use Rattle.std.specs.Prelude.{map}
use Rattle.circus_value.specs.declared.shape.Label.{Label}
use Rattle.circus_value.specs.ShapeTree as shape
use Rattle.circus_value.specs.ShapeTree.{ShapeTree, FieldTrees, no_fields, more_fields, field_trees, arm_trees}
use Rattle.circus_type.specs.Meaning.{label_meant, written_arms}
use Rattle.circus_idl.specs.Inside.{by_name}
use Rattle.circus_idl.specs.Meaning.{shape_of_type, written_groups}
use Rattle.circus_type.specs.Obeys.{ObeysInside, ObeyFields, ObeyArmTypes}
use Rattle.circus_idl.proofs.PlainTypes.{labels_at, type_at, groups_at, arms_at, by_arm}

labels_written : (ls : List Label) (ps : List ℕ) → map label_meant (labels_at ls ps) ≡ ls
labels_written [] ps = refl
labels_written (l ∷ ls) ps = ap (λ ms. l ∷ ms) (labels_written ls _)

mutual
  -- the tree means the shape
  pub type_written : (s : ShapeTree) (ps : List ℕ) (form : List ℕ → ShapeTree) → ObeysInside s → shape_of_type form (type_at s ps) ≡ s
  type_written shape.boolean ps form obeys = refl
  type_written shape.cardinal ps form obeys = refl
  type_written shape.long_cardinal ps form obeys = refl
  type_written shape.integer ps form obeys = refl
  type_written shape.long_integer ps form obeys = refl
  type_written shape.text ps form obeys = refl
  type_written (shape.enumeration labels) ps form obeys = ap shape.enumeration (labels_written labels _)
  type_written (shape.array n s) ps form obeys = ap (shape.array n) (type_written s _ form obeys.2)
  type_written (shape.sequence n s) ps form obeys = ap (shape.sequence n) (type_written s _ form obeys.1)
  type_written (shape.«record» fs) ps form obeys = ap shape.«record» (groups_written fs _ form obeys.2)
  type_written (shape.choice arms) ps form obeys = ap shape.choice (arms_written arms _ form obeys.1)

  pub groups_written : (fs : FieldTrees) (ps : List ℕ) (form : List ℕ → ShapeTree) → ObeyFields fs → field_trees (written_groups form (groups_at fs ps)) ≡ fs
  groups_written no_fields ps form obey = refl
  groups_written (more_fields name s fs) ps form obey = ap₂ (more_fields name) (type_written s _ form obey.0) (groups_written fs _ form obey.1)

  arms_written : (arms : shape.ArmTrees) (ps : List ℕ) (form : List ℕ → ShapeTree) → ObeyArmTypes arms → arm_trees (written_arms (by_name form) (arms_at arms ps)) ≡ arms
  arms_written shape.no_arms ps form obey = refl
  arms_written (shape.more_arms name n s arms) ps form obey =
      let inner = by_arm (λ t. (qs : List ℕ) → shape_of_type form (type_at t qs) ≡ t) s obey.0 (λ qs. refl) (λ obeys qs. type_written s qs form obeys) in
      ap₂ (shape.more_arms name n) (inner _) (arms_written arms _ form obey.1)
