-- The tree of a shape whose tokens stand at these places: every group has one name, and no type is called by one.
use Rattle.std.proofs.Common.{◌≡◌, ℕ, ◌≤◌, List, [], ◌∷◌, sym, subst, arith, ◌⊎◌, inl, inr}
use Rattle.std.specs.Prelude.{Some}
use Rattle.circus_text.specs.Form.{greatest_number}
use Rattle.circus_value.specs.declared.shape.Label.{Label}
use Rattle.circus_value.specs.ShapeTree as shape
use Rattle.circus_value.specs.ShapeTree.{ShapeTree, FieldTrees, no_fields, more_fields}
use Rattle.circus_syntax.specs.declared.named.LabelText.{LabelText}
use Rattle.circus_syntax.specs.TypeTree.{TypeTree, GroupTrees, ArmTrees, boolean, cardinal, long_cardinal, integer, long_integer, text, enumeration, array, sequence, «record», choice, no_groups, more_groups, no_arms, more_arms}
use Rattle.circus_idl.specs.Shown.{label_lexemes, type_lexemes}
use Rattle.circus_type.specs.Obeys.{ObeysInside}
use Rattle.circus_idl.proofs.Places.{here, next, past, named_at, numeral_at}

abbrev pub label_at : Label → List ℕ → LabelText
label_at l ps = record { name = named_at l.name ps; number = numeral_at l.number (next (next ps)) }

-- labels with a comma between two
abbrev pub labels_at : List Label → List ℕ → List LabelText
labels_at [] ps = []
labels_at (l ∷ ls) ps = label_at l ps ∷ labels_at ls (next (past (label_lexemes l.name l.number) ps))

abbrev mutual
  pub type_at : ShapeTree → List ℕ → TypeTree
  type_at shape.boolean ps = boolean (here ps)
  type_at shape.cardinal ps = cardinal (here ps)
  type_at shape.long_cardinal ps = long_cardinal (here ps)
  type_at shape.integer ps = integer (here ps)
  type_at shape.long_integer ps = long_integer (here ps)
  type_at shape.text ps = text (here ps)
  type_at (shape.enumeration labels) ps = enumeration (here ps) (labels_at labels (next ps))
  type_at (shape.array n s) ps = array (here ps) (numeral_at n (next ps)) (type_at s (next (next (next ps))))
  type_at (shape.sequence n s) ps = sequence (here ps) (Some (numeral_at n (next ps))) (type_at s (next (next (next ps))))
  type_at (shape.«record» fs) ps = «record» (here ps) (groups_at fs (next (next ps)))
  type_at (shape.choice arms) ps = choice (here ps) (arms_at arms (next (next (next ps))))

  -- fields with a comma between two
  pub groups_at : FieldTrees → List ℕ → GroupTrees
  groups_at no_fields ps = no_groups
  groups_at (more_fields name s fs) ps =
      more_groups (named_at name ps ∷ []) (type_at s (next (next ps))) (groups_at fs (next (past (type_lexemes s) (next (next ps)))))

  -- arms with a comma between two
  pub arms_at : shape.ArmTrees → List ℕ → ArmTrees
  arms_at shape.no_arms ps = no_arms
  arms_at (shape.more_arms name n s arms) ps =
      more_arms (named_at name ps) (numeral_at n (next (next ps))) (type_at s (next (past (label_lexemes name n) ps)))
      (arms_at arms (next (past (type_lexemes s) (next (past (label_lexemes name n) ps)))))

-- the type of an arm is a record without fields or obeys
pub by_arm : (P : ShapeTree → Type 0) (s : ShapeTree) → (s ≡ shape.«record» no_fields) ⊎ ObeysInside s → P (shape.«record» no_fields) → (ObeysInside s → P s) → P s
by_arm P s (inl empty) bare obeying = subst P (sym empty) bare
by_arm P s (inr obeys) bare obeying = obeying obeys

-- a number of one word is none that is too great for a token
pub short_number : (n : ℕ) → n ≤ 65535 → n ≤ greatest_number
short_number n fits = omega arith
