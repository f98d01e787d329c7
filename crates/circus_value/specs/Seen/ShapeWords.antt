-- The words that a list of labels, fields or arms is spelled in, which tell it from every other.
use Rattle.std.specs.Prelude.{◌≡◌, ℕ, ◌+◌, List, [], ◌∷◌, ◌++◌, Option, None, Some}
use Rattle.std.specs.declared.alloc.Global.{Global}
use Rattle.std.specs.declared.vec.Vec.{Vec}
use Rattle.std.specs.declared.rc.Rc.{Rc}
use Rattle.circus_value.specs.declared.shape.Label.{Label}
use Rattle.circus_value.specs.ShapeTree.{ShapeTree, FieldTrees, ArmTrees, boolean, cardinal, long_cardinal, integer, long_integer, text, enumeration, array, sequence, «record», choice, no_fields, more_fields, no_arms, more_arms}

-- each byte and one, and 0 behind the last
abbrev pub name_words : List ℕ → List ℕ
name_words [] = 0 ∷ []
name_words (b ∷ bs) = (b + 1) ∷ name_words bs

-- 1, name and number of each label, and 0 behind the last
abbrev pub label_words : List Label → List ℕ
label_words [] = 0 ∷ []
label_words (l ∷ ls) = 1 ∷ (name_words l.name ++ (l.number ∷ label_words ls))

abbrev mutual
  -- the form's number and what the form has
  pub shape_words : ShapeTree → List ℕ
  shape_words boolean = 0 ∷ []
  shape_words cardinal = 1 ∷ []
  shape_words long_cardinal = 2 ∷ []
  shape_words integer = 3 ∷ []
  shape_words long_integer = 4 ∷ []
  shape_words text = 5 ∷ []
  shape_words (enumeration ls) = 6 ∷ label_words ls
  shape_words (array n s) = 7 ∷ n ∷ shape_words s
  shape_words (sequence n s) = 8 ∷ n ∷ shape_words s
  shape_words («record» fs) = 9 ∷ field_words fs
  shape_words (choice arms) = 10 ∷ arm_words arms

  -- 1, name and shape of each field, and 0 behind the last
  pub field_words : FieldTrees → List ℕ
  field_words no_fields = 0 ∷ []
  field_words (more_fields name s fs) = 1 ∷ (name_words name ++ (shape_words s ++ field_words fs))

  -- 1, name, number and shape of each arm, and 0 behind the last
  pub arm_words : ArmTrees → List ℕ
  arm_words no_arms = 0 ∷ []
  arm_words (more_arms name number s arms) = 1 ∷ (name_words name ++ (number ∷ (shape_words s ++ arm_words arms)))

-- the words that are kept
abbrev pub words_in : Option (Rc (Vec ℕ Global) Global) → Option (List ℕ)
words_in None = None
words_in (Some words) = Some words.value.items

-- words, where there are any, are these
abbrev pub AreWords : List ℕ → Option (List ℕ) → Type 0
AreWords words None = Unit {0}
AreWords words (Some kept) = kept ≡ words
