-- Which values a shape admits.
use Rattle.std.specs.Prelude.{ℕ, ℤ, pos, negsuc, Bool, true, false, ◌&&◌, ◌==◌, nat_lt, nat_le, List, [], ◌∷◌, length, cond, suc}
use Rattle.std.specs.List.{list_all, list_any}
use Rattle.circus_value.specs.declared.shape.Label.{Label}
use Rattle.circus_value.specs.declared.shape.Shape.{Shape}
use Rattle.circus_value.specs.ValueTree.{ValueTree, ValueTrees, none, more}
use Rattle.circus_value.specs.ValueTree as V
use Rattle.circus_value.specs.ShapeTree.{ShapeTree, FieldTrees, ArmTrees, no_fields, more_fields, no_arms, more_arms}
use Rattle.circus_value.specs.ShapeTree as S
use Rattle.circus_value.specs.ShapeOf.{tree_of}

-- from -limit to limit - 1
abbrev pub is_signed_below : ℕ → ℤ → Bool
is_signed_below limit (pos n) = nat_lt n limit
is_signed_below limit (negsuc n) = nat_lt n limit

-- a truth value
abbrev pub is_truth : ValueTree → Bool
is_truth (V.boolean _) = true
is_truth _ = false

-- a number of one word
abbrev pub is_cardinal : ValueTree → Bool
is_cardinal (V.cardinal n) = nat_lt n 65536
is_cardinal _ = false

-- a number of two words
abbrev pub is_long_cardinal : ValueTree → Bool
is_long_cardinal (V.long_cardinal n) = nat_lt n 4294967296
is_long_cardinal _ = false

-- a signed number of one word
abbrev pub is_integer : ValueTree → Bool
is_integer (V.integer z) = is_signed_below 32768 z
is_integer _ = false

-- a signed number of two words
abbrev pub is_long_integer : ValueTree → Bool
is_long_integer (V.long_integer z) = is_signed_below 2147483648 z
is_long_integer _ = false

-- at most 65,535 bytes
abbrev pub is_text : ValueTree → Bool
is_text (V.text bytes) = nat_lt (length bytes) 65536 && list_all (λ b. nat_lt b 256) bytes
is_text _ = false

-- a number that one of the labels has
abbrev pub is_labelled : List Label → ValueTree → Bool
is_labelled labels (V.enumeration n) = nat_lt n 65536 && list_any (λ l. l.number == n) labels
is_labelled _ _ = false

-- how many values
abbrev pub count_of : ValueTrees → ℕ
count_of none = 0
count_of (more _ ts) = suc (count_of ts)

-- each of the values passes
abbrev pub every : (ValueTree → Bool) → ValueTrees → Bool
every passes none = true
every passes (more t ts) = passes t && every passes ts

-- so many items, each of which passes
abbrev pub is_array : ℕ → (ValueTree → Bool) → ValueTree → Bool
is_array len passes (V.array items) = (count_of items == len) && every passes items
is_array _ _ _ = false

-- at most so many items, each of which passes
abbrev pub is_sequence : ℕ → (ValueTree → Bool) → ValueTree → Bool
is_sequence bound passes (V.sequence items) = nat_le (count_of items) bound && every passes items
is_sequence _ _ _ = false

-- parts that pass
abbrev pub is_record : (ValueTrees → Bool) → ValueTree → Bool
is_record pass (V.«record» items) = pass items
is_record _ _ = false

-- an arm's number, with a value that passes for it
abbrev pub is_choice : (ℕ → ValueTree → Bool) → ValueTree → Bool
is_choice passes (V.choice n t) = nat_lt n 65536 && passes n t
is_choice _ _ = false

-- no values
abbrev pub is_none : ValueTrees → Bool
is_none none = true
is_none (more _ _) = false

-- a first value that passes, and others that pass
abbrev pub both_pass : (ValueTree → Bool) → (ValueTrees → Bool) → ValueTrees → Bool
both_pass first others none = false
both_pass first others (more t ts) = first t && others ts

abbrev mutual
  -- the value is one that the shape admits
  pub fits : ShapeTree → ValueTree → Bool
  fits S.boolean = is_truth
  fits S.cardinal = is_cardinal
  fits S.long_cardinal = is_long_cardinal
  fits S.integer = is_integer
  fits S.long_integer = is_long_integer
  fits S.text = is_text
  fits (S.enumeration labels) = is_labelled labels
  fits (S.array len element) = is_array len (fits element)
  fits (S.sequence bound element) = is_sequence bound (fits element)
  fits (S.«record» fields) = is_record (fields_fit fields)
  fits (S.choice arms) = is_choice (arm_fits arms)

  -- one value for each field, in order
  pub fields_fit : FieldTrees → ValueTrees → Bool
  fields_fit no_fields = is_none
  fields_fit (more_fields _ shape fields) = both_pass (fits shape) (fields_fit fields)

  -- the first arm with this number admits the value
  pub arm_fits : ArmTrees → ℕ → ValueTree → Bool
  arm_fits no_arms = λ n t. false
  arm_fits (more_arms _ number shape arms) = λ n t. cond (n == number) (fits shape t) (arm_fits arms n t)

-- one value for each shape, in order
abbrev pub all_fit : List Shape → List ValueTree → Bool
all_fit [] [] = true
all_fit [] (_ ∷ _) = false
all_fit (_ ∷ _) [] = false
all_fit (shape ∷ shapes) (t ∷ ts) = fits (tree_of shape) t && all_fit shapes ts
