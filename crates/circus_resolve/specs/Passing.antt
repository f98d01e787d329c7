-- Which sorts pass where one is wanted.
use Rattle.std.specs.Prelude.{Bool, true, false}
use Rattle.circus_value.specs.ShapeTree.{ShapeTree, boolean, text, sequence}
use Rattle.circus_checked.specs.Sorts.{Sort, a_number, of, sort_of}
use Rattle.circus_resolve.specs.Same.{shape_eq}

-- numbers of the four kinds mix; else shapes are the same
abbrev pub sort_eq : Sort → Sort → Bool
sort_eq a_number a_number = true
sort_eq (of s) (of t) = shape_eq s t
sort_eq _ _ = false

abbrev pub is_number : Sort → Bool
is_number a_number = true
is_number (of _) = false

abbrev pub is_truth : Sort → Bool
is_truth (of boolean) = true
is_truth _ = false

abbrev pub is_text : Sort → Bool
is_text (of text) = true
is_text _ = false

-- a STRING or a sequence
abbrev pub has_length : Sort → Bool
has_length (of text) = true
has_length (of (sequence _ _)) = true
has_length _ = false

-- a value of the sort may be stored where the shape is
abbrev pub goes_into : ShapeTree → Sort → Bool
goes_into shape s = sort_eq (sort_of shape) s
