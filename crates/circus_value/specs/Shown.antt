-- The text of a value.
use Rattle.std.specs.Prelude.{ℕ, ◌/◌, ◌%◌, ◌+◌, Bool, true, false, ◌&&◌, ◌==◌, nat_lt, nat_le, not, cond, List, [], ◌∷◌, ◌++◌, codes}
use Rattle.std.specs.Fmt.{decimal, signed_decimal}
use Rattle.circus_value.specs.ValueTree.{ValueTree, ValueTrees, boolean, cardinal, long_cardinal, integer, long_integer, text, enumeration, array, sequence, «record», choice, none, more, value_trees}

-- TRUE or FALSE
abbrev pub truth_text : Bool → List ℕ
truth_text true = codes "TRUE"
truth_text false = codes "FALSE"

-- a lower-case hexadecimal digit
abbrev pub hexadecimal_digit : ℕ → ℕ
hexadecimal_digit n = cond (nat_lt n 10) (48 + n) (87 + n)

-- a byte that stands for itself in a text
abbrev pub is_plain : ℕ → Bool
is_plain b = nat_le 32 b && nat_le b 126 && not (b == 34) && not (b == 92)

-- a byte of a text: itself, or a backslash and two hexadecimal digits
abbrev pub shown_byte : ℕ → List ℕ
shown_byte b = cond (is_plain b) (b ∷ []) (92 ∷ hexadecimal_digit (b / 16) ∷ hexadecimal_digit (b % 16) ∷ [])

-- the bytes of a text one after another
abbrev pub shown_bytes : List ℕ → List ℕ
shown_bytes [] = []
shown_bytes (b ∷ bytes) = shown_byte b ++ shown_bytes bytes

abbrev mutual
  pub text_of_value : ValueTree → List ℕ
  text_of_value (boolean truth) = truth_text truth
  text_of_value (cardinal n) = decimal n
  text_of_value (long_cardinal n) = decimal n
  text_of_value (integer z) = signed_decimal z
  text_of_value (long_integer z) = signed_decimal z
  text_of_value (text bytes) = 34 ∷ (shown_bytes bytes ++ 34 ∷ [])
  text_of_value (enumeration n) = 35 ∷ decimal n
  text_of_value (array items) = 123 ∷ (shown_items items ++ 125 ∷ [])
  text_of_value (sequence items) = 123 ∷ (shown_items items ++ 125 ∷ [])
  text_of_value («record» items) = 91 ∷ (shown_items items ++ 93 ∷ [])
  text_of_value (choice n t) = decimal n ++ 40 ∷ (text_of_value t ++ 41 ∷ [])

  -- values with a comma and a space between two
  pub shown_items : ValueTrees → List ℕ
  shown_items none = []
  shown_items (more t ts) = text_of_value t ++ shown_others ts

  -- each value behind a comma and a space
  pub shown_others : ValueTrees → List ℕ
  shown_others none = []
  shown_others (more t ts) = 44 ∷ 32 ∷ (text_of_value t ++ shown_others ts)

-- a list of values, or a state
abbrev pub shown_list : List ValueTree → List ℕ
shown_list ts = 91 ∷ (shown_items (value_trees ts) ++ 93 ∷ [])
