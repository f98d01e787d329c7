-- How many bytes a value has in external form.
use Rattle.std.specs.Prelude.{ℕ, ◌+◌, ◌*◌, ◌/◌, List, length}
use Rattle.circus_value.specs.ValueTree.{ValueTree, ValueTrees, boolean, cardinal, long_cardinal, integer, long_integer, text, enumeration, array, sequence, «record», choice, none, more, value_trees}

-- a word of two bytes, and an even number of bytes
abbrev pub text_size : List ℕ → ℕ
text_size bytes = 2 + 2 * ((length bytes + 1) / 2)

abbrev mutual
  pub external_size : ValueTree → ℕ
  external_size (boolean _) = 2
  external_size (cardinal _) = 2
  external_size (long_cardinal _) = 4
  external_size (integer _) = 2
  external_size (long_integer _) = 4
  external_size (text bytes) = text_size bytes
  external_size (enumeration _) = 2
  external_size (array items) = external_sizes items
  external_size (sequence items) = 2 + external_sizes items
  external_size («record» items) = external_sizes items
  external_size (choice _ t) = 2 + external_size t

  pub external_sizes : ValueTrees → ℕ
  external_sizes none = 0
  external_sizes (more t ts) = external_size t + external_sizes ts

-- of values one after another
abbrev pub size_of_values : List ValueTree → ℕ
size_of_values ts = external_sizes (value_trees ts)
