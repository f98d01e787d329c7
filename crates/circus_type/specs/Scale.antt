-- How large types are told to be.
use Rattle.std.specs.Prelude.{ℕ, ◌+◌, ◌*◌, Bool, ◌||◌, nat_lt}
use Rattle.circus_value.specs.ShapeTree.{ShapeTree, boolean}
use Rattle.circus_syntax.specs.declared.named.TypeName.{TypeName}
use Rattle.circus_syntax.specs.Spelling.{most_levels}
use Rattle.circus_syntax.specs.TypeTree.{TypeTree, GroupTrees}
use Rattle.circus_type.specs.Limits.{most_parts, most_zero_bytes}
use Rattle.circus_type.specs.Written.{levels, parts, zero_size}
use Rattle.circus_type.specs.Together.{zero_size_of}
use Rattle.circus_type.specs.Meaning.{shape_of_type, written_groups}

-- a way to tell it
pub record Scale (S : Type 0) : Type 0 where
  -- what a type comes to, where this is what each name comes to
  pub of_type : (TypeName → S) → TypeTree → S
  -- what a name comes to that stands for no type
  pub of_none : S
  -- the parts so far with those of so many more types that come to this
  pub parts_with : ℕ → ℕ → S → ℕ
  -- a type that comes to this passes a limit, or with it there are too many parts
  pub is_over : ℕ → S → Bool
  -- fields together pass a limit
  pub are_over : (TypeName → S) → GroupTrees → Bool

-- a type passes a limit, or with it there are so many parts that they do
abbrev pub is_large : ℕ → ShapeTree → Bool
is_large so_far s = nat_lt most_zero_bytes (zero_size s) || nat_lt most_levels (levels s) || nat_lt most_parts so_far

-- types written out
abbrev pub written_out : Scale ShapeTree
written_out = record {
  of_type = shape_of_type;
  of_none = boolean;
  parts_with = λ so_far n s. so_far + n * parts s;
  is_over = is_large;
  are_over = λ forms groups. nat_lt most_zero_bytes (zero_size_of (written_groups forms groups));
}
