-- What assignments make of the variables.
use Rattle.std.specs.Prelude.{ℕ, not, ◌&&◌, ◌||◌, nat_lt, nat_le, if◌then◌else◌, List, [], ◌∷◌, ◌++◌, take, Option, Some, None, Ok, Err, ok_or, slice_get, slice_set}
use Rattle.circus_value.specs.ValueTree.{ValueTree, cardinal, long_cardinal, integer, long_integer, sequence, value_trees}
use Rattle.circus_value.specs.ExternalSize.{external_size, size_of_values}
use Rattle.circus_value.specs.Fits.{count_of}
use Rattle.circus_model.specs.declared.language_error.LanguageError.TheVariants.{Range, TooLong, WrongChoice}
use Rattle.circus_checked.specs.declared.kinds.NumberKind.{NumberKind}
use Rattle.circus_checked.specs.declared.kinds.NumberKind.TheVariants as kind
use Rattle.circus_checked.specs.declared.expression.CheckedPlace.{CheckedPlace}
use Rattle.circus_checked.specs.ExpressionTree.{suffix_trees}
use Rattle.circus_evaluate.specs.Got.{Got, number, whole, Raising, and_then, as_kind, number_of, value_of}
use Rattle.circus_evaluate.specs.Parts.{part_at, with_part, list_of}
use Rattle.circus_evaluate.specs.Evaluating.{steps_of}

-- what is stored over an old value: a number becomes one of the old one's kind
abbrev pub stored_over : Got → ValueTree → Raising ValueTree
stored_over (whole t) old = Ok t
stored_over (number z) (cardinal n) = as_kind kind.Cardinal z
stored_over (number z) (long_cardinal n) = as_kind kind.LongCardinal z
stored_over (number z) (integer y) = as_kind kind.Integer z
stored_over (number z) (long_integer y) = as_kind kind.LongInteger z
stored_over (number z) old = Err Range

-- an item as a sequence holds it: a number is one of the kind of its items
abbrev pub as_item : Option NumberKind → Got → Raising ValueTree
as_item None x = value_of x
as_item (Some k) x = and_then (number_of x) (as_kind k)

-- a sequence with an item more, within its bound
abbrev pub with_more : ℕ → ValueTree → ValueTree → Raising ValueTree
with_more bound t (sequence ts) = if nat_lt (count_of ts) bound then Ok (sequence (value_trees (list_of ts ++ t ∷ []))) else Err TooLong
with_more bound t old = Err WrongChoice

abbrev pub appended_over : ℕ → Option NumberKind → Got → ValueTree → Raising ValueTree
appended_over bound k x old = and_then (as_item k x) (λ t. with_more bound t old)

-- a module has a limit for values and for its state, which are the first so many variables
module _ (limit states : ℕ) where
  -- the variables with another value of one, if neither it nor the state is above the limit
  abbrev pub replace_variable : List ValueTree → ℕ → ValueTree → Raising (List ValueTree)
  replace_variable variables place t =
      if nat_le (external_size t) limit && (not (nat_lt place states) || nat_le (size_of_values (take states (slice_set variables place t))) limit)
      then Ok (slice_set variables place t)
      else Err TooLong

  -- what stands at a place is replaced by what this makes of it: the subscripts are evaluated, then the place is gone into, then
  -- the value is made and stored
  abbrev pub store_at : List ValueTree → CheckedPlace → (ValueTree → Raising ValueTree) → Raising (List ValueTree)
  store_at variables place change =
      and_then (steps_of limit variables (suffix_trees place.suffixes)) (λ steps.
      and_then (ok_or (slice_get variables place.variable) WrongChoice) (λ t.
      and_then (part_at steps t) (λ old.
      and_then (change old) (λ new.
      replace_variable variables place.variable (with_part steps new t)))))
