-- What a value gives, and the number that a calculation came to, as the code has them.
use Rattle.std.specs.Prelude.{ℕ, ℤ, List, Option, Some, None, Ok, Err}
use Rattle.std.specs.Borrow.{Bor}
use Rattle.circus_value.specs.ValueTree.{ValueTree}
use Rattle.circus_value.specs.ValueOf.{tree_of}
use Rattle.circus_value.specs.declared.value.Value.{Value}
use Rattle.circus_model.specs.declared.language_error.LanguageError.TheVariants.{Range}
use Rattle.circus_evaluate.specs.Got as got
use Rattle.circus_evaluate.specs.Got.{Raising}

-- a value that is there, or the error of one that is none
abbrev pub value_as : Option (Bor Value) → Raising ValueTree
value_as None = Err Range
value_as (Some value) = Ok (tree_of value.now)

abbrev pub bytes_as : Bor (List ℕ) → List ℕ
bytes_as bytes = bytes.now

-- a number that the language has, or the error of one that it hasn't
abbrev pub number_in_range : Option ℤ → Raising got.Got
number_in_range None = Err Range
number_in_range (Some z) = Ok (got.number z)
