-- The variables of an execution with their sizes, and how the code changes them.
use Rattle.std.specs.Prelude.{◌≡◌, ℕ, ◌<◌, List, All, map, take, Result, Ok, Err, slice_set}
use Rattle.circus_value.specs.ValueTree.{ValueTree}
use Rattle.circus_value.specs.ExternalSize.{external_size, size_of_values}
use Rattle.circus_evaluate.specs.Got.{Got, Raising}
use Rattle.circus_machine.specs.Storing.{stored_over, appended_over, replace_variable}
use Rattle.circus_evaluate.specs.declared.got.NoValue.{NoValue}
use Rattle.circus_evaluate.specs.declared.got.NoValue.TheVariants.{Raises, NoMemory}
use Rattle.circus_machine.specs.declared.store.Change.{Change}
use Rattle.circus_machine.specs.declared.store.Change.TheVariants.{Assign, Append}
use Rattle.circus_machine.specs.declared.store.Variables.{Variables}
use Rattle.circus_machine.specs.declared.store.Sizes.{Sizes}
use Rattle.circus_model.specs.declared.language_error.LanguageError.{LanguageError}

-- what a change makes of what is given and an old value
abbrev pub changed_over : Change → Got → ValueTree → Raising ValueTree
changed_over Assign x old = stored_over x old
changed_over (Append bound kind) x old = appended_over bound kind x old

-- the sizes are those of the values and of the state, none of which is too great for the code's numbers
pub record AreSized (v : Variables) : Type 0 where
  pub each : v.sizes ≡ map external_size v.values
  pub state : v.state_size ≡ size_of_values (take v.states v.values)
  pub small : All (λ n. n < 4294967296) v.sizes
  pub small_state : v.state_size < 4294967296

-- another value of a variable is kept, with the sizes that there are then, or it is too great
abbrev pub Resized : ℕ → Variables → ℕ → ValueTree → Result Sizes LanguageError → Type 0
Resized limit v index t (Ok sizes) =
    (replace_variable limit v.states v.values index t ≡ Ok (slice_set v.values index t))
    × AreSized (record { values = slice_set v.values index t; states = v.states; sizes = slice_set v.sizes index sizes.variable; state_size = sizes.state })
Resized limit v index t (Err error) = replace_variable limit v.states v.values index t ≡ Err error

-- the variables are those that are meant, or are as before where an error is raised
abbrev pub Changed : Result (Unit {0}) NoValue → Raising (List ValueTree) → Variables → Variables → Type 0
Changed (Ok done) meant old new = (meant ≡ Ok new.values) × ((new.states ≡ old.states) × AreSized new)
Changed (Err (Raises error)) meant old new = (meant ≡ Err error) × (new ≡ old)
Changed (Err NoMemory) meant old new = Unit {0}
