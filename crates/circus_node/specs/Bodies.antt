-- The values that stand behind the header of a message.
use Rattle.std.specs.Prelude.{ℕ, zero, suc, ◌+◌, ◌-◌, ◌==◌, nat_le, if◌then◌else◌, List, [], ◌∷◌, length, drop, find, Option, None, Some, option_map, option_and_then}
use Rattle.std.specs.Option.{option_map_or}
use Rattle.circus_value.specs.ValueTree.{ValueTree, long_cardinal}
use Rattle.circus_value.specs.ExternalSize.{size_of_values}
use Rattle.circus_value.specs.declared.shape.Shape.{Shape}
use Rattle.circus_value.specs.declared.outcome.Outcome.{Outcome}
use Rattle.circus_value.specs.declared.outcome.Outcome.TheVariants.{Returned, Raised}
use Rattle.circus_external.specs.Octets.{first_word}
use Rattle.circus_external.specs.Answer.{Answer, found, short, not_a_value, bad_pad}
use Rattle.circus_external.specs.Reading.{fields_reading}
use Rattle.circus_transfer.specs.Snapshot.{fields_of, snapshot_fields}
use Rattle.circus_model.specs.LanguageError.{is_language_error}
use Rattle.circus_model.specs.declared.signature.ProcedureShape.{ProcedureShape}
use Rattle.circus_model.specs.declared.signature.ErrorShape.{ErrorShape}

-- values that were found, where nothing stands behind them
abbrev pub found_whole : Answer (List ValueTree) → Option (List ValueTree)
found_whole (found values next []) = Some values
found_whole (found values next (b ∷ bs)) = None
found_whole (short place) = None
found_whole (not_a_value place) = None
found_whole (bad_pad place) = None

-- one value for each shape, which the bytes from a place on spell, if they are at most so many
abbrev pub values_at : List Shape → ℕ → ℕ → List ℕ → Option (List ValueTree)
values_at shapes most at bytes =
    if nat_le (length bytes - at) most then found_whole (fields_reading (fields_of shapes) at (drop at bytes)) else None

-- the results, which stand at a place
abbrev pub results_at : ProcedureShape → ℕ → ℕ → List ℕ → Option Outcome
results_at p most at bytes = option_map Returned (values_at p.results most at bytes)

-- the shapes of the values with which a procedure raises the error of a number: one that it reports, or one of the
-- language, which has none
abbrev pub raised_shapes : ProcedureShape → ℕ → Option (List Shape)
raised_shapes p number =
    option_map_or (λ (e : ErrorShape). Some e.arguments)
    (find (λ (e : ErrorShape). e.number == number) p.errors)
    (if is_language_error number then Some [] else None)

-- these values, which stand at a place
abbrev pub raised_values : ProcedureShape → ℕ → ℕ → ℕ → List ℕ → Option (List ValueTree)
raised_values p number most at bytes = option_and_then (λ shapes. values_at shapes most at bytes) (raised_shapes p number)

-- the error whose number stands at a place, and behind it the error's values
abbrev pub error_at : ProcedureShape → ℕ → ℕ → List ℕ → Option Outcome
error_at p most at bytes =
    option_and_then (λ number. option_map (Raised number) (raised_values p number most (at + 2) bytes)) (first_word (drop at bytes))

-- the results behind word 0, or an error behind word 1
abbrev pub outcome_by : ProcedureShape → ℕ → ℕ → List ℕ → ℕ → Option Outcome
outcome_by p most at bytes zero = results_at p most at bytes
outcome_by p most at bytes (suc zero) = error_at p most at bytes
outcome_by p most at bytes (suc (suc _)) = None

-- the outcome of a procedure that the bytes from a place on are
abbrev pub outcome_at : ProcedureShape → ℕ → ℕ → List ℕ → Option Outcome
outcome_at p most at bytes = option_and_then (outcome_by p most (at + 2) bytes) (first_word (drop at bytes))

-- the number of a snapshot, a count and a state
abbrev pub counted_state : List ValueTree → Option (List ValueTree × ℕ)
counted_state (kind ∷ long_cardinal count ∷ state) = Some (state, count)
counted_state _ = None

-- the state that a message hands over, and how many calls led to it, if the state has at most so many bytes
abbrev pub restored_in : List Shape → ℕ → List ℕ → Option (List ValueTree × ℕ)
restored_in variables most message =
    option_and_then
    (λ (restored : List ValueTree × ℕ). if nat_le (size_of_values restored.0) most then Some restored else None)
    (option_and_then counted_state (found_whole (fields_reading (snapshot_fields variables) 0 message)))
