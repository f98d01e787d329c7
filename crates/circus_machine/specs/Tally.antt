-- What a tally does: it adds up the numbers that it is given.
use Rattle.std.specs.Prelude.{ℕ, ◌+◌, nat_lt, if◌then◌else◌, false, List, [], ◌∷◌}
use Rattle.circus_value.specs.ValueTree.{ValueTree, cardinal, long_cardinal}
use Rattle.circus_value.specs.declared.shape.Shape.TheVariants.{Cardinal, LongCardinal}
use Rattle.circus_value.specs.declared.outcome.Outcome.{Outcome}
use Rattle.circus_value.specs.declared.outcome.Outcome.TheVariants.{Returned, Raised}
use Rattle.circus_limits.specs.Limits.{first_limit}
use Rattle.circus_model.specs.declared.language_error.LanguageError.TheVariants.{Range}
use Rattle.circus_model.specs.LanguageError as language
use Rattle.circus_model.specs.declared.signature.ProcedureShape.{ProcedureShape}
use Rattle.circus_model.specs.declared.signature.Signature.{Signature}
use Rattle.circus_model.specs.NextTurn.{NextTurn, ends}

-- procedure 1: a CARDINAL is taken, and the sum so far given
abbrev pub add : ProcedureShape
add = record { number = 1; arguments = Cardinal ∷ []; results = LongCardinal ∷ []; errors = [] }

-- one variable, and one procedure
abbrev pub tally_signature : Signature
tally_signature =
    record { root = false; imports = []; variables = LongCardinal ∷ []; procedures = add ∷ []; limit = first_limit }

-- a state, and results, of this sum
abbrev pub one_sum : ℕ → List ValueTree
one_sum sum = long_cardinal sum ∷ []

-- the sum in a state
abbrev pub sum_in : List ValueTree → ℕ
sum_in (long_cardinal sum ∷ _) = sum
sum_in _ = 0

-- the number in arguments
abbrev pub number_in : List ValueTree → ℕ
number_in (cardinal number ∷ _) = number
number_in _ = 0

-- the new sum is kept and returned, if it is a LONG CARDINAL; else an error is raised, and nothing changes
abbrev pub tally_turn : List ValueTree → ℕ → List ValueTree → List Outcome → NextTurn
tally_turn state procedure arguments replies =
    let sum = sum_in state + number_in arguments in
    if nat_lt sum 4294967296 then ends (Returned (one_sum sum)) (one_sum sum) else ends (Raised (language.number_of Range) []) state
