-- A tally keeps to the laws of modules.
use Rattle.std.proofs.Common.{◌≡◌, ℕ, ◌+◌, ◌==◌, Bool, true, false, nat_lt, if◌then◌else◌, IsTrue, List, [], Some, None, length, refl, lit≤}
use Rattle.std.specs.Option.{option_map_or}
use Rattle.circus_value.specs.ValueTree.{ValueTree}
use Rattle.circus_value.specs.Fits.{all_fit}
use Rattle.circus_value.specs.declared.outcome.Outcome.{Outcome}
use Rattle.circus_value.specs.declared.outcome.Outcome.TheVariants.{Returned, Raised}
use Rattle.circus_model.specs.Lawful.{IsState, CanStart, IsLawful, outcome_fits}
use Rattle.circus_model.specs.NextTurn.{ends}
use Rattle.circus_machine.specs.Tally.{add, tally_signature, one_sum, sum_in, number_in, tally_turn}

pub first_is_state : IsState tally_signature (one_sum 0)
first_is_state = record { fits = refl; within = lit≤ tt }

-- where a start finds the procedure, an outcome does
found : (is : Bool) (arguments : List ValueTree) (outcome : Outcome) → IsTrue (outcome_fits add outcome)
    → IsTrue (option_map_or (λ p. all_fit p.arguments arguments) (if is then Some add else None) false) → IsTrue (option_map_or (λ p. outcome_fits p outcome) (if is then Some add else None) false)
found true arguments outcome fits start = fits
found false arguments outcome fits start = start

by_sum : (state : List ValueTree) (procedure : ℕ) (arguments : List ValueTree) (replies sum : ℕ) (holds : Bool) → nat_lt sum 4294967296 ≡ holds → CanStart tally_signature state procedure arguments
    → IsLawful tally_signature procedure replies (if holds then ends (Returned (one_sum sum)) (one_sum sum) else ends (Raised 60001 []) state)
by_sum state procedure arguments replies sum true is start = (
  record { fits = found (1 == procedure) arguments (Returned (one_sum sum)) (rw is refl) start.fit; within = lit≤ tt },
  record { fits = rw is refl; within = lit≤ tt },
)
by_sum state procedure arguments replies sum false is start =
    (record { fits = found (1 == procedure) arguments (Raised 60001 []) refl start.fit; within = lit≤ tt }, start.from_state)

pub is_lawful : (state : List ValueTree) (procedure : ℕ) (arguments : List ValueTree) (replies : List Outcome) → CanStart tally_signature state procedure arguments
    → IsLawful tally_signature procedure (length replies) (tally_turn state procedure arguments replies)
is_lawful state procedure arguments replies start =
    let sum = sum_in state + number_in arguments in
    by_sum state procedure arguments (length replies) sum (nat_lt sum 4294967296) refl start
