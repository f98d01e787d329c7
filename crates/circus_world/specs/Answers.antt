-- What the calls of a world answer.
use Rattle.std.specs.Prelude.{◌≡◌, ℕ, List, Option, None, Some, Result, Ok, Err}
use Rattle.circus_value.specs.ValueTree.{ValueTree}
use Rattle.circus_value.specs.declared.outcome.Outcome.{Outcome}
use Rattle.circus_collate.specs.declared.deployment.Deployment.{Deployment}
use Rattle.circus_model.specs.NextTurn.{NextTurn}
use Rattle.circus_model.specs.declared.signature.Signature.{Signature}
use Rattle.circus_schedule.specs.declared.line.Line.{Line}
use Rattle.circus_world.specs.declared.world.BootFault.{BootFault}
use Rattle.circus_world.specs.declared.world.BootFault.TheVariants as boot_fault
use Rattle.circus_world.specs.declared.world.WorldFault.{WorldFault}
use Rattle.circus_world.specs.declared.world.WorldFault.TheVariants as fault
use Rattle.circus_world.specs.WorldState.{WorldState}
use Rattle.circus_world.specs.Legal.{refusal}
use Rattle.circus_world.specs.Course.{step_line}
use Rattle.circus_world.specs.Boot.{before_any, all_booted, AreHosted}

module _ {M : Type 0} (declared : M → Signature) (turn : M → List ValueTree → ℕ → List ValueTree → List Outcome → NextTurn) where
  -- a line is refused for the first cause, or stepped, but for want of memory
  abbrev pub IsStepped : {P : Type 0} → Line → WorldState M → Result (WorldState M) (WorldFault M P) → Type 0
  IsStepped line w (Ok next) = (refusal w line ≡ None) × (step_line declared turn line w ≡ Ok next)
  IsStepped line w (Err (fault.Illegal same cause)) = (refusal w line ≡ Some cause) × (same ≡ w)
  IsStepped line w (Err (fault.Spent node peer)) = (refusal w line ≡ None) × (step_line declared turn line w ≡ Err (node, peer))
  IsStepped line w (Err fault.NoMemory) = Unit {0}

module _ {M : Type 0} (declared : M → Signature) (turn : M → List ValueTree → ℕ → List ValueTree → List Outcome → NextTurn) (first : M → List ValueTree) where
  -- all nodes booted with modules that do what their troupes' do, but for want of memory
  abbrev pub IsBooted : Deployment → List M → Result (WorldState M) BootFault → Type 0
  IsBooted d modules (Ok w) = (hosted : List (Option M)) × AreHosted declared turn first d modules hosted × (all_booted declared turn first hosted (before_any d modules) ≡ Ok w)
  IsBooted d modules (Err (boot_fault.Spent node peer)) = (hosted : List (Option M)) × AreHosted declared turn first d modules hosted × (all_booted declared turn first hosted (before_any d modules) ≡ Err (node, peer))
  IsBooted d modules (Err boot_fault.NoMemory) = Unit {0}
