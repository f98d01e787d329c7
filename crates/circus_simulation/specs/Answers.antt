-- What the calls of a sample answer.
use Rattle.std.specs.Prelude.{◌≡◌, ℕ, List, Result, Ok, Err}
use Rattle.circus_value.specs.ValueTree.{ValueTree}
use Rattle.circus_value.specs.declared.outcome.Outcome.{Outcome}
use Rattle.circus_model.specs.NextTurn.{NextTurn}
use Rattle.circus_model.specs.declared.signature.Signature.{Signature}
use Rattle.circus_schedule.specs.declared.line.Line.{Line}
use Rattle.circus_world.specs.WorldState.{WorldState}
use Rattle.circus_simulation.specs.declared.sampling.SampleFault.{SampleFault}
use Rattle.circus_simulation.specs.declared.sampling.SampleFault.TheVariants as fault
use Rattle.circus_simulation.specs.Sampled.{sample_lines, lines_drawn}

module _ {M : Type 0} (declared : M → Signature) (turn : M → List ValueTree → ℕ → List ValueTree → List Outcome → NextTurn) where
  -- so many lines behind a word were stepped, but for want of memory
  abbrev pub IsSampled : ℕ → ℕ → WorldState M → Result (WorldState M) SampleFault → Type 0
  IsSampled steps word w (Ok last) = sample_lines declared turn steps word w ≡ Ok last
  IsSampled steps word w (Err (fault.Spent node peer)) = sample_lines declared turn steps word w ≡ Err (node, peer)
  IsSampled steps word w (Err fault.NoMemory) = Unit {0}

  -- these lines were, and their world was left behind
  abbrev pub AreSampled : ℕ → ℕ → WorldState M → Result (List Line) SampleFault → Type 0
  AreSampled steps word w (Ok lines) = (lines ≡ lines_drawn declared turn steps word w) × ((last : WorldState M) × (sample_lines declared turn steps word w ≡ Ok last))
  AreSampled steps word w (Err (fault.Spent node peer)) = sample_lines declared turn steps word w ≡ Err (node, peer)
  AreSampled steps word w (Err fault.NoMemory) = Unit {0}
