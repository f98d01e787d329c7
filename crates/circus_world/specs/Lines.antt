-- Where lines lead, stepped one by one, and where datagrams go.
use Rattle.std.specs.Prelude.{◌≡◌, ◌≢◌, ℕ, ◌<◌, List, [], ◌∷◌, length, None, Ok}
use Rattle.circus_value.specs.ValueTree.{ValueTree}
use Rattle.circus_value.specs.declared.outcome.Outcome.{Outcome}
use Rattle.circus_model.specs.NextTurn.{NextTurn}
use Rattle.circus_model.specs.declared.signature.Signature.{Signature}
use Rattle.circus_schedule.specs.declared.line.Line.{Line}
use Rattle.circus_schedule.specs.Meaning.{NamesBelow}
use Rattle.circus_world.specs.Sent.{Sent}
use Rattle.circus_world.specs.WorldState.{WorldState}
use Rattle.circus_world.specs.Legal.{refusal}
use Rattle.circus_world.specs.Course.{step_line}

-- a datagram goes from one of so many nodes to another one
pub record IsBetween (nodes : ℕ) (sent : Sent) : Type 0 where
  pub from : sent.from < nodes
  pub to : sent.to < nodes
  pub others : sent.from ≢ sent.to

module _ {M : Type 0} (declared : M → Signature) (turn : M → List ValueTree → ℕ → List ValueTree → List Outcome → NextTurn) where
  -- a line of nodes of the program, which may be stepped
  pub record Leads (line : Line) (w next : WorldState M) : Type 0 where
    pub named : NamesBelow (length w.nodes) line
    pub legal : refusal w line ≡ None
    pub stepped_is : step_line declared turn line w ≡ Ok next

  -- such lines, one behind another
  abbrev pub Lead : List Line → WorldState M → WorldState M → Type 0
  Lead [] w last = last ≡ w
  Lead (line ∷ lines) w last = (next : WorldState M) × Leads line w next × Lead lines next last
