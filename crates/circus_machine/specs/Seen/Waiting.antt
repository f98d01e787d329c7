-- An execution that waits, with the place of its body.
use Rattle.std.specs.Prelude.{◌≡◌, ℕ, List, Option, Some, None, slice_get}
use Rattle.circus_value.specs.ValueTree.{ValueTree}
use Rattle.circus_value.specs.declared.outcome.Outcome.{Outcome}
use Rattle.circus_model.specs.declared.signature.Signature.{Signature}
use Rattle.circus_model.specs.declared.turn.Turn.{Turn}
use Rattle.circus_model.specs.declared.turn.Turn.TheVariants as T
use Rattle.circus_machine.specs.Bodies.{Stands}
use Rattle.circus_machine.specs.Modules.{place_of}
use Rattle.circus_machine.specs.declared.body.Body.{Body}
use Rattle.circus_machine.specs.declared.run.Paused.{Paused}
use Rattle.circus_machine.specs.declared.text.Waiting.{Waiting}

-- the turn, of the execution of the body at a place
abbrev pub waits : ℕ → Turn Paused → Turn Waiting
waits body (T.Asks callee procedure arguments state paused) = T.Asks callee procedure arguments state (record { body = body; paused = paused })
waits body (T.Ends outcome state) = T.Ends outcome state

abbrev pub stands_by : ℕ → Option Body → Paused → List ValueTree → List ValueTree → List Outcome → Type 0
stands_by limit None paused state arguments replies = ⊥
stands_by limit (Some body) paused state arguments replies = Stands limit body.statements body.locals paused state arguments replies

-- it stands for an execution of the procedure whose body it is
abbrev pub Waits : Signature → List Body → Waiting → List ValueTree → ℕ → List ValueTree → List Outcome → Type 0
Waits signature bodies waiting state procedure arguments replies =
    (place_of procedure signature.procedures ≡ Some waiting.body) × stands_by signature.limit (slice_get bodies waiting.body) waiting.paused state arguments replies
