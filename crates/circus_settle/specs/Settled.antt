-- Each datagram is delivered once, in the order of sending.
use Rattle.std.specs.Prelude.{◌≡◌, ℕ, zero, suc, ◌+◌, nat_lt, if◌then◌else◌, List, [], ◌∷◌, length, Result, Ok, Err}
use Rattle.circus_value.specs.ValueTree.{ValueTree}
use Rattle.circus_value.specs.declared.outcome.Outcome.{Outcome}
use Rattle.circus_model.specs.NextTurn.{NextTurn}
use Rattle.circus_model.specs.declared.signature.Signature.{Signature}
use Rattle.circus_schedule.specs.declared.line.Line.{Line}
use Rattle.circus_schedule.specs.declared.line.Line.TheVariants.{Deliver}
use Rattle.circus_world.specs.WorldState.{WorldState}
use Rattle.circus_world.specs.Course.{Stepped, step_line}

-- the lines that deliver so many datagrams, the first of which has this number
abbrev pub deliveries_from : ℕ → ℕ → List Line
deliveries_from number zero = []
deliveries_from number (suc count) = Deliver number ∷ deliveries_from (number + 1) count

-- those that were sent first
abbrev pub first_deliveries : ℕ → List Line
first_deliveries count = deliveries_from 0 count

-- a world in which so many datagrams were delivered
pub record Delivered (M : Type 0) : Type 0 where
  pub world : WorldState M
  pub given : ℕ

-- that, or a node and the other one for which it has no number left
abbrev pub Settling : Type 0 → Type 0
Settling M = Result (Delivered M) (ℕ × ℕ)

-- and then others, unless a node has no number left
abbrev pub then_settled : {M : Type 0} → (WorldState M → Settling M) → Stepped M → Settling M
then_settled others (Ok w) = others w
then_settled others (Err spent) = Err spent

module _ {M : Type 0} (declared : M → Signature)
    (turn : M → List ValueTree → ℕ → List ValueTree → List Outcome → NextTurn) where
  -- so many deliveries at most, where those before this number were delivered
  abbrev pub settle_world : ℕ → ℕ → WorldState M → Settling M
  settle_world zero number w = Ok (record { world = w; given = number })
  settle_world (suc most) number w =
      if nat_lt number (length w.sent) then
      then_settled (settle_world most (number + 1)) (step_line declared turn (Deliver number) w)
      else Ok (record { world = w; given = number })

  -- at most so many deliveries, from the first datagram on, come to this
  abbrev pub HasSettled : ℕ → WorldState M → Delivered M → Type 0
  HasSettled most w done = settle_world most 0 w ≡ Ok done
