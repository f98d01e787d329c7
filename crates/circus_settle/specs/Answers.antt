-- What the calls of a settling answer.
use Rattle.std.specs.Prelude.{◌≡◌, ◌-◌, ℕ, List, length, Result, Ok, Err}
use Rattle.circus_value.specs.ValueTree.{ValueTree}
use Rattle.circus_value.specs.declared.outcome.Outcome.{Outcome}
use Rattle.circus_model.specs.NextTurn.{NextTurn}
use Rattle.circus_model.specs.declared.signature.Signature.{Signature}
use Rattle.circus_world.specs.WorldState.{WorldState}
use Rattle.circus_settle.specs.declared.settling.Settled.{Settled}
use Rattle.circus_settle.specs.declared.settling.SettleFault.{SettleFault}
use Rattle.circus_settle.specs.declared.settling.SettleFault.TheVariants as fault
use Rattle.circus_settle.specs.Settled.{settle_world, HasSettled}

module _ {M : Type 0} (declared : M → Signature)
    (turn : M → List ValueTree → ℕ → List ValueTree → List Outcome → NextTurn) where
  -- so many datagrams at most were delivered, but for want of memory
  abbrev pub IsSettled : {P : Type 0} → ℕ → WorldState M → Result (Settled M P) SettleFault → Type 0
  IsSettled most w (Ok done) =
      HasSettled declared turn most w (record { world = done.world; given = done.given })
      × (done.left ≡ length done.world.sent - done.given)
  IsSettled most w (Err (fault.Spent node peer)) = settle_world declared turn most 0 w ≡ Err (node, peer)
  IsSettled most w (Err fault.NoMemory) = Unit {0}
