-- What a program comes to whose datagrams are delivered in the order of sending.
use Rattle.std.specs.Prelude.{ℕ, ◌++◌, nat_lt, if◌then◌else◌, length, codes, Ok, Err}
use Rattle.std.specs.Fmt.{decimal}
use Rattle.circus_model.specs.Behaviour.{Behaviour}
use Rattle.circus_record.specs.Line.{line}
use Rattle.circus_record.specs.Naming.{Names}
use Rattle.circus_config.specs.declared.plan.Plan.{Plan}
use Rattle.circus_world.specs.WorldState.{WorldState}
use Rattle.circus_settle.specs.Settled.{Delivered, Settling, settle_world}
use Rattle.circus_settle.specs.Summary.{settled_text}
use Rattle.circus_commands.specs.declared.status.Status.TheVariants.{Done, Unsettled}
use Rattle.circus_commands.specs.Ending.{Ending}
use Rattle.circus_commands.specs.Spent.{end_of_spent}
use Rattle.circus_simulation.specs.Booted.{boot_world, names_in, after_step}

-- some of the datagrams that were sent are left
abbrev pub budget : ℕ → ℕ → Ending
budget deliveries sent = record { status = Unsettled; text = line (codes "budget " ++ decimal deliveries ++ codes ", " ++ decimal sent ++ codes " sent") }

module _ {M : Type 0} where
  -- of so many that were to be delivered
  abbrev pub settled_end : Names → ℕ → Delivered M → Ending
  settled_end names deliveries done =
      if nat_lt done.given (length done.world.sent) then budget deliveries (length done.world.sent)
      else record { status = Done; text = settled_text names done.given done.world }

  -- unless a node has no number left
  abbrev pub after_settling : Names → ℕ → Settling M → Ending
  after_settling names deliveries (Ok done) = settled_end names deliveries done
  after_settling names deliveries (Err nodes) = end_of_spent names nodes

-- so many deliveries at most
abbrev pub settle_in : Names → ℕ → WorldState Behaviour → Ending
settle_in names deliveries w = after_settling names deliveries (settle_world (λ b. b.declared) (λ b. b.turn) deliveries 0 w)

-- from boot on
abbrev pub settle_of : Plan → ℕ → Ending
settle_of plan deliveries = after_step (names_in plan) (settle_in (names_in plan) deliveries) (boot_world plan)
