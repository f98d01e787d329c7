-- How programs end whose datagrams are delivered in the order of sending.
use Rattle.std.proofs.Common.{◌≡◌, ℕ, ◌<◌, ◌⊎◌, inl, inr, Bool, true, false, length, refl, ap, subst, ◌∙◌, arith, ltb-true, Ok, Err}
use Rattle.std.specs.Prelude.{nat_lt, if◌then◌else◌}
use Rattle.std.proofs.lemmas.Bool.{lt-ltb}
use Rattle.circus_model.specs.Behaviour.{Behaviour}
use Rattle.circus_node.specs.Alike.{declared_of, turn_of}
use Rattle.circus_world.specs.WorldState.{WorldState}
use Rattle.circus_world.specs.Course.{Stepped}
use Rattle.circus_world.specs.Lines.{Lead}
use Rattle.circus_settle.specs.Settled.{Delivered, Settling, first_deliveries, settle_world}
use Rattle.circus_settle.specs.Summary.{settled_text}
use Rattle.circus_settle.proofs.Leading.{led, led_settles}
use Rattle.circus_config.specs.declared.plan.Plan.{Plan}
use Rattle.circus_commands.specs.declared.status.Status.{Status}
use Rattle.circus_commands.specs.declared.status.Status.TheVariants.{Done, Spent, Unsettled}
use Rattle.circus_commands.specs.Ending.{Ending}
use Rattle.circus_simulation.specs.Booted.{boot_world, names_in, after_step}
use Rattle.circus_simulation.specs.Settle.{budget, settled_end, after_settling, settle_in, settle_of}
use Rattle.circus_program.specs.Last.{HasSpentSettle, HasLeft}

-- what it comes to behind boot, behind its last delivery, and where some are left
abbrev from_boot : Plan → ℕ → Stepped Behaviour → Status
from_boot plan deliveries s = (after_step (names_in plan) (settle_in (names_in plan) deliveries) s).status

abbrev from_last : Plan → ℕ → Settling Behaviour → Status
from_last plan deliveries s = (after_settling (names_in plan) deliveries s).status

abbrev end_if : Plan → ℕ → Delivered Behaviour → Bool → Ending
end_if plan deliveries done left =
    if left then budget deliveries (length done.world.sent) else record { status = Done; text = settled_text (names_in plan) done.given done.world }

-- all is delivered, datagrams are left, or a node has no number left
abbrev pub IsStatusOfSettle : Plan → ℕ → Status → Type 0
IsStatusOfSettle plan deliveries status =
    (status ≡ Done) ⊎ (((status ≡ Unsettled) × HasLeft plan deliveries) ⊎ ((status ≡ Spent) × HasSpentSettle plan deliveries))

made_status : (plan : Plan) (deliveries : ℕ) (w : WorldState Behaviour) (done : Delivered Behaviour) → boot_world plan ≡ Ok w → settle_world declared_of turn_of deliveries 0 w ≡ Ok done
    → IsStatusOfSettle plan deliveries (settled_end (names_in plan) deliveries done).status
made_status plan deliveries w done is whole = by_left (nat_lt done.given (length done.world.sent)) refl
  where
    by_left : (left : Bool) → nat_lt done.given (length done.world.sent) ≡ left → IsStatusOfSettle plan deliveries (end_if plan deliveries done left).status
    by_left false none = inl refl
    by_left true some =
        let to = led declared_of turn_of deliveries w done whole in
        let below : done.given < length done.world.sent = ltb-true done.given (length done.world.sent) some in
        let given : done.given ≡ deliveries = to.all below in
        inr (inl (refl, (w, done.world, is, subst (λ k. Lead declared_of turn_of (first_deliveries k) w done.world) given to.lead, omega (arith, below, given))))

behind_boot : (plan : Plan) (deliveries : ℕ) (w : WorldState Behaviour) → boot_world plan ≡ Ok w → IsStatusOfSettle plan deliveries (from_boot plan deliveries (Ok w))
behind_boot plan deliveries w is =
    elim (settle_world declared_of turn_of deliveries 0 w) as (λ s. settle_world declared_of turn_of deliveries 0 w ≡ s → IsStatusOfSettle plan deliveries (from_last plan deliveries s)) [
      | Ok done ↦ λ whole. made_status plan deliveries w done is whole
      | Err nodes ↦ λ spent. inr (inr (refl, inr (w, is, (nodes, spent))))
    ] refl

pub settle_status : (plan : Plan) (deliveries : ℕ) → IsStatusOfSettle plan deliveries (settle_of plan deliveries).status
settle_status plan deliveries =
    elim (boot_world plan) as (λ s. boot_world plan ≡ s → IsStatusOfSettle plan deliveries (from_boot plan deliveries s)) [
      | Ok w ↦ λ is. behind_boot plan deliveries w is
      | Err nodes ↦ λ is. inr (inr (refl, inl (nodes, is)))
    ] refl

pub settle_spent : (plan : Plan) (deliveries : ℕ) → HasSpentSettle plan deliveries → (settle_of plan deliveries).status ≡ Spent
settle_spent plan deliveries (inl (nodes, is)) = ap (from_boot plan deliveries) is
settle_spent plan deliveries (inr (w, is, (nodes, spent))) = ap (from_boot plan deliveries) is ∙ ap (from_last plan deliveries) spent

pub settle_left : (plan : Plan) (deliveries : ℕ) → HasLeft plan deliveries → (settle_of plan deliveries).status ≡ Unsettled
settle_left plan deliveries (w, last, is, lead, left) =
    let done : Delivered Behaviour = record { world = last; given = deliveries } in
    ap (from_boot plan deliveries) is
    ∙ ap (from_last plan deliveries) (led_settles declared_of turn_of deliveries w last lead)
    ∙ ap (λ (b : Bool). (end_if plan deliveries done b).status) (lt-ltb deliveries (length last.sent) left)
