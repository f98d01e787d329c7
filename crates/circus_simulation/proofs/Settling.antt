-- What a plan comes to whose datagrams are delivered in the order of sending.
use Rattle.std.proofs.Common.{◌≡◌, ℕ, List, [], length, Ok, Err, sym, ap, subst, ◌∙◌}
use Rattle.std.specs.Prelude.{nat_lt, if◌then◌else◌}
use Rattle.circus_value.specs.ValueTree.{ValueTree}
use Rattle.circus_value.specs.declared.outcome.Outcome.{Outcome}
use Rattle.circus_collate.specs.declared.deployment.Deployment.{Deployment}
use Rattle.circus_collate.specs.declared.deployment.Host.{Host}
use Rattle.circus_model.specs.NextTurn.{NextTurn}
use Rattle.circus_model.specs.declared.signature.Signature.{Signature}
use Rattle.circus_record.specs.Naming.{Names, names_of}
use Rattle.circus_world.specs.WorldState.{WorldState}
use Rattle.circus_world.specs.Alike.{world_as}
use Rattle.circus_world.proofs.LineLemmas.{deployment_stays}
use Rattle.circus_settle.specs.Settled.{Delivered, first_deliveries, settle_world}
use Rattle.circus_settle.specs.Alike.{settling_as}
use Rattle.circus_settle.proofs.Alike.{settled_as, text_as}
use Rattle.circus_settle.proofs.Leading.{led}
use Rattle.circus_config.specs.declared.plan.Plan.{Plan}
use Rattle.circus_commands.specs.declared.status.Status.TheVariants.{Done}
use Rattle.circus_commands.specs.Ending.{Ending}
use Rattle.circus_commands.specs.Spent.{end_of_spent}
use Rattle.circus_simulation.specs.Booted.{boot_world, names_in, after_step}
use Rattle.circus_simulation.specs.Settle.{budget, settled_end, after_settling, settle_in, settle_of}
use Rattle.circus_simulation.specs.declared.simulated.Simulated.{Simulated}
use Rattle.circus_simulation.specs.Seen.Simulated.{world_of, IsOfPlan}

module _ {M : Type 0} (declared : M → Signature) (turn : M → List ValueTree → ℕ → List ValueTree → List Outcome → NextTurn) where
  pub settled_deployment : (most : ℕ) (w : WorldState M) (done : Delivered M) → settle_world declared turn most 0 w ≡ Ok done → done.world.deployment ≡ w.deployment
  settled_deployment most w done is = deployment_stays declared turn (first_deliveries done.given) w done.world (led declared turn most w done is).lead

module _ {M : Type 0} (declared : M → Signature) (turn : M → List ValueTree → ℕ → List ValueTree → List Outcome → NextTurn) (first : M → List ValueTree) where
  -- what is written of a world is written of it with the behaviours of its modules
  end_as : (names : Names) (most : ℕ) (done : Delivered M)
      → settled_end names most (record { world = world_as declared turn first done.world; given = done.given }) ≡ settled_end names most done
  end_as names most done =
      let end : List ℕ → Ending = λ text. if nat_lt done.given (length done.world.sent) then budget most (length done.world.sent) else record { status = Done; text = text } in
      ap end (text_as declared turn first names done.given done.world)

  -- what comes of deliveries that are made
  pub settles_to_end : (hosts : List Host) (modules : List (List ℕ)) (most : ℕ) (w : WorldState M) (done : Delivered M) → settle_world declared turn most 0 w ≡ Ok done → w.deployment.nodes ≡ hosts
      → settled_end (names_of done.world.deployment.nodes modules) most done ≡ settle_in (names_of hosts modules) most (world_as declared turn first w)
  settles_to_end hosts modules most w done is deployed =
      let names = names_of hosts modules in
      let nodes : done.world.deployment.nodes ≡ hosts = ap (λ (d : Deployment). d.nodes) (settled_deployment declared turn most w done is) ∙ deployed in
      ap (λ (hs : List Host). settled_end (names_of hs modules) most done) nodes
      ∙ sym (end_as names most done)
      ∙ ap (after_settling names most) (sym (ap (settling_as declared turn first) is) ∙ settled_as declared turn first most 0 w)

  -- and where a node has no number left
  pub settles_to_spent : (hosts : List Host) (modules : List (List ℕ)) (most : ℕ) (w : WorldState M) (nodes : ℕ × ℕ)
      → settle_world declared turn most 0 w ≡ Err nodes → end_of_spent (names_of hosts []) nodes ≡ settle_in (names_of hosts modules) most (world_as declared turn first w)
  settles_to_spent hosts modules most w nodes is =
      let names = names_of hosts modules in
      ap (after_settling names most) (sym (ap (settling_as declared turn first) is) ∙ settled_as declared turn first most 0 w)

-- ---- of a plan

pub settles_booted : (plan : Plan) (s : Simulated) (most : ℕ) → IsOfPlan plan s → boot_world plan ≡ Ok (world_of s.world)
    → settle_in (names_of s.hosts s.names) most (world_of s.world) ≡ settle_of plan most
settles_booted plan s most of is =
    (λ i. settle_in (names_of (of.hosts i) (of.names i)) most (world_of s.world)) ∙ ap (after_step (names_in plan) (settle_in (names_in plan) most)) (sym is)
