-- A node that hosts a behaviour which keeps to the laws of modules is served as one of a lawful module is.
use Rattle.std.proofs.Common.{◌≡◌, ℕ, List, All, Some, Ok, Err, refl, sym, ap, subst, ◌∙◌}
use Rattle.std.specs.Prelude.{slice_get}
use Rattle.circus_collate.specs.declared.deployment.Deployment.{Deployment}
use Rattle.circus_collate.specs.declared.deployment.Troupe.{Troupe}
use Rattle.circus_model.specs.Behaviour.{Behaviour, IsModule}
use Rattle.circus_outside.specs.declared.link.TakenFrom.{TakenFrom}
use Rattle.circus_record.specs.declared.record.MemberRecord.{MemberRecord}
use Rattle.circus_node.specs.Accepting.{troupe_at}
use Rattle.circus_node.specs.Booting.{CanBoot}
use Rattle.circus_node.specs.Booting as booting
use Rattle.circus_node.specs.NodeState.{NodeState, member_record}
use Rattle.circus_node.specs.Step.{Ended}
use Rattle.circus_node.specs.declared.event.Outputs.{Outputs}
use Rattle.circus_node.specs.Alike.{declared_of, turn_of, first_of, node_as, ended_as}
use Rattle.circus_node.proofs.NodesAlike.{node_booted_as}
use Rattle.circus_serve.specs.Serving.{Served, Progress, on, spent, happened_by, serve_takes}
use Rattle.circus_node_command.specs.Alike.{served_as, progress_as}
use Rattle.circus_node_command.proofs.ServingAlike.{serving_as, record_as}
use Rattle.circus_world_theory.proofs.Lawful as lawful
use Rattle.circus_world_theory.proofs.Lawful.{Lawful}
use Rattle.circus_headline_theory.specs.ServedRun.{IsOfOctets, IsServedRun, IsServedSoFar}
use Rattle.circus_headline_theory.proofs.Served.{served_is_a_node_run, served_so_far}

abbrev seen : NodeState Lawful → NodeState Behaviour
seen n = node_as lawful.declared lawful.turn lawful.first n

module _ (d : Deployment) (b : Behaviour) (is_module : IsModule b) (node : ℕ) where
  abbrev own : Lawful
  own = record { behaves = b; is = is_module }

  -- ---- at boot

  record BootsSo (begun_ : NodeState Behaviour) (outputs : Outputs) : Type 0 where
    begun : NodeState Lawful
    boots : booting.boot_node lawful.declared lawful.turn lawful.first d (Some own) node ≡ Ok (begun, outputs)
    same : seen begun ≡ begun_

  boots_so : (begun_ : NodeState Behaviour) (outputs : Outputs) → booting.boot_node declared_of turn_of first_of d (Some b) node ≡ Ok (begun_, outputs) → BootsSo begun_ outputs
  boots_so begun_ outputs is = by_end (booting.boot_node lawful.declared lawful.turn lawful.first d (Some own) node) refl (node_booted_as lawful.declared lawful.turn lawful.first d (Some own) node ∙ is)
    where
      by_end : (e : Ended Lawful) → booting.boot_node lawful.declared lawful.turn lawful.first d (Some own) node ≡ e → ended_as lawful.declared lawful.turn lawful.first e ≡ Ok (begun_, outputs) → BootsSo begun_ outputs
      by_end (Ok x) at also =
          let both : ◌≡◌ {A = NodeState Behaviour × Outputs} (seen x.0, x.1) (begun_, outputs) = cc in
          record {
            begun = x.0;
            boots = at ∙ ap (λ (o : Outputs). Ok (x.0, o)) (ap (λ (p : NodeState Behaviour × Outputs). p.1) both);
            same = ap (λ (p : NodeState Behaviour × Outputs). p.0) both;
          }
      by_end (Err peer) at also = absurd cc

  -- ---- along the takes

  record ServesSo (begun : NodeState Lawful) (outputs : Outputs) (takes : List TakenFrom) (last : Served Behaviour) : Type 0 where
    last_ : Served Lawful
    is : serve_takes lawful.declared lawful.turn d node begun outputs.gives takes ≡ on last_
    same : served_as lawful.declared lawful.turn lawful.first last_ ≡ last

  serves_so : (begun : NodeState Lawful) (outputs : Outputs) (takes : List TakenFrom) (last : Served Behaviour) → serve_takes declared_of turn_of d node (seen begun) outputs.gives takes ≡ on last
      → ServesSo begun outputs takes last
  serves_so begun outputs takes last is =
      by_progress (serve_takes lawful.declared lawful.turn d node begun outputs.gives takes) refl (serving_as lawful.declared lawful.turn lawful.first d node begun outputs.gives takes ∙ is)
    where
      by_progress : (p : Progress Lawful) → serve_takes lawful.declared lawful.turn d node begun outputs.gives takes ≡ p → progress_as lawful.declared lawful.turn lawful.first p ≡ on last
          → ServesSo begun outputs takes last
      by_progress (on s) at also = record { last_ = s; is = at; same = (let same : served_as lawful.declared lawful.turn lawful.first s ≡ last = cc in same) }
      by_progress (spent peer happened) at also = absurd cc

  pub plain_served_is_a_node_run : (number : ℕ) (troupe : Troupe) (begun_ : NodeState Behaviour) (outputs : Outputs) (takes : List TakenFrom) (last : Served Behaviour) (kept : MemberRecord)
      → CanBoot d node (Some b.declared) → booting.boot_node declared_of turn_of first_of d (Some b) node ≡ Ok (begun_, outputs)
      → serve_takes declared_of turn_of d node begun_ outputs.gives takes ≡ on last → All IsOfOctets takes → troupe_at d node ≡ Some number → slice_get d.troupes number ≡ Some troupe
      → member_record last.node.acting ≡ Some kept → IsServedRun d b node number troupe last.happened kept
  plain_served_is_a_node_run number troupe begun_ outputs takes last kept can boots is octets hosts there at =
      let begins = boots_so begun_ outputs boots in
      let serves = serves_so begins.begun outputs takes last (subst (λ (n : NodeState Behaviour). serve_takes declared_of turn_of d node n outputs.gives takes ≡ on last) (sym begins.same) is) in
      let recorded = sym (record_as lawful.declared lawful.turn lawful.first serves.last_.node.acting)
      ∙ ap (λ (s : Served Behaviour). member_record s.node.acting) serves.same ∙ at in
      subst (λ happened. IsServedRun d b node number troupe happened kept) (ap (λ (s : Served Behaviour). s.happened) serves.same)
      (served_is_a_node_run lawful.declared lawful.turn lawful.first d own node lawful.all_lawful number troupe can hosts there begins.begun outputs takes begins.boots octets serves.last_ kept
      serves.is recorded)

  -- what happened is the same
  happened_as : (p : Progress Lawful) → happened_by (progress_as lawful.declared lawful.turn lawful.first p) ≡ happened_by p
  happened_as (on s) = refl
  happened_as (spent peer happened) = refl

  pub plain_served_so_far : (number : ℕ) (troupe : Troupe) (begun_ : NodeState Behaviour) (outputs : Outputs) (takes : List TakenFrom) → CanBoot d node (Some b.declared)
      → booting.boot_node declared_of turn_of first_of d (Some b) node ≡ Ok (begun_, outputs) → All IsOfOctets takes → troupe_at d node ≡ Some number
      → slice_get d.troupes number ≡ Some troupe → IsServedSoFar d b node number troupe (happened_by (serve_takes declared_of turn_of d node begun_ outputs.gives takes))
  plain_served_so_far number troupe begun_ outputs takes can boots octets hosts there =
      let begins = boots_so begun_ outputs boots in
      subst (IsServedSoFar d b node number troupe)
      (sym (happened_as (serve_takes lawful.declared lawful.turn d node begins.begun outputs.gives takes))
      ∙ ap happened_by (serving_as lawful.declared lawful.turn lawful.first d node begins.begun outputs.gives takes)
      ∙ ap (λ (n : NodeState Behaviour). happened_by (serve_takes declared_of turn_of d node n outputs.gives takes)) begins.same)
      (served_so_far lawful.declared lawful.turn lawful.first d own node lawful.all_lawful number troupe can hosts there begins.begun outputs takes begins.boots octets)
