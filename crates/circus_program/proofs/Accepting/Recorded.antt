-- What a served node writes is a record of it, which is audited.
use Rattle.std.specs.Option.{option_map_or}
use Rattle.std.specs.Prelude.{slice_get, IsSome, option_map, option_and_then}
use Rattle.std.proofs.Common.{◌≡◌, ℕ, Bool, true, false, List, Option, None, Some, Ok, Err, refl, sym, ap, subst, ◌∙◌}
use Rattle.circus_value.specs.Among.{is_among}
use Rattle.circus_collate.specs.Deployment.{IsDeployment}
use Rattle.circus_collate.specs.declared.deployment.Deployment.{Deployment}
use Rattle.circus_collate.specs.declared.deployment.Host.{Host}
use Rattle.circus_collate.specs.declared.deployment.Troupe.{Troupe}
use Rattle.circus_model.specs.Behaviour.{Behaviour}
use Rattle.circus_model.specs.declared.signature.Signature.{Signature}
use Rattle.circus_outside.specs.declared.link.TakenFrom.{TakenFrom}
use Rattle.circus_performing.proofs.Records.{none_is_some}
use Rattle.circus_node.specs.Accepting.{troupe_at}
use Rattle.circus_node.specs.Alike.{declared_of, turn_of, first_of, node_as, ended_as}
use Rattle.circus_node.specs.Booting.{CanBoot}
use Rattle.circus_node.specs.Booting as booting
use Rattle.circus_node.specs.NodeState.{NodeState}
use Rattle.circus_node.specs.Step.{Ended}
use Rattle.circus_node.specs.declared.event.Outputs.{Outputs}
use Rattle.circus_node.proofs.NodesAlike.{node_booted_as}
use Rattle.circus_model.proofs.Lookups.{within}
use Rattle.circus_serve.specs.Serving.{Served, Progress, on, spent, serve_takes}
use Rattle.circus_serve.proofs.SpareLemmas.{begins_as_spare, begins_as_founder, begins_as_ringmaster}
use Rattle.circus_node_command.specs.Alike.{served_as, progress_as}
use Rattle.circus_node_command.proofs.ServingAlike.{serving_as}
use Rattle.circus_world.specs.Legal.{is_spare}
use Rattle.circus_world_theory.proofs.Lawful as lawful
use Rattle.circus_world_theory.proofs.Lawful.{Lawful}
use Rattle.circus_program.proofs.Accepting.Serving.{BeginsSo}
use Rattle.circus_program.proofs.Accepting.Spares.{spare_no_founder, founder_no_spare}

-- ---- lawful modules

abbrev seen : NodeState Lawful → NodeState Behaviour
seen n = node_as lawful.declared lawful.turn lawful.first n

module _ (d : Deployment) (hosted : Option Lawful) (node : ℕ) where
  pub record BootsSo (begun : NodeState Behaviour) (outputs : Outputs) : Type 0 where
    pub own : NodeState Lawful
    pub boots : booting.boot_node lawful.declared lawful.turn lawful.first d hosted node ≡ Ok (own, outputs)
    pub same : seen own ≡ begun

  pub boots_so : (begun : NodeState Behaviour) (outputs : Outputs) → booting.boot_node declared_of turn_of first_of d (option_map lawful.one hosted) node ≡ Ok (begun, outputs) → BootsSo begun outputs
  boots_so begun outputs is =
      by_end (booting.boot_node lawful.declared lawful.turn lawful.first d hosted node) refl (node_booted_as lawful.declared lawful.turn lawful.first d hosted node ∙ is)
    where
      by_end : (e : Ended Lawful) → booting.boot_node lawful.declared lawful.turn lawful.first d hosted node ≡ e → ended_as lawful.declared lawful.turn lawful.first e ≡ Ok (begun, outputs) → BootsSo begun outputs
      by_end (Ok x) at also =
          let both : ◌≡◌ {A = NodeState Behaviour × Outputs} (seen x.0, x.1) (begun, outputs) = cc in
          record {
            own = x.0;
            boots = at ∙ ap (λ (o : Outputs). Ok (x.0, o)) (ap (λ (p : NodeState Behaviour × Outputs). p.1) both);
            same = ap (λ (p : NodeState Behaviour × Outputs). p.0) both;
          }
      by_end (Err peer) at also = absurd cc

  pub record ServesSo (begun : NodeState Lawful) (outputs : Outputs) (takes : List TakenFrom) (last : Served Behaviour) : Type 0 where
    pub own : Served Lawful
    pub is : serve_takes lawful.declared lawful.turn d node begun outputs.gives takes ≡ on own
    pub same : served_as lawful.declared lawful.turn lawful.first own ≡ last

  pub serves_so : (begun : NodeState Lawful) (outputs : Outputs) (takes : List TakenFrom) (last : Served Behaviour) → serve_takes declared_of turn_of d node (seen begun) outputs.gives takes ≡ on last
      → ServesSo begun outputs takes last
  serves_so begun outputs takes last is =
      by_progress (serve_takes lawful.declared lawful.turn d node begun outputs.gives takes) refl (serving_as lawful.declared lawful.turn lawful.first d node begun outputs.gives takes ∙ is)
    where
      by_progress : (p : Progress Lawful) → serve_takes lawful.declared lawful.turn d node begun outputs.gives takes ≡ p → progress_as lawful.declared lawful.turn lawful.first p ≡ on last
          → ServesSo begun outputs takes last
      by_progress (on s) at also = record { own = s; is = at; same = (let same : served_as lawful.declared lawful.turn lawful.first s ≡ last = cc in same) }
      by_progress (spent peer happened) at also = absurd cc

-- ---- how a node begins to be served

module _ (d : Deployment) (good : IsDeployment d) (hosted : Option Lawful) (node : ℕ) (begun : NodeState Lawful) (outputs : Outputs)
    (can : CanBoot d node (option_map lawful.declared hosted)) (boots : booting.boot_node lawful.declared lawful.turn lawful.first d hosted node ≡ Ok (begun, outputs)) where
  abbrev Begins : Bool → Type 0
  Begins spare = BeginsSo lawful.declared lawful.turn lawful.first d hosted node can begun outputs boots spare

  pub begins_so : Begins (is_spare d node)
  begins_so = by_troupe (troupe_at d node) refl
    where
      -- it hosts a module of its troupe
      no_host : (number : ℕ) → troupe_at d node ≡ Some number → hosted ≡ None → ⊥
      no_host number hosts is =
          let some : IsSome (option_map lawful.declared hosted) = can.hosted.1 (subst IsSome (sym hosts) refl) in
          let clash : IsSome {T = Signature} None = subst (λ (o : Option Lawful). IsSome (option_map lawful.declared o)) is some in cc

      no_troupe : (number : ℕ) → troupe_at d node ≡ Some number → slice_get d.troupes number ≡ None → ⊥
      no_troupe number hosts none = by_host (slice_get d.nodes node) refl hosts
        where
          by_host : (o : Option Host) → slice_get d.nodes node ≡ o → option_and_then (λ (h : Host). h.module) o ≡ Some number → ⊥
          by_host None at own = none_is_some own
          by_host (Some host) at own =
              let some = within d.troupes number ((good.nodes node host at).hosted number own) in none_is_some (sym none ∙ some.1)

      none_spare : troupe_at d node ≡ None → is_spare d node ≡ false
      none_spare none = ap (λ o. option_map_or (λ (t : Troupe). is_among t.spares node) (option_and_then (slice_get d.troupes) o) false) none

      by_founder : (number : ℕ) (troupe : Troupe) (own : Lawful) → booting.boot_node lawful.declared lawful.turn lawful.first d (Some own) node ≡ Ok (begun, outputs) → troupe_at d node ≡ Some number
          → slice_get d.troupes number ≡ Some troupe → (f : Bool) → is_among troupe.founders node ≡ f → Begins (is_spare d node)
      by_founder number troupe own boots_own hosts there true founder =
          subst Begins (sym (founder_no_spare d good node number troupe hosts there founder))
          (begins_as_founder lawful.declared lawful.turn lawful.first d node own number troupe begun outputs boots_own hosts there founder)
      by_founder number troupe own boots_own hosts there false other =
          subst Begins (sym (spare_no_founder d good node number troupe hosts there other))
          (begins_as_spare lawful.declared lawful.turn lawful.first d node own number troupe begun outputs boots_own hosts there other)

      by_own : (number : ℕ) → troupe_at d node ≡ Some number → (o : Option Lawful) → hosted ≡ o → (t : Option Troupe) → slice_get d.troupes number ≡ t → Begins (is_spare d node)
      by_own number hosts (Some own) is (Some troupe) there =
          by_founder number troupe own (ap (λ o. booting.boot_node lawful.declared lawful.turn lawful.first d o node) (sym is) ∙ boots) hosts there (is_among troupe.founders node) refl
      by_own number hosts None is t there = absurd (no_host number hosts is)
      by_own number hosts (Some own) is None there = absurd (no_troupe number hosts there)

      by_troupe : (o : Option ℕ) → troupe_at d node ≡ o → Begins (is_spare d node)
      by_troupe None none =
          subst Begins (sym (none_spare none)) (begins_as_ringmaster lawful.declared lawful.turn lawful.first d node hosted begun outputs boots none)
      by_troupe (Some number) hosts = by_own number hosts hosted refl (slice_get d.troupes number) refl
