-- What the nodes of a world send is true.
use Rattle.std.proofs.Common.{◌≡◌, ℕ, ◌+◌, ◌<◌, List, [], ◌∷◌, ◌++◌, length, All, Option, Some, Ok, refl, sym, subst, ◌∙◌, arith}
use Rattle.std.specs.Prelude.{slice_get, option_and_then}
use Rattle.std.proofs.lemmas.List.Elements.{All-weaker}
use Rattle.std.proofs.lemmas.Option.{same_Some, slice_get_within}
use Rattle.circus_value.specs.ValueTree.{ValueTree}
use Rattle.circus_value.specs.declared.outcome.Outcome.{Outcome}
use Rattle.circus_collate.specs.Deployment.{IsDeployment}
use Rattle.circus_collate.specs.declared.deployment.Deployment.{Deployment}
use Rattle.circus_collate.specs.declared.deployment.Troupe.{Troupe}
use Rattle.circus_ring.specs.RingTable.{boot_views}
use Rattle.circus_model.specs.NextTurn.{NextTurn}
use Rattle.circus_model.specs.Behaviour.{Behaviour, IsModule, behaviours}
use Rattle.circus_model.specs.declared.signature.Signature.{Signature}
use Rattle.circus_model.proofs.Threads.{are_modules}
use Rattle.circus_performing.specs.Record.{behaviour}
use Rattle.circus_wire.specs.WireActs.{WireActs, begun}
use Rattle.circus_member_rules.specs.declared.occurrence.Purpose.{Purpose}
use Rattle.circus_node.specs.Accepting.{troupe_at}
use Rattle.circus_node.specs.Booting.{beginning_in, home_in}
use Rattle.circus_node.specs.Booting as booting
use Rattle.circus_node.specs.declared.event.Event.{Event}
use Rattle.circus_node.specs.declared.event.Outputs.{Outputs}
use Rattle.circus_schedule.specs.declared.line.Line.{Line}
use Rattle.circus_world.specs.WorldState.{WorldState, Standing}
use Rattle.circus_world_theory.specs.Histories.{beginning_of, acts_of}
use Rattle.circus_world_theory.specs.NodeActs.{with_all, acts_in, acts_at_boot}
use Rattle.circus_world_theory.proofs.Boots.{world_stands}
use Rattle.circus_world_theory.proofs.Worlds.{Stands}
use Rattle.circus_member_theory.specs.Past.{booted, now}
use Rattle.circus_member_theory.specs.Living.{phase_at_boot}
use Rattle.circus_world_theory.specs.Worlds.{IsWorldOf}
use Rattle.circus_world_theory.proofs.Proper.{are_proper}
use Rattle.circus_world_theory.proofs.Booted.{HasBooted, all_have_booted}
use Rattle.circus_world_theory.proofs.Theorem.{one_each, nodes_true, records_stand}
use Rattle.circus_world_theory.specs.Happened.{past_of, happens_by, with_one}
use Rattle.circus_world_theory.proofs.Timely.Nodes.{at_home}
use Rattle.circus_world_theory.proofs.Timely.Worlds.{of_troupe}
use Rattle.circus_headline_theory.specs.Datagrams.Lives.{is_tick}
use Rattle.circus_headline_theory.specs.Datagrams.TrueDatagram.{IsJustified}
use Rattle.circus_headline_theory.specs.Datagrams.Worlds.{IsStepIn, StepIsTrue}
use Rattle.circus_headline_theory.proofs.Datagrams.AtPairs.{IsSent}
use Rattle.circus_headline_theory.proofs.Datagrams.Course.{Goes, gives, goes_on}
use Rattle.circus_headline_theory.proofs.Datagrams.Justifying.{justified}
use Rattle.circus_headline_theory.proofs.Datagrams.Theorem.{has_booted}
use Rattle.circus_headline_theory.proofs.Datagrams.WorldCourse.{GoesIn, lead_goes, comes_so}

module _ {M : Type 0} (declared : M → Signature) (turn : M → List ValueTree → ℕ → List ValueTree → List Outcome → NextTurn) (first : M → List ValueTree)
    (lawful : (hosted : M) → IsModule (behaviour declared turn first hosted)) (d : Deployment) (modules : List M) (hosted : List (Option M)) where
  abbrev program : List Behaviour
  program = behaviours declared turn first modules

  module _ (lines : List Line) (begun_ w : WorldState M) (world : IsWorldOf declared turn first d modules hosted lines begun_ w) where
    boot_world : IsWorldOf declared turn first d modules hosted [] begun_ begun_
    boot_world = record {
      deployment = world.deployment;
      troupes = world.troupes;
      agree = world.agree;
      hosts = world.hosts;
      boots = world.boots;
      leads = refl;
    }

    abbrev at_boot : ℕ → WireActs Purpose
    at_boot = acts_of declared turn first d hosted [] begun_

    boot_stands : Stands d at_boot begun_
    boot_stands = world_stands declared turn first d hosted modules [] begun_ begun_ world.deployment world.troupes world.hosts world.boots refl

    module _ (node number : ℕ) (troupe : Troupe) (own : M) (hosts_it : slice_get hosted node ≡ Some (Some own)) (is_at : troupe_at d node ≡ Some number)
        (there : slice_get d.troupes number ≡ Some troupe) where
      begins : GoesIn declared turn first lawful d world.deployment node number troupe own booted (at_boot node) begun_
      begins = record { goes = λ s found. by_boot s found ((all_have_booted declared turn first d hosted modules begun_ world.boots).nodes node s found); before = omega arith }
        where
          by_boot : (s : Standing M) → slice_get begun_.nodes node ≡ Some s → HasBooted declared turn first d hosted node s.node
              → Goes declared turn first lawful d world.deployment node number troupe own booted (at_boot node) s.node
          by_boot s found b =
              let same : b.own ≡ Some own = same_Some _ _ (sym b.own_is ∙ hosts_it) in
              let home = at_home declared turn first lawful d node number troupe own is_at there world.deployment
              (of_troupe declared turn first d modules node number own world.troupes (world.hosts.each node (Some own) hosts_it) is_at) in
              let within : node < length d.nodes = subst (λ k. node < k) boot_stands.all (slice_get_within begun_.nodes node s found) in
              let h = has_booted declared turn first lawful d world.deployment node number troupe own s.node b.outputs within is_at there home
              (subst (λ (o : Option M). booting.boot_node declared turn first d o node ≡ Ok (s.node, b.outputs)) same b.booted_is) in
              subst (λ (o : Option (Option M)). Goes declared turn first lawful d world.deployment node number troupe own booted (with_all begun (acts_at_boot declared turn first d (option_and_then (λ (x : Option M). x) o) node)) s.node)
              (sym hosts_it) h.goes

      pub goes_then : GoesIn declared turn first lawful d world.deployment node number troupe own (past_of declared turn lines begun_ node) (acts_of declared turn first d hosted lines begun_ node) w
      goes_then =
          lead_goes declared turn first lawful program world.agree (are_modules declared turn first modules lawful) (are_proper declared turn first d modules world.troupes) d world.deployment (one_each declared turn first lawful d modules hosted lines begun_ w world) node number troupe own
          at_boot booted lines begun_ w boot_stands (nodes_true declared turn first lawful d modules hosted [] begun_ begun_ boot_world) begins world.leads

  pub steps_are_true : (lines : List Line) (line : Line) (begun_ w last : WorldState M) (node : ℕ) (event : Event) (before after : Standing M) (outputs : Outputs)
      → IsStepIn declared turn first d modules hosted lines line begun_ w last node event before after outputs
      → StepIsTrue declared turn first d modules hosted lines begun_ w node event before after outputs
  steps_are_true lines line begun_ w last node event before after outputs is number own kept hosts_it is_at kept_is =
      record {
        justified = λ other troupe is_there there. by_troupe other troupe is_there there;
        stands = λ b at active. records_stand declared turn first lawful d modules hosted (lines ++ line ∷ []) begun_ last is.world node number after kept b is.is kept_is is_at at active;
      }
    where
      then_ : IsWorldOf declared turn first d modules hosted lines begun_ w
      then_ = record {
        deployment = is.world.deployment;
        troupes = is.world.troupes;
        agree = is.world.agree;
        hosts = is.world.hosts;
        boots = is.world.boots;
        leads = is.leads;
      }

      good : IsDeployment d
      good = is.world.deployment

      by_troupe : (other : ℕ) (troupe : Troupe) → troupe_at d node ≡ Some other → slice_get d.troupes other ≡ Some troupe
          → All (IsJustified (home_in d node other troupe).place (boot_views d.troupes) (phase_at_boot (beginning_in troupe node)) (first own) kept
          (with_one (past_of declared turn lines begun_ node) (w.steps + 1) (happens_by declared event before.node)) (beginning_of d node)
          (with_all (acts_of declared turn first d hosted lines begun_ node) (acts_in declared turn (w.steps + 1) event before.node)) (is_tick event)) outputs.gives
      by_troupe other troupe is_there there =
          let home = at_home declared turn first lawful d node other troupe own is_there there good
          (of_troupe declared turn first d modules node other own is.world.troupes (is.world.hosts.each node (Some own) hosts_it) is_there) in
          let p = past_of declared turn lines begun_ node in
          let acts = acts_of declared turn first d hosted lines begun_ node in
          let in_world = goes_then lines begun_ w then_ node other troupe own hosts_it is_there there in
          let low = in_world.before in
          let later : now p < w.steps + 1 = omega (arith, low) in
          let goes = in_world.goes before is.was in
          let well = comes_so declared turn first lawful program is.world.agree (are_modules declared turn first modules lawful) (are_proper declared turn first d modules is.world.troupes) d good (one_each declared turn first lawful d modules hosted lines begun_ w then_) node other troupe own
          (acts_of declared turn first d hosted lines begun_) p w last (world_stands declared turn first d hosted modules lines begun_ w good is.world.troupes is.world.hosts is.world.boots is.leads)
          (nodes_true declared turn first lawful d modules hosted lines begun_ w then_) line is.on node event before is.comes is.was in
          let on_ = goes_on declared turn first lawful d good node other troupe own p acts before.node (w.steps + 1) event (after.node, outputs) later goes well.far well.read well.may is.ends in
          let g = gives declared turn first lawful d good node other troupe own p acts before.node (w.steps + 1) event (after.node, outputs) later goes well.far well.read well.may is.ends in
          All-weaker (IsSent (beginning_of d node) good.format (is_tick event) (with_all acts (acts_in declared turn (w.steps + 1) event before.node))) _
          (justified declared turn first lawful d good node other troupe own home (with_one p (w.steps + 1) (happens_by declared event before.node)) (with_all acts (acts_in declared turn (w.steps + 1) event before.node))
          after.node kept (is_tick event) on_ kept_is) outputs.gives g.given
