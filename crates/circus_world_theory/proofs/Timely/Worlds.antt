-- Nothing that a member does comes late or early, in every world that lines lead to.
use Rattle.std.proofs.Common.{◌≡◌, ℕ, List, [], length, map, Option, None, Some, Ok, refl, sym, ap, subst, ◌∙◌, arith}
use Rattle.std.specs.Prelude.{slice_get, option_map, option_and_then}
use Rattle.std.proofs.lemmas.List.{length-map}
use Rattle.std.proofs.lemmas.Option.{none-some, same_Some, slice_get-map}
use Rattle.circus_value.specs.ValueTree.{ValueTree}
use Rattle.circus_value.specs.declared.outcome.Outcome.{Outcome}
use Rattle.circus_collate.specs.declared.deployment.Deployment.{Deployment}
use Rattle.circus_collate.specs.declared.deployment.Troupe.{Troupe}
use Rattle.circus_model.specs.NextTurn.{NextTurn}
use Rattle.circus_model.specs.Behaviour.{Behaviour, IsModule, behaviours}
use Rattle.circus_model.specs.declared.signature.Signature.{Signature}
use Rattle.circus_model.proofs.Threads.{are_modules}
use Rattle.circus_record.specs.declared.record.MemberRecord.{MemberRecord}
use Rattle.circus_performing.specs.Record.{behaviour}
use Rattle.circus_node.specs.Accepting.{troupe_at}
use Rattle.circus_node.specs.Booting.{IsOfTroupe, IsHosted, AreOfTroupes}
use Rattle.circus_node.specs.Booting as booting
use Rattle.circus_node.specs.NodeState.{member_record}
use Rattle.circus_schedule.specs.declared.line.Line.{Line}
use Rattle.circus_world.specs.WorldState.{WorldState, Standing}
use Rattle.circus_world_theory.specs.Histories.{acts_of}
use Rattle.circus_world_theory.proofs.Boots.{world_stands}
use Rattle.circus_member_theory.specs.Past.{booted}
use Rattle.circus_world_theory.specs.Worlds.{IsWorldOf}
use Rattle.circus_world_theory.proofs.Proper.{are_proper}
use Rattle.circus_world_theory.proofs.Booted.{HasBooted, all_have_booted}
use Rattle.circus_world_theory.proofs.Beginning.{boot_true}
use Rattle.circus_world_theory.specs.Happened.{past_of}
use Rattle.circus_world_theory.specs.InTime.{IsInTime, RecordsAreTimely}
use Rattle.circus_world_theory.proofs.Timely.Callers.{none_numbered}
use Rattle.circus_world_theory.proofs.Timely.Lines.{LivesIn, lead_lives}
use Rattle.circus_world_theory.proofs.Timely.Lives.{NodeLives, lives_in_time}
use Rattle.circus_world_theory.proofs.Timely.Nodes.{at_home, has_begun}

module _ {M : Type 0} (declared : M → Signature) (turn : M → List ValueTree → ℕ → List ValueTree → List Outcome → NextTurn) (first : M → List ValueTree) where
  -- what a node hosts is of its troupe
  pub of_troupe : (d : Deployment) (modules : List M) (node number : ℕ) (own : M) → AreOfTroupes d (map declared modules) → IsHosted declared turn first d modules node (Some own)
      → troupe_at d node ≡ Some number → IsOfTroupe d number (declared own)
  of_troupe d modules node number own fit hosts at = by_module (slice_get modules number) refl
      (hosts ∙ ap (λ o. option_map (behaviour declared turn first) (option_and_then (slice_get modules) o)) at)
    where
      by_module : (o : Option M) → slice_get modules number ≡ o → option_map (behaviour declared turn first) (Some own) ≡ option_map (behaviour declared turn first) o
          → IsOfTroupe d number (declared own)
      by_module None found is = absurd (none-some (behaviour declared turn first own) (sym is))
      by_module (Some m) found is =
          fit.each number (declared own)
          (slice_get-map declared modules number ∙ ap (option_map declared) found ∙ ap (λ (b : Behaviour). Some b.declared) (sym (same_Some _ _ is)))

  module _ (lawful : (hosted : M) → IsModule (behaviour declared turn first hosted)) (d : Deployment) (modules : List M) (hosted : List (Option M)) (lines : List Line)
      (begun last : WorldState M)
      (world : IsWorldOf declared turn first d modules hosted lines begun last) where
    abbrev program : List Behaviour
    program = behaviours declared turn first modules

    pub one_each : length program ≡ length d.troupes
    one_each = length-map modules (behaviour declared turn first) ∙ sym (length-map modules declared) ∙ world.troupes.one_each

    module _ (node number : ℕ) (troupe : Troupe) (own : M) (hosts_it : slice_get hosted node ≡ Some (Some own)) (is_at : troupe_at d node ≡ Some number)
        (there : slice_get d.troupes number ≡ Some troupe) where
      abbrev Lives : WorldState M → Type 0
      Lives w = LivesIn declared turn first lawful d node number troupe own (past_of declared turn lines begun node) w

      pub begins : LivesIn declared turn first lawful d node number troupe own booted begun
      begins =
          record {
            lives = λ s found. by_boot s ((all_have_booted declared turn first d hosted modules begun world.boots).nodes node s found);
            numbers = λ s found. none_numbered s.node.wire;
            before = omega arith;
          }
        where
          by_boot : (s : Standing M) → HasBooted declared turn first d hosted node s.node → NodeLives declared turn first lawful d node number troupe own booted s.node.acting
          by_boot s b =
              let same : b.own ≡ Some own = same_Some _ _ (sym b.own_is ∙ hosts_it) in
              let home = at_home declared turn first lawful d node number troupe own is_at there world.deployment
              (of_troupe d modules node number own world.troupes (world.hosts.each node (Some own) hosts_it) is_at) in
              (has_begun declared turn first lawful d node number troupe own (s.node, b.outputs) is_at there home
              (subst (λ (o : Option M). booting.boot_node declared turn first d o node ≡ Ok (s.node, b.outputs)) same b.booted_is)).lives

      pub lives_so : Lives last
      lives_so =
          let modules_are = are_modules declared turn first modules lawful in
          lead_lives declared turn first lawful program world.agree modules_are (are_proper declared turn first d modules world.troupes) d world.deployment one_each node number troupe own
          (acts_of declared turn first d hosted [] begun) booted lines begun last
          (world_stands declared turn first d hosted modules [] begun begun world.deployment world.troupes world.hosts world.boots refl)
          (boot_true declared turn first lawful modules world.agree modules_are (are_proper declared turn first d modules world.troupes) d world.deployment world.troupes hosted world.hosts begun world.boots)
          begins world.leads

      in_time : (s : Standing M) (kept : MemberRecord) → slice_get last.nodes node ≡ Some s → member_record s.node.acting ≡ Some kept
          → IsInTime declared turn d node number troupe own kept (past_of declared turn lines begun node)
      in_time s kept at is =
          let home = at_home declared turn first lawful d node number troupe own is_at there world.deployment
          (of_troupe d modules node number own world.troupes (world.hosts.each node (Some own) hosts_it) is_at) in
          lives_in_time declared turn first lawful d node number troupe own home (past_of declared turn lines begun node) s.node.acting kept (lives_so.lives s at) is

    pub records_are_timely : RecordsAreTimely declared turn d hosted lines begun last
    records_are_timely = λ node number troupe s own kept at hosts_it is_at there is. in_time node number troupe own hosts_it is_at there s kept at is
