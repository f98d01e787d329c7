-- A node of a plan that is served has a record, which may stand in a text, and is audited: the node stands for the trace of it.
use Rattle.std.specs.Prelude.{slice_get, IsSome, option_map, option_and_then}
use Rattle.std.proofs.Common.{◌≡◌, ℕ, ◌<◌, List, [], map, length, Option, None, Some, refl, sym, ap, subst, ◌∙◌}
use Rattle.std.proofs.lemmas.Option.{slice_get-map}
use Rattle.circus_collate.specs.declared.deployment.Deployment.{Deployment}
use Rattle.circus_collate.specs.declared.deployment.Host.{Host}
use Rattle.circus_collate.specs.declared.deployment.Troupe.{Troupe}
use Rattle.circus_ring.specs.RingTable.{Kept}
use Rattle.circus_model.specs.Agree.{IsAt}
use Rattle.circus_model.specs.declared.signature.Signature.{Signature}
use Rattle.circus_model.proofs.Lookups as lookups
use Rattle.circus_record.specs.declared.record.MemberRecord.{MemberRecord}
use Rattle.circus_config.specs.declared.plan.Plan.{Plan}
use Rattle.circus_config.specs.Program.{IsPlan}
use Rattle.circus_plan_modules.specs.Loaded.{behaviours_in}
use Rattle.circus_plan_theory.proofs.Plan.{plan_modules}
use Rattle.circus_plan_theory.proofs.Troupes.{plan_of_troupes}
use Rattle.circus_node.specs.Accepting.{troupe_at}
use Rattle.circus_node.specs.Alike.{declared_of}
use Rattle.circus_node.specs.Booting.{CanBoot, AreOfTroupes, IsOfTroupe}
use Rattle.circus_member_rules.specs.MemberState.{MemberState}
use Rattle.circus_performing.proofs.Records.{none_is_some}
use Rattle.circus_node.specs.NodeState.{Acting, member, ringmaster, member_record, ring_views}
use Rattle.circus_node.specs.Trace.{Trace, StandsFor}
use Rattle.circus_node.proofs.TroupeLemmas.{hosted_can_boot}
use Rattle.circus_serve.specs.Serving.{Served}
use Rattle.circus_world.specs.Legal.{is_spare}
use Rattle.circus_world_theory.proofs.Lawful as lawful
use Rattle.circus_world_theory.proofs.Lawful.{Lawful, lifted, lifted_is, declared_are}
use Rattle.circus_world_theory.proofs.Timely.Nodes.{at_home}
use Rattle.circus_headline_theory.specs.NodeRun.{IsNodeRun}
use Rattle.circus_headline_theory.specs.Numbers.{HasNumbers}
use Rattle.circus_headline_theory.specs.RingRun.{kept_behind, requests_of, IsRingRun}
use Rattle.circus_headline_theory.proofs.Ring.{ring_has_numbers}
use Rattle.circus_headline_theory.proofs.Stood.{is_run_of_core, core_has_numbers}
use Rattle.circus_audit.specs.Possible.{IsPossible}
use Rattle.circus_audit.specs.declared.given.Given.{Given}
use Rattle.circus_verdict.specs.Audited.{events_in, said_of, JoinsSo, HasRunAt, IsAudited}
use Rattle.circus_verdict.proofs.Auditing.{rises}
use Rattle.circus_verdict.proofs.Awaiting.{awaited_so}
use Rattle.circus_verdict.proofs.Shaping.{joins_hold}
use Rattle.circus_verdict.proofs.Possible.Giving.{heard, gives_well}
use Rattle.circus_verdict.proofs.Possible.Views.{ring_possible}
use Rattle.circus_verdict.proofs.Possible.Whole.{member_possible}
use Rattle.circus_program.proofs.Accepting.RingGiving.{ring_gives_well}
use Rattle.circus_program.proofs.Accepting.RingQuiet.{RingsQuietly, rings_quietly}
use Rattle.circus_program.proofs.Accepting.Serving.{JoinsWell, Reached}

-- what a record says of a node that lived through this
abbrev pub given_in : {M : Type 0} → ℕ → Trace → Acting M → Given
given_in node lived acting = record { node = node; events = events_in lived; member = option_map said_of (member_record acting); views = ring_views acting }

module _ (plan : Plan) (is : IsPlan plan) (node : ℕ) (within : node < length plan.deployment.nodes) where
  abbrev d : Deployment
  d = plan.deployment

  abbrev pub modules : List Lawful
  modules = lifted (behaviours_in plan) (plan_modules plan is)

  pub program_is : map lawful.one modules ≡ behaviours_in plan
  program_is = lifted_is (behaviours_in plan) (plan_modules plan is)

  of_troupes : AreOfTroupes d (map lawful.declared modules)
  of_troupes = subst (AreOfTroupes d) (sym (declared_are modules ∙ ap (map declared_of) program_is)) (plan_of_troupes plan is)

  abbrev pub hosted : Option Lawful
  hosted = option_and_then (slice_get modules) (troupe_at d node)

  pub can : CanBoot d node (option_map lawful.declared hosted)
  can = hosted_can_boot lawful.declared lawful.turn lawful.first d modules node hosted is.deployed of_troupes within refl

  -- ---- at a node of a troupe

  -- it hosts the troupe's module
  record HostsThis (number : ℕ) : Type 0 where
    troupe : Troupe
    own : Lawful
    is_troupe : slice_get d.troupes number ≡ Some troupe
    is_hosted : hosted ≡ Some own
    is_module : IsAt (behaviours_in plan) number (lawful.one own)
    can_own : CanBoot d node (Some (lawful.declared own))
    fits : IsOfTroupe d number (lawful.declared own)

  hosts_this : (number : ℕ) → troupe_at d node ≡ Some number → HostsThis number
  hosts_this number hosts = by_module hosted refl
    where
      by_host : (o : Option Host) → slice_get d.nodes node ≡ o → option_and_then (λ (h : Host). h.module) o ≡ Some number → (troupe : Troupe) × (slice_get d.troupes number ≡ Some troupe)
      by_host None at own = absurd (none_is_some own)
      by_host (Some host) at own = lookups.within d.troupes number ((is.deployed.nodes node host at).hosted number own)

      by_module : (o : Option Lawful) → hosted ≡ o → HostsThis number
      by_module (Some own) at =
          let troupe = by_host (slice_get d.nodes node) refl hosts in
          let can_own : CanBoot d node (Some (lawful.declared own)) = subst (λ (o : Option Lawful). CanBoot d node (option_map lawful.declared o)) at can in
          record {
            troupe = troupe.0;
            own = own;
            is_troupe = troupe.1;
            is_hosted = at;
            is_module =
                ap (λ l. slice_get l number) (sym program_is)
                ∙ slice_get-map lawful.one modules number
                ∙ ap (option_map lawful.one) (ap (λ (o : Option ℕ). option_and_then (slice_get modules) o) (sym hosts) ∙ at);
            can_own = can_own;
            fits = can_own.fits number (lawful.declared own) hosts refl;
          }
      by_module None none =
          let some : IsSome (option_map lawful.declared hosted) = can.hosted.1 (subst IsSome (sym hosts) refl) in
          absurd (let clash : IsSome {T = Signature} None = subst (λ (o : Option Lawful). IsSome (option_map lawful.declared o)) none some in cc)

  -- ---- where it has been served

  module _ (last : Served Lawful) (r : Reached lawful.declared lawful.turn lawful.first d hosted node can (JoinsWell (is_spare d node)) [] last) where
    abbrev given : Given
    given = given_in node r.lived last.node.acting

    pub record IsWhole (g : Given) : Type 0 where
      pub possible : IsPossible plan g
      pub audited : IsAudited d (behaviours_in plan) g

    -- its events are those of a record, so with a run of it the record is audited
    is_audited : (acting : Acting Lawful) (o : Option ℕ) → troupe_at d node ≡ o → HasNumbers d node r.lived
        → HasRunAt d (behaviours_in plan) node o r.lived (option_map said_of (member_record acting)) (ring_views acting) → IsAudited d (behaviours_in plan) (given_in node r.lived acting)
    is_audited acting o at numbers run = record {
      lived = r.lived;
      is = record {
        events = refl;
        numbered = r.numbered;
        joins = subst (JoinsSo (is_spare d node)) (sym r.joins.are) (joins_hold (is_spare d node) r.joins.boot r.joins.later r.joins.none r.joins.joins);
        declares = awaited_so r.lived [] r.awaited;
        numbers = numbers;
        run = subst (λ (x : Option ℕ). HasRunAt d (behaviours_in plan) node x r.lived (option_map said_of (member_record acting)) (ring_views acting)) (sym at) run;
      };
    }

    stands_as : (o : Option Lawful) → hosted ≡ o → StandsFor lawful.declared lawful.turn lawful.first d o node r.lived last.node
    stands_as o at = subst (λ (x : Option Lawful). StandsFor lawful.declared lawful.turn lawful.first d x node r.lived last.node) at r.stands

    module _ (named : length plan.names ≡ length d.troupes) where
      of_member : (number : ℕ) → troupe_at d node ≡ Some number → (m : MemberState Lawful) → last.node.acting ≡ member m → IsWhole (given_in node r.lived (member m))
      of_member number hosts m acting =
          let h = hosts_this number hosts in
          let kept = m.performing.kept in
          let stands = stands_as (Some h.own) h.is_hosted in
          let home = at_home lawful.declared lawful.turn lawful.first lawful.all_lawful d node number h.troupe h.own hosts h.is_troupe is.deployed h.fits in
          let run : IsNodeRun d (lawful.one h.own) node number h.troupe r.lived kept =
          (is_run_of_core lawful.declared lawful.turn lawful.first d h.own node lawful.all_lawful h.can_own number h.troupe hosts h.is_troupe r.lived last.node kept stands (rises r.lived r.numbered)
          r.others (ap member_record acting)).run in
          record {
            possible =
                member_possible plan named (lawful.one h.own) (lawful.all_lawful h.own) node number h.troupe h.fits hosts h.is_module kept r.lived run r.numbered r.others
                (heard lawful.declared lawful.turn lawful.first lawful.all_lawful plan named node number h.troupe h.own h.can_own hosts h.is_troupe home r.lived last.node stands r.numbered r.others).octets
                within
                (gives_well lawful.declared lawful.turn lawful.first lawful.all_lawful plan named node number h.troupe h.own h.can_own hosts h.is_troupe home r.lived last.node stands r.numbered
                r.others).gives;
            audited =
                is_audited (member m) (Some number) hosts
                (core_has_numbers lawful.declared lawful.turn lawful.first d h.own node lawful.all_lawful h.can_own number h.troupe hosts h.is_troupe r.lived last.node stands
                (rises r.lived r.numbered) r.others)
                (record {
                  kept = kept;
                  run = record { troupe = h.troupe; hosted = lawful.one h.own; is_troupe = h.is_troupe; is_hosted = h.is_module; is = run };
                  says = refl;
                });
          }

      of_ringmaster : troupe_at d node ≡ None → IsWhole given
      of_ringmaster none =
          subst (λ (a : Acting Lawful). IsWhole (given_in node r.lived a)) (sym q.rings.acting)
          (record {
            possible = ring_possible plan named is.deployed node r.lived kept.views within none run q.quiet r.others (ring_gives_well lawful.declared lawful.turn lawful.first plan node can_ring r.lived last.node stands r.others);
            audited =
                is_audited (ringmaster kept) None none (ring_has_numbers d node r.lived kept.views run)
                (record { views = kept.views; run = run; none_differ = q.quiet; says = refl });
          })
        where
          none_hosted : hosted ≡ None
          none_hosted = ap (option_and_then (slice_get modules)) none

          can_ring : CanBoot d node None
          can_ring = subst (λ (o : Option Lawful). CanBoot d node (option_map lawful.declared o)) none_hosted can

          stands : StandsFor lawful.declared lawful.turn lawful.first d None node r.lived last.node
          stands = stands_as None none_hosted

          q : RingsQuietly lawful.declared lawful.turn lawful.first d node r.lived last.node
          q = rings_quietly lawful.declared lawful.turn lawful.first d node r.lived last.node stands r.others within

          kept : Kept
          kept = kept_behind d node (requests_of d node r.lived)

          run : IsRingRun d node r.lived kept.views
          run = record { views_are = refl; answers = q.rings.answers; sends = q.rings.sends }

      pub whole_is : IsWhole given
      whole_is = by_troupe (troupe_at d node) refl
        where
          by_acting : (number : ℕ) → troupe_at d node ≡ Some number → (a : Acting Lawful) → last.node.acting ≡ a → IsWhole given
          by_acting number hosts (member m) acting = subst (λ (a : Acting Lawful). IsWhole (given_in node r.lived a)) (sym acting) (of_member number hosts m acting)
          by_acting number hosts (ringmaster kept) acting =
              let clash : IsSome {T = MemberRecord} None = subst (λ (a : Acting Lawful). IsSome (member_record a)) acting (r.of.member (subst IsSome (sym hosts) refl)) in
              absurd cc

          by_troupe : (o : Option ℕ) → troupe_at d node ≡ o → IsWhole given
          by_troupe (Some number) hosts = by_acting number hosts last.node.acting refl
          by_troupe None none = of_ringmaster none
