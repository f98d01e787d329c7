-- Boot of a member's node, as its record is evaluated: either a trace begins with it, or no run does.
use Rattle.std.specs.Prelude.{◌&&◌}
use Rattle.std.proofs.Common.{◌≡◌, ℕ, ◌+◌, ◌≤◌, Bool, true, false, if◌then◌else◌, List, [], ◌∷◌, length, All, Option, None, Some, refl, sym, ap, subst, ◌∙◌, arith}
use Rattle.circus_value.specs.ValueTree.{ValueTree}
use Rattle.circus_collate.specs.declared.deployment.Deployment.{Deployment}
use Rattle.circus_collate.specs.declared.deployment.Troupe.{Troupe}
use Rattle.circus_model.specs.Behaviour.{Behaviour}
use Rattle.circus_record.specs.declared.record.MemberRecord.{MemberRecord}
use Rattle.circus_exchange.specs.Limits.{never_used}
use Rattle.circus_wire.specs.WireActs.{begun, made_to}
use Rattle.circus_member_rules.specs.declared.occurrence.Effect.{Effect}
use Rattle.circus_member_theory.specs.First.{first_given}
use Rattle.circus_member_theory.specs.Past as past
use Rattle.circus_node.specs.Trace as trace
use Rattle.circus_node.specs.Trace.{Trace}
use Rattle.circus_node.specs.declared.event.Outputs.{Outputs}
use Rattle.circus_world_theory.specs.Histories.{beginning_of}
use Rattle.circus_world_theory.specs.NodeActs.{with_all}
use Rattle.circus_headline_theory.specs.Peers.{GoesToPeer}
use Rattle.circus_headline_theory.specs.Trace.{acts_in_step, acts_of, gives_for_all, SendsWhatIsOwed}
use Rattle.circus_audit.specs.declared.given.GivenEvent.{GivenEvent}
use Rattle.circus_dues.specs.Dues.{DuesState, IsLawful, IsOwedAtBoot, TellsAtBoot}
use Rattle.circus_dues.specs.NodeRuns.{BootsSo, at_boot, begins, here, known}
use Rattle.circus_dues.specs.Seen.Sound.{IsSayable}
use Rattle.circus_dues.proofs.BeginningSince.{begins_in_time_so_far, entered_active}
use Rattle.circus_dues.proofs.NodeRunsOnce.{goes_before, sends_before}
use Rattle.circus_dues.proofs.ReachPeers.{boot_to_peers}
use Rattle.circus_verdict.specs.declared.station.Pairs.{Pairs}
use Rattle.circus_verdict.specs.Seen.Living.{dues_of, IsMemberAt, IsActiveSo, IsRunSo, AreRefused, HasLived}
use Rattle.circus_verdict.specs.Seen.Station.{IsToldOf, IsToldRightly}
use Rattle.circus_verdict.proofs.Beginnings.{HasBooted, has_booted}
use Rattle.circus_verdict.proofs.Stepping.{fewer_before, lawful_by}
use Rattle.circus_verdict.proofs.Timely.{begins_timely}

-- so many runs are entered at boot
pub entered_as : (root active : Bool) → ◌≡◌ {A = ℕ} (if root && active then 1 else 0) (if active then (if root then 1 else 0) else 0)
entered_as true true = refl
entered_as true false = refl
entered_as false true = refl
entered_as false false = refl

module _ (d : Deployment) (b : Behaviour) (node number : ℕ) (troupe : Troupe) (kept : MemberRecord) (member : IsMemberAt d b node number troupe) where
  -- what is known of boot
  pub record IsBootOf (boot : GivenEvent) (dues : DuesState) (made : List Effect) : Type 0 where
    pub is_boot : boot.event ≡ None
    pub few : kept.from + length kept.runs ≤ 4294967296
    pub modules : ℕ
    pub sayable : IsSayable b.declared modules kept
    pub tells : TellsAtBoot (known d b node number troupe kept) (begins d b node number troupe kept) b.first (at_boot d b node number troupe kept) dues made
    pub dues_are : dues ≡ dues_of (here d b node number troupe kept) b.declared kept dues.owing

  module _ (boot : GivenEvent) (dues : DuesState) (made : List Effect) (s : IsBootOf boot dues made) where
    abbrev standing : DuesState
    standing = dues_of (here d b node number troupe kept) b.declared kept dues.owing

    tells_standing : TellsAtBoot (known d b node number troupe kept) (begins d b node number troupe kept) b.first (at_boot d b node number troupe kept) standing made
    tells_standing =
        subst (λ (n : DuesState). TellsAtBoot (known d b node number troupe kept) (begins d b node number troupe kept) b.first (at_boot d b node number troupe kept) n made) s.dues_are s.tells

    owed_then : IsLawful kept → dues.owing.is_timely ≡ true
        → IsOwedAtBoot (here d b node number troupe kept) (known d b node number troupe kept) (begins d b node number troupe kept) b.first kept b.declared.procedures (at_boot d b node number troupe kept) dues.owing made
    owed_then lawful timely = (tells_standing lawful).1 timely

    -- what is made goes to other nodes
    pub begins_to_peers : IsLawful kept → dues.owing.is_timely ≡ true → All (GoesToPeer (beginning_of d node)) made
    begins_to_peers lawful timely =
        subst (All (GoesToPeer (beginning_of d node))) (sym (owed_then lawful timely).made) (boot_to_peers d b node number troupe kept member.good member.hosts member.fits s.modules s.sayable)

    none_yet : IsActiveSo d b node number troupe kept past.booted
    unfolding first_given
    none_yet spare step state count is = absurd (let clash : ◌≡◌ {A = Option (ℕ × (List ValueTree × ℕ))} None (Some (step, (state, count))) = is in cc)

    -- a trace begins with it, where the record tells of it rightly
    pub lives_at_boot : IsLawful kept → dues.owing.is_timely ≡ true → (last : Pairs) → IsToldRightly d node begun [] made [] boot last
        → HasLived d b node number troupe kept (boot ∷ []) last dues []
    lives_at_boot lawful timely last right =
        let owed = owed_then lawful timely in
        let there : IsLawful dues.kept = subst IsLawful (sym (ap (λ (n : DuesState). n.kept) s.dues_are)) lawful in
        let sent : Outputs = record { gives = boot.gives; suspects = []; differences = boot.differences } in
        record {
          lived = trace.booted made sent;
          events_are = λ j. record { event = sym s.is_boot j; gives = boot.gives; differences = boot.differences } ∷ [];
          numbered = tt;
          others = tt;
          awaited_is = refl;
          numbers = right.is.numbers;
          goes = record { made_so = owed.made; told_so = right.is.differences; timely = owed.in_time.step };
          sends = (right.is.gives, refl);
          stand = right.stand;
          founded = owed.in_time.founded;
          active = none_yet;
          in_time =
              begins_in_time_so_far dues.place dues.signature (known d b node number troupe kept) (begins d b node number troupe kept) b.first (at_boot d b node number troupe kept) dues.kept dues.owing made
              (entered_active b.declared.root (begins d b node number troupe kept)) there timely ((s.tells there).1 timely);
        }

    -- ---- beside a run that begins with the same event

    module _ (t : Trace) (run : IsRunSo d b node number troupe kept t) (g : HasBooted t boot) where
      boots : BootsSo d b node number troupe kept g.made g.outputs
      boots = goes_before d b node number troupe kept t (trace.booted g.made g.outputs) g.began run.evaluated.goes

      sends : SendsWhatIsOwed (beginning_of d node) (trace.booted g.made g.outputs)
      sends = sends_before (beginning_of d node) t (trace.booted g.made g.outputs) g.began run.evaluated.sends

      lawful : IsLawful kept
      lawful = lawful_by d b node number troupe kept member s.few t run.evaluated

      never_untimely : dues.owing.is_timely ≡ false → ⊥
      never_untimely untimely =
          absurd (let clash : false ≡ true = sym untimely ∙ (tells_standing lawful).0.1 (begins_timely d b node number troupe kept t run.numbered run.evaluated) in cc)

      told_of_boot : dues.owing.is_timely ≡ true → IsToldOf d node begun [] made [] boot
      told_of_boot timely =
          let same : g.made ≡ made = boots.made_so ∙ sym (owed_then lawful timely).made in
          record {
            numbers = λ to.
                subst (λ l. made_to to (with_all begun (acts_in_step (beginning_of d node) begun [] l)) ≤ never_used) same
                (let few = run.numbers to in
                let less : made_to to (with_all begun (acts_in_step (beginning_of d node) begun [] g.made)) ≤ made_to to (acts_of (beginning_of d node) t) =
                fewer_before d node t (trace.booted g.made g.outputs) g.began to in
                omega (arith, few, less));
            gives =
                ap (λ (e : GivenEvent). e.gives) g.boot_is ∙ sends.0
                ∙ ap (λ l. gives_for_all (beginning_of d node) begun (acts_in_step (beginning_of d node) begun [] l)) same;
            differences = ap (λ (e : GivenEvent). e.differences) g.boot_is ∙ boots.told_so;
          }

    -- ---- no run begins with it

    pub boot_untimely : dues.owing.is_timely ≡ false → AreRefused d b node number troupe kept (boot ∷ [])
    boot_untimely untimely t rest run same = never_untimely t run (has_booted t boot rest same) untimely

    pub boot_untold : dues.owing.is_timely ≡ true → (All (GoesToPeer (beginning_of d node)) made → IsToldOf d node begun [] made [] boot → ⊥) → AreRefused d b node number troupe kept (boot ∷ [])
    boot_untold timely never t rest run same =
        let g = has_booted t boot rest same in
        never (begins_to_peers (lawful t run g) timely) (told_of_boot t run g timely)
