-- The end of a record of a member: the trace that it has lived through is a run, or there is none.
use Rattle.std.proofs.Common.{◌≡◌, ℕ, ◌+◌, ◌≤◌, inl, inr, Bool, true, false, List, [], length, None, Some, refl, sym, ap, subst, ◌∙◌}
use Rattle.std.proofs.lemmas.Option.{same_Some}
use Rattle.circus_collate.specs.declared.deployment.Deployment.{Deployment}
use Rattle.circus_collate.specs.declared.deployment.Troupe.{Troupe}
use Rattle.circus_transfer.specs.declared.joiner.Joiner.{Joiner}
use Rattle.circus_transfer.specs.declared.joiner.Joiner.TheVariants.{Outside, Asking, Fetching, Active}
use Rattle.circus_model.specs.Behaviour.{Behaviour}
use Rattle.circus_record.specs.declared.record.MemberRecord.{MemberRecord}
use Rattle.circus_performing.specs.Performing.{is_active}
use Rattle.circus_performing.specs.Record.{IsRecord}
use Rattle.circus_member_rules.specs.declared.place.Beginning.{Beginning}
use Rattle.circus_member_rules.specs.declared.place.Beginning.TheVariants.{Founder, Spare}
use Rattle.circus_member_theory.specs.First.{first_given}
use Rattle.circus_member_theory.specs.Living.{phase_at_boot}
use Rattle.circus_member_theory.specs.Past.{Past, Rises, phase, snapshot_fetched}
use Rattle.circus_member_theory.specs.Returns.{first_of}
use Rattle.circus_performing.proofs.Records.{none_is_some}
use Rattle.circus_node.specs.Booting.{beginning_in}
use Rattle.circus_node.specs.Trace.{Trace}
use Rattle.circus_headline_theory.specs.NodeRun.{state_at_activation}
use Rattle.circus_headline_theory.proofs.OneRun.{lived_rises}
use Rattle.circus_audit.specs.declared.given.GivenEvent.{GivenEvent}
use Rattle.circus_dues.specs.Dues.{DuesState, IsInTimeSoFar, HasAllCome, IsLawful}
use Rattle.circus_dues.specs.NodeRuns.{at_boot, begins, here, known}
use Rattle.circus_verdict.specs.Audited.{events_in}
use Rattle.circus_verdict.specs.declared.station.Pairs.{Pairs}
use Rattle.circus_verdict.specs.Seen.Living.{dues_of, phase_told, IsMemberAt, through, IsEvaluatedIn, IsRunSo, HasLived, HasRunThrough, HaveNoRun}
use Rattle.circus_verdict.proofs.Auditing.{rises}
use Rattle.circus_verdict.proofs.Awaiting.{awaited_alone, awaited_so}
use Rattle.circus_verdict.proofs.Beginnings.{one_by_events}
use Rattle.circus_verdict.proofs.Possible.Activation.{active_from}
use Rattle.circus_verdict.proofs.Stepping.{lawful_by}

active_told : (p : Joiner) → is_active (phase_told p) ≡ is_active p
active_told Outside = refl
active_told Asking = refl
active_told (Fetching incarnation) = refl
active_told (Active first) = refl

first_at_boot : (x : Beginning) → is_active (phase_at_boot x) ≡ true → first_of (phase_at_boot x) ≡ 0
first_at_boot Founder active = refl
first_at_boot Spare active = refl

-- a spare that took no state isn't active
never_active : (begins : Joiner) (p : Past) → is_active begins ≡ false → first_given (snapshot_fetched begins) p ≡ None → is_active (phase begins p) ≡ false
never_active begins p spare none = by_phase (phase begins p) refl
  where
    by_phase : (j : Joiner) → phase begins p ≡ j → is_active (phase begins p) ≡ false
    by_phase Outside is = ap is_active is
    by_phase Asking is = ap is_active is
    by_phase (Fetching incarnation) is = ap is_active is
    by_phase (Active since) is =
        elim (active_from begins since p is) [
          | inl at ↦ absurd (let clash : false ≡ true = sym spare ∙ ap is_active at in cc)
          | inr some ↦ absurd (none_is_some (sym none ∙ some.2))
        ]

module _ (d : Deployment) (b : Behaviour) (node number : ℕ) (troupe : Troupe) (kept : MemberRecord) (member : IsMemberAt d b node number troupe) where
  -- what is known in the end
  pub record IsEndOf (events : List GivenEvent) (pairs : Pairs) (dues : DuesState) (awaited : List ℕ) : Type 0 where
    pub few : kept.from + length kept.runs ≤ 4294967296
    pub apart : is_active kept.phase ≡ false → (kept.from ≡ 0) × (kept.active_at ≡ 0)
    pub lives : IsLawful kept → HasLived d b node number troupe kept events pairs dues awaited
    pub dues_are : dues ≡ dues_of (here d b node number troupe kept) b.declared kept dues.owing

  module _ (events : List GivenEvent) (pairs : Pairs) (dues : DuesState) (awaited : List ℕ) (e : IsEndOf events pairs dues awaited) where
    abbrev Lives : Type 0
    Lives = HasLived d b node number troupe kept events pairs dues awaited

    -- ---- it ends so

    module _ (h : Lives) where
      abbrev p : Past
      p = through d b node number troupe kept h.lived

      so_far : IsInTimeSoFar (known d b node number troupe kept) (begins d b node number troupe kept) b.first (at_boot d b node number troupe kept) p (dues_of (here d b node number troupe kept) b.declared kept dues.owing)
      so_far =
          subst (IsInTimeSoFar (known d b node number troupe kept) (begins d b node number troupe kept) b.first (at_boot d b node number troupe kept) p) e.dues_are h.in_time

      began_is : dues.owing.began ≡ state_at_activation d b node number troupe kept h.lived
      began_is = so_far.dues.began_is

      phase_is : dues.owing.phase ≡ phase (begins d b node number troupe kept) p
      phase_is = so_far.dues.phase_is

      -- one that took no state performs from its first call on
      from_first : kept.phase ≡ phase_told (phase (begins d b node number troupe kept) p) → first_given (snapshot_fetched (begins d b node number troupe kept)) p ≡ None → (kept.from ≡ 0) × (kept.active_at ≡ 0)
      from_first told none = by_phase (is_active (begins d b node number troupe kept)) refl
        where
          by_phase : (t : Bool) → is_active (begins d b node number troupe kept) ≡ t → (kept.from ≡ 0) × (kept.active_at ≡ 0)
          by_phase true active = (let f = h.founded active in (f.from_is ∙ first_at_boot (beginning_in troupe node) active, f.since))
          by_phase false spare =
              e.apart
              (ap is_active told ∙ active_told (phase (begins d b node number troupe kept) p)
              ∙ never_active (begins d b node number troupe kept) p spare none)

      evaluated : IsRecord b dues.owing.began kept → kept.phase ≡ phase_told dues.owing.phase → HasAllCome (known d b node number troupe kept) (begins d b node number troupe kept) b.first (at_boot d b node number troupe kept) p dues
          → IsEvaluatedIn d b node number troupe kept h.lived
      evaluated follows told all =
          record {
            goes = h.goes;
            boots = so_far.boots;
            within =
                subst (HasAllCome (known d b node number troupe kept) (begins d b node number troupe kept) b.first (at_boot d b node number troupe kept) p) e.dues_are all;
            active = h.active;
            from_first = from_first (told ∙ ap phase_told phase_is);
            follows = subst (λ s. IsRecord b s kept) began_is follows;
            sends = h.sends;
          }

      ends_there : awaited ≡ [] → IsRecord b dues.owing.began kept → kept.phase ≡ phase_told dues.owing.phase
          → HasAllCome (known d b node number troupe kept) (begins d b node number troupe kept) b.first (at_boot d b node number troupe kept) p dues
          → HasRunThrough d b node number troupe kept events dues.owing.began
      ends_there none follows told all =
          record {
            lived = h.lived;
            events_are = h.events_are;
            others = h.others;
            run = record {
              numbered = h.numbered;
              declares = awaited_so h.lived [] (h.awaited_is ∙ ap Some none);
              numbers = h.numbers;
              evaluated = evaluated follows told all;
            };
            phase_is = told ∙ ap phase_told phase_is;
            begun_is = began_is;
          }

      rising : Rises p
      rising = lived_rises d b node number troupe kept h.lived (rises h.lived h.numbered)

    pub ends_with : awaited ≡ [] → IsRecord b dues.owing.began kept → kept.phase ≡ phase_told dues.owing.phase
        → ((q : Past) → Rises q → IsInTimeSoFar (known d b node number troupe kept) (begins d b node number troupe kept) b.first (at_boot d b node number troupe kept) q dues
        → HasAllCome (known d b node number troupe kept) (begins d b node number troupe kept) b.first (at_boot d b node number troupe kept) q dues)
        → HasRunThrough d b node number troupe kept events dues.owing.began
    ends_with none follows told all =
        let h = e.lives (record { behaves = b; lawful = member.lawful; from = dues.owing.began; is = follows; few = e.few }) in
        ends_there h none follows told (all (p h) (rising h) h.in_time)

    -- ---- or there is no run

    -- a run with these events is the trace
    module _ (t : Trace) (run : IsRunSo d b node number troupe kept t) (same : events_in t ≡ events) where
      lives_then : Lives
      lives_then = e.lives (lawful_by d b node number troupe kept member e.few t run.evaluated)

      this : t ≡ lives_then.lived
      this =
          one_by_events d b node number troupe kept t lives_then.lived run.numbered lives_then.numbered run.evaluated.goes run.evaluated.sends lives_then.goes lives_then.sends
          (same ∙ sym lives_then.events_are)

      run_there : IsRunSo d b node number troupe kept lives_then.lived
      run_there = subst (IsRunSo d b node number troupe kept) this run

    pub none_awaiting : (awaited ≡ [] → ⊥) → HaveNoRun d b node number troupe kept events
    none_awaiting some t run same told =
        let h = lives_then t run same in
        some (same_Some awaited [] (sym h.awaited_is ∙ awaited_alone h.lived [] (run_there t run same).declares))

    pub none_late : ((q : Past) → Rises q → IsInTimeSoFar (known d b node number troupe kept) (begins d b node number troupe kept) b.first (at_boot d b node number troupe kept) q dues
        → HasAllCome (known d b node number troupe kept) (begins d b node number troupe kept) b.first (at_boot d b node number troupe kept) q dues → ⊥) → HaveNoRun d b node number troupe kept events
    none_late late t run same told =
        let h = lives_then t run same in
        late (p h) (rising h) h.in_time
        (subst (HasAllCome (known d b node number troupe kept) (begins d b node number troupe kept) b.first (at_boot d b node number troupe kept) (p h)) (sym e.dues_are) (run_there t run same).evaluated.within)

    pub none_in_phase : (kept.phase ≡ phase_told dues.owing.phase → ⊥) → HaveNoRun d b node number troupe kept events
    none_in_phase other t run same told =
        let h = lives_then t run same in
        other (told ∙ ap (λ (x : Trace). phase_told (phase (begins d b node number troupe kept) (through d b node number troupe kept x))) (this t run same) ∙ ap phase_told (sym (phase_is h)))

    pub none_following : (IsRecord b dues.owing.began kept → ⊥) → HaveNoRun d b node number troupe kept events
    none_following other t run same told =
        let h = lives_then t run same in
        other (subst (λ s. IsRecord b s kept) (sym (began_is h)) (run_there t run same).evaluated.follows)
