-- What is evaluated is in time at boot, and in each step in which something happens.
use Rattle.std.proofs.Common.{◌≡◌, ℕ, zero, suc, ◌+◌, ◌-◌, ◌<◌, ◌≤◌, ◌⊎◌, inl, inr, Bool, true, false, List, [], ◌∷◌, ◌++◌, length, take, Option, None, Some, refl, sym, ap, subst, ◌∙◌, arith, append_assoc, length-append}
use Rattle.std.specs.Prelude.{IfSome, IsSomeAnd, ◌&&◌, if◌then◌else◌, nat_le, nat_lt, slice_get, unwrap_or}
use Rattle.std.proofs.lemmas.Bool.{true≢false}
use Rattle.std.proofs.lemmas.Bool.Decides.{leb_tells}
use Rattle.std.proofs.lemmas.Option.{same_Some}
use Rattle.circus_value.specs.ValueTree.{ValueTree}
use Rattle.circus_value.specs.declared.outcome.Outcome.{Outcome}
use Rattle.circus_collate.specs.declared.deployment.Deployment.{Deployment}
use Rattle.circus_collate.specs.declared.deployment.Troupe.{Troupe}
use Rattle.circus_transfer.specs.Joining.{after_state}
use Rattle.circus_transfer.specs.declared.joiner.Joiner.{Joiner}
use Rattle.circus_transfer.specs.declared.joiner.Joiner.TheVariants as phases
use Rattle.circus_model.specs.Behaviour.{Behaviour}
use Rattle.circus_model.specs.Execution.{is_spent}
use Rattle.circus_record.specs.declared.record.AskRecord.{AskRecord}
use Rattle.circus_record.specs.declared.record.MemberRecord.{MemberRecord}
use Rattle.circus_record.specs.declared.record.RunRecord.{RunRecord}
use Rattle.circus_gather.specs.declared.held.HeldCall.{HeldCall}
use Rattle.circus_performing.specs.Performing.{is_active, is_fetching, clock_after, last_count}
use Rattle.circus_performing.specs.Record.{start_of, IsIdle, IsPerforming, IsRecord}
use Rattle.circus_member_rules.specs.declared.occurrence.Effect.{Effect}
use Rattle.circus_member_rules.specs.declared.occurrence.Occurrence.{Occurrence}
use Rattle.circus_member_rules.specs.declared.occurrence.Occurrence.TheVariants as comes
use Rattle.circus_member_rules.specs.Step.{is_join, start_by_call}
use Rattle.circus_member_rules.specs.declared.place.Beginning.{Beginning}
use Rattle.circus_member_rules.specs.declared.place.Beginning.TheVariants as begin
use Rattle.circus_node.specs.Booting.{beginning_in}
use Rattle.circus_node.specs.Trace.{Trace, booted, stepped}
use Rattle.circus_node.specs.declared.event.Event.{Event}
use Rattle.circus_node.specs.declared.event.Outputs.{Outputs}
use Rattle.circus_member_theory.specs.First.{first_given, at_end, or_else}
use Rattle.circus_member_theory.specs.Living.{phase_at_boot}
use Rattle.circus_member_theory.specs.Past as past
use Rattle.circus_member_theory.specs.Past.{Past, phase, snapshot_fetched}
use Rattle.circus_member_theory.specs.Returns.{first_of}
use Rattle.circus_member_theory.specs.Timely.{IsMain, collated_call, is_free_for, may_start}
use Rattle.circus_world_theory.specs.Happened.{with_one}
use Rattle.circus_performing.proofs.Ends.{latest_more}
use Rattle.circus_headline_theory.specs.Datagrams.Due.{WasSo}
use Rattle.circus_headline_theory.specs.NodeRun.{state_at_activation}
use Rattle.circus_headline_theory.specs.Trace.{Rises}
use Rattle.circus_headline_theory.proofs.One.{at_front, take_front}
use Rattle.circus_headline_theory.proofs.OneRun.{lived_rises, few, none_at_boot}
use Rattle.circus_dues.specs.Calls.{IsOutside, NoneBetween}
use Rattle.circus_dues.specs.Dues.{IsFounded, IsActivatedSo, BeginsInTime, GoesOnInTime}
use Rattle.circus_dues.specs.NodeRuns.{here, known, begins, at_boot, lived, happens, IsTimelyFor, GoesSo, BeginsWith}
use Rattle.circus_dues.specs.Out.{phase_behind, snapshot_behind}
use Rattle.circus_dues.specs.Walk.{Always, IsStepOf, IsTimelyStep, IsWithin, RunOneByOne}
use Rattle.circus_dues.specs.WalkRecord.{GoesToEnd, GoesToWait, RunsToEnd, RunsToWait, GoOn}
use Rattle.circus_dues.proofs.NodeRuns.{timely_by}
use Rattle.circus_dues.proofs.NodeRunsOnce.{goes_before}
use Rattle.circus_dues.proofs.OutPhase.{phase_then, snapshot_then}
use Rattle.circus_dues.proofs.WalkOrder.{runs_one_by_one}
use Rattle.circus_dues.proofs.WalkRecord.{record_goes}
use Rattle.circus_dues.proofs.WalkSteps.{always_at, always_of, none_ever}
use Rattle.circus_dues.proofs.WalkTimely.{timely_by_steps}
use Rattle.circus_dues.proofs.WalkWithin as within
use Rattle.circus_dues.proofs.WalkWithin.{step_then}

-- ---- a past as it began

pub was_self : (p : Past) → WasSo p p
was_self past.booted = refl
was_self (past.followed p at o) = inl refl

pub rises_then : (p q : Past) → WasSo p q → past.Rises p → past.Rises q
rises_then past.booted q same rises = subst past.Rises (sym same) rises
rises_then (past.followed p at o) q (inl same) rises = subst past.Rises (sym same) rises
rises_then (past.followed p at o) q (inr was) rises = rises_then p q was rises.0

-- a step of a past is no later than the one behind which this came, or no earlier than this
pub outside : (x p : Past) (at : ℕ) (o : Occurrence) → past.Rises x → WasSo x (past.followed p at o) → (step : ℕ) → IsStepOf step x → IsOutside (past.now p) at step
outside x p at o rises was step is = by_low (leb_tells step (past.now p))
  where
    here_rises : past.Rises (past.followed p at o)
    here_rises = rises_then x (past.followed p at o) was rises

    by_high : past.now p < step → IsOutside (past.now p) at step
    by_high above = by_tell (leb_tells at step)
      where
        by_tell : ((nat_le at step ≡ true) × (at ≤ step)) ⊎ ((nat_le at step ≡ false) × (step < at)) → IsOutside (past.now p) at step
        by_tell (inl high) = inr high.1
        by_tell (inr low) =
            absurd (within.none_between p at o step here_rises.0 above low.1 (step_then x (past.followed p at o) step rises was (let below = low.1 in omega (arith, below)) is))

    by_low : ((nat_le step (past.now p) ≡ true) × (step ≤ past.now p)) ⊎ ((nat_le step (past.now p) ≡ false) × (past.now p < step)) → IsOutside (past.now p) at step
    by_low (inl low) = inl low.1
    by_low (inr above) = by_high above.1

-- ---- the phase

module _ (begins_so : Joiner) where
  stays_active : (j : Joiner) (o : Occurrence) → is_active j ≡ true → is_active (phase_behind o j) ≡ true
  stays_active (phases.Active first) (comes.Asked header body sender) active = refl
  stays_active (phases.Active first) (comes.Fetched incarnation sender) active = refl
  stays_active (phases.Active first) (comes.Replied name from reply) active = refl
  stays_active (phases.Active first) (comes.IsStale name server from incarnation) active = refl
  stays_active (phases.Active first) (comes.IsBefore name from) active = refl
  stays_active (phases.Active first) (comes.Told request table) active = by_join (is_join request)
    where
      by_join : (b : Bool) → is_active (if b then phases.Active first else phases.Active first) ≡ true
      by_join true = refl
      by_join false = refl
  stays_active (phases.Active first) (comes.Restored state count) active = refl
  stays_active (phases.Active first) (comes.Declared node) active = refl
  stays_active (phases.Active first) comes.Joins active = refl
  stays_active phases.Outside o active = absurd (true≢false (sym active))
  stays_active phases.Asking o active = absurd (true≢false (sym active))
  stays_active (phases.Fetching incarnation) o active = absurd (true≢false (sym active))

  pub active_then : (p : Past) (at : ℕ) (o : Occurrence) → is_active (phase begins_so p) ≡ true → is_active (phase begins_so (past.followed p at o)) ≡ true
  active_then p at o active = ap is_active (phase_then begins_so p at o) ∙ stays_active (phase begins_so p) o active

  active_since : (x p : Past) → WasSo x p → is_active (phase begins_so p) ≡ true → is_active (phase begins_so x) ≡ true
  active_since past.booted p same active = ap (λ y. is_active (phase begins_so y)) (sym same) ∙ active
  active_since (past.followed x at o) p (inl same) active = ap (λ y. is_active (phase begins_so y)) (sym same) ∙ active
  active_since (past.followed x at o) p (inr was) active = active_then x at o (active_since x p was active)

  active_always : (p : Past) → is_active begins_so ≡ true → is_active (phase begins_so p) ≡ true
  active_always past.booted is = is
  active_always (past.followed p at o) is = active_then p at o (active_always p is)

  not_both : (j : Joiner) → is_fetching j ≡ true → is_active j ≡ true → ⊥
  not_both (phases.Fetching incarnation) fetching active = true≢false (sym active)
  not_both (phases.Active first) fetching active = true≢false (sym fetching)
  not_both phases.Outside fetching active = true≢false (sym fetching)
  not_both phases.Asking fetching active = true≢false (sym fetching)

  restored_active : (j : Joiner) (count : ℕ) → is_fetching j ≡ true → is_active (after_state count j) ≡ true
  restored_active (phases.Fetching incarnation) count fetching = refl
  restored_active (phases.Active first) count fetching = absurd (true≢false (sym fetching))
  restored_active phases.Outside count fetching = absurd (true≢false (sym fetching))
  restored_active phases.Asking count fetching = absurd (true≢false (sym fetching))

  abbrev fetched : Past → Option (List ValueTree × ℕ)
  fetched p = snapshot_fetched begins_so p

  -- one that has fetched a snapshot is active
  fetched_active : (p : Past) (given : List ValueTree × ℕ) → fetched p ≡ Some given → is_active (phase begins_so p) ≡ true
  fetched_active past.booted given is = absurd (let clash : ◌≡◌ {A = Option (List ValueTree × ℕ)} None (Some given) = is in cc)
  fetched_active (past.followed p at o) given is = by_what (fetched_active p given) o is
    where
      by_what : (fetched p ≡ Some given → is_active (phase begins_so p) ≡ true) → (o : Occurrence) → fetched (past.followed p at o) ≡ Some given → is_active (phase begins_so (past.followed p at o)) ≡ true
      by_what so (comes.Restored state count) is = by_phase (is_fetching (phase begins_so p)) refl is
        where
          by_phase : (b : Bool) → is_fetching (phase begins_so p) ≡ b → (if b then Some (state, count) else fetched p) ≡ Some given → is_active (phase begins_so (past.followed p at (comes.Restored state count))) ≡ true
          by_phase true fetching is = ap is_active (phase_then begins_so p at (comes.Restored state count)) ∙ restored_active (phase begins_so p) count fetching
          by_phase false not_so is = active_then p at (comes.Restored state count) (so is)
      by_what so (comes.Asked header body sender) is = active_then p at (comes.Asked header body sender) (so is)
      by_what so (comes.Fetched incarnation sender) is = active_then p at (comes.Fetched incarnation sender) (so is)
      by_what so (comes.Replied name from reply) is = active_then p at (comes.Replied name from reply) (so is)
      by_what so (comes.IsStale name server from incarnation) is = active_then p at (comes.IsStale name server from incarnation) (so is)
      by_what so (comes.IsBefore name from) is = active_then p at (comes.IsBefore name from) (so is)
      by_what so (comes.Told request table) is = active_then p at (comes.Told request table) (so is)
      by_what so (comes.Declared node) is = active_then p at (comes.Declared node) (so is)
      by_what so comes.Joins is = active_then p at comes.Joins (so is)

  -- so one that fetches one has fetched none
  none_fetched : (p : Past) → is_fetching (phase begins_so p) ≡ true → first_given fetched p ≡ None
  none_fetched p fetching = none_ever fetched p (always_of (λ q. fetched q ≡ None) p none_at)
    where
      none_at : (q : Past) → WasSo p q → fetched q ≡ None
      none_at q was = by_given (fetched q) refl
        where
          by_given : (o : Option (List ValueTree × ℕ)) → fetched q ≡ o → o ≡ None
          by_given None is = refl
          by_given (Some given) is = absurd (not_both (phase begins_so p) fetching (active_since p q was (fetched_active q given is)))

  -- and one that is active at boot fetches none
  none_of_active : (p : Past) → is_active begins_so ≡ true → first_given fetched p ≡ None
  none_of_active p active = none_ever fetched p (always_of (λ q. fetched q ≡ None) p (λ q was. none_yet q))
    where
      none_yet : (q : Past) → fetched q ≡ None
      none_yet past.booted = refl
      none_yet (past.followed q at o) = snapshot_then begins_so q at o ∙ by_what (none_yet q) o
        where
          by_phase : fetched q ≡ None → (b : Bool) (given : List ValueTree × ℕ) → is_fetching (phase begins_so q) ≡ b → (if b then Some given else fetched q) ≡ None
          by_phase none true given fetching = absurd (not_both (phase begins_so q) fetching (active_always q active))
          by_phase none false given not_so = none

          by_what : fetched q ≡ None → (o : Occurrence) → snapshot_behind o (phase begins_so q) (fetched q) ≡ None
          by_what none (comes.Restored state count) = by_phase none (is_fetching (phase begins_so q)) (state, count) refl
          by_what none (comes.Asked header body sender) = none
          by_what none (comes.Fetched incarnation sender) = none
          by_what none (comes.Replied name from reply) = none
          by_what none (comes.IsStale name server from incarnation) = none
          by_what none (comes.IsBefore name from) = none
          by_what none (comes.Told request table) = none
          by_what none (comes.Declared node) = none
          by_what none comes.Joins = none

  -- what is given first stays so
  given_stays : (x p : Past) (given : ℕ × (List ValueTree × ℕ)) → WasSo x p → first_given fetched p ≡ Some given → first_given fetched x ≡ Some given
  unfolding first_given
  given_stays past.booted p given same is = ap (first_given fetched) (sym same) ∙ is
  given_stays (past.followed x at o) p given (inl same) is = ap (first_given fetched) (sym same) ∙ is
  given_stays (past.followed x at o) p given (inr was) is = ap (λ before. or_else before (at_end (past.followed x at o) (fetched (past.followed x at o)))) (given_stays x p given was is)

  -- the snapshot that comes while one is fetched is the first
  given_now : (p : Past) (at : ℕ) (state : List ValueTree) (count : ℕ) → is_fetching (phase begins_so p) ≡ true
      → first_given fetched (past.followed p at (comes.Restored state count)) ≡ Some (at, (state, count))
  unfolding first_given
  given_now p at state count fetching =
      let q = past.followed p at (comes.Restored state count) in
      ap (λ before. or_else before (at_end q (fetched q))) (none_fetched p fetching)
      ∙ ap (λ b. at_end q (if b then Some (state, count) else fetched p)) fetching

-- ---- what is evaluated

module _ (d : Deployment) (b : Behaviour) (node number : ℕ) (troupe : Troupe) (kept : MemberRecord) where
  abbrev lives : Trace → Past
  lives t = lived d b node number troupe kept t

  abbrev phase_first : Joiner
  phase_first = begins d b node number troupe kept

  lived_was : (t x : Trace) → BeginsWith t x → WasSo (lives t) (lives x)
  lived_was (booted made outputs) x same = ap lives same
  lived_was (stepped t at event made outputs) x (inl same) =
      subst (λ (y : Trace). WasSo (lives (stepped t at event made outputs)) (lives y)) (sym same) (was_self (lives (stepped t at event made outputs)))
  lived_was (stepped t at event made outputs) x (inr began) = by_one (lived_was t x began) (happens d b node number troupe kept t event)
    where
      by_one : WasSo (lives t) (lives x) → (o : Option Occurrence) → WasSo (with_one (lives t) at o) (lives x)
      by_one was None = was
      by_one was (Some o) = inr was

  -- of a record whose phase is left open
  module _ (t : Trace) (rises : Rises t) (goes : GoesSo d b node number troupe kept t)
      (boots : (place : ℕ) → place < at_boot d b node number troupe kept → IsSomeAnd (slice_get kept.runs place) (IsMain (here d b node number troupe kept).troupe (known d b node number troupe kept)))
      (came : IsWithin (here d b node number troupe kept) (known d b node number troupe kept) phase_first b.declared.procedures (at_boot d b node number troupe kept) kept (lives t))
      (active : is_active phase_first ≡ false → (step : ℕ) (state : List ValueTree) (count : ℕ) → first_given (snapshot_fetched phase_first) (lives t) ≡ Some (step, (state, count)) → (kept.active_at ≡ step) × (kept.from ≡ count))
      (from_first : first_given (snapshot_fetched phase_first) (lives t) ≡ None → (kept.from ≡ 0) × (kept.active_at ≡ 0))
      (follows : IsRecord b (state_at_activation d b node number troupe kept t) kept) where
    abbrev Founds : Type 0
    Founds = IsFounded (here d b node number troupe kept) (known d b node number troupe kept) phase_first b.first kept b.declared.procedures (at_boot d b node number troupe kept)

    abbrev IsTimelyIn : MemberRecord → Past → Type 0
    IsTimelyIn one p = IsTimelyStep (here d b node number troupe kept) (known d b node number troupe kept) phase_first b.declared.procedures (at_boot d b node number troupe kept) one p

    -- ---- the record in the phase in which the member is in the end

    abbrev told : MemberRecord
    told = record kept { phase = phase phase_first (lives t) }

    abbrev free_for : MemberRecord → ℕ → Past → Bool
    free_for one place p = is_free_for (here d b node number troupe kept) (known d b node number troupe kept) phase_first one place p

    free_same : (place : ℕ) (p : Past) → free_for told place p ≡ free_for kept place p
    free_same zero p = refl
    free_same (suc place) p = refl

    start_same : (place : ℕ) (p : Past) → may_start (here d b node number troupe kept) (known d b node number troupe kept) phase_first told place p ≡ may_start (here d b node number troupe kept) (known d b node number troupe kept) phase_first kept place p
    start_same place p =
        ap (λ free. if is_active (phase phase_first p) && free && nat_le (kept.from + place) last_count then collated_call (here d b node number troupe kept) (known d b node number troupe kept) phase_first (kept.from + place) p else None) (free_same place p)

    step_same : (p : Past) → IsTimelyIn kept p → IsTimelyIn told p
    step_same p h =
        record {
          starts = λ place run enough there.
              let s = h.starts place run enough there in
              record {
                starts_now = λ at.
                    subst (λ (o : Option HeldCall). IsSomeAnd o (λ (call : HeldCall). start_of run ≡ start_by_call (here d b node number troupe kept).troupe b.declared.procedures call)) (sym (start_same place p)) (s.starts_now at);
                not_yet = λ late. start_same place p ∙ s.not_yet late;
              };
          no_more = λ enough. start_same (length kept.runs) p ∙ h.no_more enough;
          answers = λ place place_of run ask there here left.
              let a = h.answers place place_of run ask there here left in
              record { answered_now = a.answered_now; not_yet = a.not_yet };
        }

    all_same : (p : Past) → Always (IsTimelyIn kept) p → Always (IsTimelyIn told) p
    all_same past.booted h = step_same past.booted h
    all_same (past.followed p at o) h = (all_same p h.0, step_same (past.followed p at o) h.1)

    all_timely : Always (IsTimelyIn kept) (lives t)
    all_timely = timely_by d b node number troupe kept t goes

    -- a past that ends in a step of one
    record EndsIn (p : Past) (step : ℕ) : Type 0 where
      until : Past
      was : WasSo p until
      ends : past.now until ≡ step

    ends_in : (p : Past) (step : ℕ) → IsStepOf step p → EndsIn p step
    ends_in past.booted step is = record { until = past.booted; was = refl; ends = sym is }
    ends_in (past.followed p at o) step (inl before) = (let e = ends_in p step before in record { until = e.until; was = inr e.was; ends = e.ends })
    ends_in (past.followed p at o) step (inr last) = record { until = past.followed p at o; was = inl refl; ends = sym last }

    -- who has performed a run is active
    none_run : (runs : List RunRecord) → kept.runs ≡ runs → is_active (phase phase_first (lives t)) ≡ false → runs ≡ []
    none_run [] are not_active = refl
    none_run (run ∷ rest) are not_active = absurd (true≢false (sym (by_number (at_boot d b node number troupe kept) refl) ∙ not_active))
      where
        there : slice_get kept.runs 0 ≡ Some run
        there = ap (λ l. slice_get l 0) are

        by_start : (q : Past) → (o : Option HeldCall) → may_start (here d b node number troupe kept) (known d b node number troupe kept) phase_first kept 0 q ≡ o
            → IsSomeAnd o (λ (call : HeldCall). start_of run ≡ start_by_call (here d b node number troupe kept).troupe b.declared.procedures call) → is_active (phase phase_first q) ≡ true
        by_start q None none some = absurd some
        by_start q (Some call) is some = by_active (is_active (phase phase_first q)) refl is
          where
            by_active : (x : Bool) → is_active (phase phase_first q) ≡ x
                → (if x && free_for kept 0 q && nat_le (kept.from + 0) last_count then collated_call (here d b node number troupe kept) (known d b node number troupe kept) phase_first (kept.from + 0) q else None) ≡ Some call
                → is_active (phase phase_first q) ≡ true
            by_active true so is = so
            by_active false so is = absurd (let clash : ◌≡◌ {A = Option HeldCall} None (Some call) = is in cc)

        by_boot : (x : Bool) → is_active phase_first ≡ x → (n : ℕ) → (if x then (if b.declared.root then 1 else 0) else 0) ≡ suc n → is_active (phase phase_first (lives t)) ≡ true
        by_boot true so n is = active_always phase_first (lives t) so
        by_boot false so n is = absurd (omega (arith, is))

        by_number : (n : ℕ) → at_boot d b node number troupe kept ≡ n → is_active (phase phase_first (lives t)) ≡ true
        by_number (suc n) is = by_boot (is_active phase_first) refl n is
        by_number zero is =
            let e = ends_in (lives t) run.started (came.starts 0 run (omega (arith, is)) there) in
            let s = (always_at (IsTimelyIn kept) (lives t) e.until all_timely e.was).starts 0 run (omega (arith, is)) there in
            active_since phase_first (lives t) e.until e.was (by_start e.until (may_start (here d b node number troupe kept) (known d b node number troupe kept) phase_first kept 0 e.until) refl (s.starts_now (sym e.ends)))

    follows_told : IsRecord b (state_at_activation d b node number troupe kept t) told
    follows_told = record { now = by_now follows.now; inactive = none_run kept.runs refl }
      where
        by_now : IsIdle b (state_at_activation d b node number troupe kept t) kept ⊎ IsPerforming b (state_at_activation d b node number troupe kept t) kept
            → IsIdle b (state_at_activation d b node number troupe kept t) told ⊎ IsPerforming b (state_at_activation d b node number troupe kept t) told
        by_now (inl idle) = inl (record { runs = idle.runs; count = idle.count; state = idle.state; is_state = idle.is_state })
        by_now (inr going) =
            inr (record { before = going.before; run = going.run; runs_are = going.runs_are; runs = going.runs; waiting = going.waiting; count = going.count; state = going.state })

    order : RunOneByOne 0 kept.runs
    order =
        runs_one_by_one (here d b node number troupe kept) (known d b node number troupe kept) phase_first b.declared.procedures (at_boot d b node number troupe kept) b (few d b node number troupe) (none_at_boot d b node number troupe)
        (state_at_activation d b node number troupe kept t) (lives t) told
        (record {
          timely = timely_by_steps (here d b node number troupe kept) (known d b node number troupe kept) phase_first b.declared.procedures (at_boot d b node number troupe kept) told (lives t)
              (lived_rises d b node number troupe kept t rises) boots refl active (all_same (lives t) all_timely) (record { starts = came.starts; answers = came.answers });
          follows = follows_told;
        })

    founded : is_active phase_first ≡ true → Founds
    founded is = record { from_is = from.0 ∙ sym (first_is (beginning_in troupe node)); since = from.1 }
      where
        from : (kept.from ≡ 0) × (kept.active_at ≡ 0)
        from = from_first (none_of_active phase_first (lives t) is)

        first_is : (x : Beginning) → first_of (phase_at_boot x) ≡ 0
        first_is begin.Founder = refl
        first_is begin.Spare = refl

    -- at boot
    pub begins_in_time : (made : List Effect) (outputs : Outputs) → BeginsWith t (booted made outputs)
        → BeginsInTime (here d b node number troupe kept) (known d b node number troupe kept) phase_first b.first kept b.declared.procedures (at_boot d b node number troupe kept)
    begins_in_time made outputs began =
        record { order = order; founded = founded; boots = boots; step = (goes_before d b node number troupe kept t (booted made outputs) began goes).timely }

    -- ---- a step of it

    module _ (u : Trace) (at : ℕ) (event : Event) (made : List Effect) (outputs : Outputs) (began : BeginsWith t (stepped u at event made outputs)) (o : Occurrence) (happened : happens d b node number troupe kept u event ≡ Some o) where
      abbrev low : ℕ
      low = past.now (lives u)

      abbrev q : Past
      q = past.followed (lives u) at o

      was : WasSo (lives t) q
      was = subst (WasSo (lives t)) (ap (with_one (lives u) at) happened) (lived_was t (stepped u at event made outputs) began)

      is_outside : (step : ℕ) → IsStepOf step (lives t) → IsOutside low at step
      is_outside = outside (lives t) (lives u) at o (lived_rises d b node number troupe kept t rises) was

      -- ---- the asks and the end of a run

      module _ (place : ℕ) (run : RunRecord) (there : slice_get kept.runs place ≡ Some run) where
        answered_outside : (place_of : ℕ) (ask : AskRecord) → slice_get run.asks place_of ≡ Some ask → is_spent (clock_after run.entry (take place_of run.asks)) ≡ false → IfSome ask.answered (IsOutside low at)
        answered_outside place_of ask here left = by_answer ask.answered refl
          where
            by_answer : (n : Option ℕ) → ask.answered ≡ n → IfSome n (IsOutside low at)
            by_answer None is = tt
            by_answer (Some step) is = is_outside step ((came.answers place place_of run ask there here left).answered step is)

        started_outside : IsOutside low at run.started
        started_outside = by_number (leb_tells (at_boot d b node number troupe kept) place)
          where
            by_main : IsSomeAnd (slice_get kept.runs place) (IsMain (here d b node number troupe kept).troupe (known d b node number troupe kept)) → IsOutside low at run.started
            by_main main =
                let is = subst (λ (x : Option RunRecord). IsSomeAnd x (IsMain (here d b node number troupe kept).troupe (known d b node number troupe kept))) there main in
                let zero_is = is.0 in
                inl (omega (arith, zero_is))

            by_number : ((nat_le (at_boot d b node number troupe kept) place ≡ true) × (at_boot d b node number troupe kept ≤ place)) ⊎ ((nat_le (at_boot d b node number troupe kept) place ≡ false) × (place < at_boot d b node number troupe kept)) → IsOutside low at run.started
            by_number (inl late) = is_outside run.started (came.starts place run late.1 there)
            by_number (inr first) = by_main (boots place first.1)

        -- the step behind the asks of a run that has ended
        end_outside : (state : List ValueTree) (replies : List Outcome) (front rest : List AskRecord) (step : ℕ) → run.asks ≡ front ++ rest → IsOutside low at step
            → GoesToEnd b state run replies (clock_after run.entry front) step rest → IfSome run.ended (IsOutside low at)
        end_outside state replies front [] step are out goes = subst (λ (n : Option ℕ). IfSome n (IsOutside low at)) (sym goes.ended_is) out
        end_outside state replies front (ask ∷ rest) step are out goes =
            let a = goes.1.0 in
            let same : clock_after run.entry (front ++ ask ∷ []) ≡ a.after = latest_more (λ (x : AskRecord). x.after) run.entry front ask ∙ ap (λ x. unwrap_or x (clock_after run.entry front)) a.after_is in
            end_outside state (replies ++ a.reply ∷ []) (front ++ ask ∷ []) rest a.answered (are ∙ sym (append_assoc front (ask ∷ []) rest)) (by_clock (is_spent (clock_after run.entry front)) refl)
            (subst (λ (clock : List ℕ). GoesToEnd b state run (replies ++ a.reply ∷ []) clock a.answered rest) (sym same) goes.1.1)
          where
            by_clock : (spent : Bool) → is_spent (clock_after run.entry front) ≡ spent → IsOutside low at goes.1.0.answered
            by_clock true spent = subst (IsOutside low at) (sym ((goes.1.0.refused spent).2 ∙ goes.0.asked)) out
            by_clock false left =
                let taken : take (length front) run.asks ≡ front = ap (take (length front)) are ∙ take_front front (ask ∷ rest) in
                let here : slice_get run.asks (length front) ≡ Some ask = ap (λ l. slice_get l (length front)) are ∙ at_front front ask rest in
                subst (λ (n : Option ℕ). IfSome n (IsOutside low at)) goes.1.0.answered_is
                (answered_outside (length front) ask here (ap (λ l. is_spent (clock_after run.entry l)) taken ∙ left))

        no_end : (state : List ValueTree) (replies : List Outcome) (clock : List ℕ) (step : ℕ) (asks : List AskRecord) → GoesToWait b state run replies clock step asks → run.ended ≡ None
        no_end state replies clock step [] goes = absurd goes
        no_end state replies clock step (ask ∷ asks) goes =
            elim goes.1 [
              | inl waits ↦ waits.0.not_ended
              | inr more ↦ no_end state (replies ++ more.0.reply ∷ []) more.0.after more.0.answered asks more.1
            ]

        run_outside : (state : List ValueTree) → RunsToEnd b state run ⊎ RunsToWait b state run → IfSome run.ended (IsOutside low at)
        run_outside state (inl ends) = end_outside state [] [] run.asks run.started refl started_outside ends.goes
        run_outside state (inr waits) = subst (λ (n : Option ℕ). IfSome n (IsOutside low at)) (sym (no_end state [] run.entry run.started run.asks waits.goes)) tt

      -- ---- all runs

      all_outside : (front rest : List RunRecord) (state : List ValueTree) → kept.runs ≡ front ++ rest → GoOn b kept (length front) state rest
          → (n : ℕ) (run : RunRecord) → slice_get rest n ≡ Some run → IsOutside low at run.started × IfSome run.ended (IsOutside low at)
      all_outside front [] state are goes n run there = absurd (let clash : ◌≡◌ {A = Option RunRecord} None (Some run) = there in cc)
      all_outside front (x ∷ rest) state are goes zero run there =
          let same = same_Some x run there in
          subst (λ (r : RunRecord). IsOutside low at r.started × IfSome r.ended (IsOutside low at)) same
          (started_outside (length front) x here, run_outside (length front) x here state (by_one goes))
        where
          here : slice_get kept.runs (length front) ≡ Some x
          here = ap (λ l. slice_get l (length front)) are ∙ at_front front x rest

          by_one : GoOn b kept (length front) state (x ∷ rest) → RunsToEnd b state x ⊎ RunsToWait b state x
          by_one (inl more) = inl more.0
          by_one (inr last) = inr last.0
      all_outside front (x ∷ rest) state are goes (suc n) run there =
          elim goes [
            | inl more ↦ (let longer : length (front ++ x ∷ []) ≡ length front + 1 = length-append front (x ∷ []) in
                all_outside (front ++ x ∷ []) rest (unwrap_or x.state state) (are ∙ sym (append_assoc front (x ∷ []) rest)) (subst (λ k. GoOn b kept k (unwrap_or x.state state) rest) (sym longer) more.1) n run there)
            | inr last ↦ absurd (let clash : ◌≡◌ {A = Option RunRecord} None (Some run) = sym (ap (λ l. slice_get l n) last.1) ∙ there in cc)
          ]

      none_came : NoneBetween kept low at
      none_came index run is = by_test (nat_lt index kept.from) is
        where
          all_go : GoOn b kept 0 (state_at_activation d b node number troupe kept t) kept.runs
          all_go = record_goes b (state_at_activation d b node number troupe kept t) kept follows

          by_test : (x : Bool) → (if x then None else slice_get kept.runs (index - kept.from)) ≡ Some run → IsOutside low at run.started × IfSome run.ended (IsOutside low at)
          by_test true is = absurd (let clash : ◌≡◌ {A = Option RunRecord} None (Some run) = is in cc)
          by_test false is = all_outside [] kept.runs (state_at_activation d b node number troupe kept t) refl all_go (index - kept.from) run is

      -- ---- a snapshot

      restored_so : (state : List ValueTree) (count : ℕ) → WasSo (lives t) (past.followed (lives u) at (comes.Restored state count)) → is_fetching (phase phase_first (lives u)) ≡ true → (kept.active_at ≡ at) × (kept.from ≡ count)
      restored_so state count began_so fetching =
          active (not_active (is_active phase_first) refl) at state count (given_stays phase_first (lives t) (past.followed (lives u) at (comes.Restored state count)) (at, (state, count)) began_so (given_now phase_first (lives u) at state count fetching))
        where
          not_active : (x : Bool) → is_active phase_first ≡ x → x ≡ false
          not_active false is = refl
          not_active true is = absurd (not_both phase_first (phase phase_first (lives u)) fetching (active_always phase_first (lives u) is))

      activated_so : (o : Occurrence) → WasSo (lives t) (past.followed (lives u) at o) → IsActivatedSo (here d b node number troupe kept) (known d b node number troupe kept) phase_first b.first kept b.declared.procedures (at_boot d b node number troupe kept) (lives u) at o
      activated_so (comes.Restored state count) began_so = restored_so state count began_so
      activated_so (comes.Asked header body sender) began_so = tt
      activated_so (comes.Fetched incarnation sender) began_so = tt
      activated_so (comes.Replied name from reply) began_so = tt
      activated_so (comes.IsStale name server from incarnation) began_so = tt
      activated_so (comes.IsBefore name from) began_so = tt
      activated_so (comes.Told request table) began_so = tt
      activated_so (comes.Declared node) began_so = tt
      activated_so comes.Joins began_so = tt

      pub goes_in_time : GoesOnInTime (here d b node number troupe kept) (known d b node number troupe kept) phase_first b.first kept b.declared.procedures (at_boot d b node number troupe kept) (lives u) at o
      goes_in_time =
          let steps = goes_before d b node number troupe kept t (stepped u at event made outputs) began goes in
          record {
            none_between = none_came;
            none_answered = λ place place_of run ask there here left. answered_outside place run there place_of ask here left;
            activated = activated_so o was;
            step = subst (IsTimelyFor d b node number troupe kept (lives u) at) happened steps.1.timely;
          }
