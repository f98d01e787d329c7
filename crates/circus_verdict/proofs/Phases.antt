-- The phase that a record says is nothing to what is owed by it: one that shows no run is evaluated in any phase.
use Rattle.std.proofs.Common.{◌≡◌, ℕ, zero, suc, ◌+◌, inl, inr, ◌⊎◌, ◌&&◌, if◌then◌else◌, List, [], ◌∷◌, length, Option, None, Some, refl, sym, ap, subst, ◌∙◌, arith}
use Rattle.std.specs.Prelude.{IsSomeAnd, is_some, nat_le}
use Rattle.std.specs.Option.{option_map_or}
use Rattle.circus_value.specs.ValueTree.{ValueTree}
use Rattle.circus_collate.specs.declared.deployment.Deployment.{Deployment}
use Rattle.circus_collate.specs.declared.deployment.Troupe.{Troupe}
use Rattle.circus_collate.specs.declared.view.View.{View}
use Rattle.circus_transfer.specs.declared.joiner.Joiner.{Joiner}
use Rattle.circus_segment.specs.Segment.{reading}
use Rattle.circus_model.specs.Behaviour.{Behaviour}
use Rattle.circus_model.specs.declared.signature.ProcedureShape.{ProcedureShape}
use Rattle.circus_record.specs.declared.record.MemberRecord.{MemberRecord}
use Rattle.circus_record.specs.declared.record.RunRecord.{RunRecord}
use Rattle.circus_gather.specs.declared.held.HeldCall.{HeldCall}
use Rattle.circus_fanout.specs.Asking.{Asking}
use Rattle.circus_performing.specs.Performing.{is_active, last_count}
use Rattle.circus_performing.specs.Record.{start_of, IsIdle, IsPerforming, IsRecord}
use Rattle.circus_wire.specs.WireActs.{WireActs}
use Rattle.circus_member_rules.specs.OpenAsks.{asking_of}
use Rattle.circus_member_rules.specs.Step.{start_by_call}
use Rattle.circus_member_rules.specs.declared.occurrence.AskName.{AskName}
use Rattle.circus_member_rules.specs.declared.occurrence.Difference.{Difference}
use Rattle.circus_member_rules.specs.declared.occurrence.Effect.{Effect}
use Rattle.circus_member_rules.specs.declared.occurrence.Occurrence.{Occurrence}
use Rattle.circus_member_rules.specs.declared.occurrence.Occurrence.TheVariants as occurs
use Rattle.circus_member_rules.specs.declared.occurrence.Purpose.{Purpose}
use Rattle.circus_member_rules.specs.declared.place.Place.{Place}
use Rattle.circus_member_theory.specs.Asks.{open_asks}
use Rattle.circus_member_theory.specs.Differences.{watches, difference_from, first_reply, differences_now}
use Rattle.circus_member_theory.specs.Order.{made_in_step}
use Rattle.circus_member_theory.specs.Past as past
use Rattle.circus_member_theory.specs.First.{first_given}
use Rattle.circus_member_theory.specs.Past.{Past, phase, snapshot_fetched}
use Rattle.circus_member_theory.specs.Snapshots.{began}
use Rattle.circus_member_theory.specs.Timely.{collated_call, is_free_for, may_start}
use Rattle.circus_node.specs.Accepting.{recorded_ask, occurrence_by}
use Rattle.circus_node.specs.declared.event.Event.{Event}
use Rattle.circus_node.specs.declared.event.Event.TheVariants as comes
use Rattle.circus_node.specs.Trace as trace
use Rattle.circus_node.specs.Trace.{Trace}
use Rattle.circus_world_theory.specs.Happened.{with_one}
use Rattle.circus_world_theory.specs.Histories.{beginning_of}
use Rattle.circus_headline_theory.specs.NodeRun.{happens_by}
use Rattle.circus_headline_theory.specs.Trace.{Rises, acts_of, heard_in}
use Rattle.circus_headline_theory.proofs.Agree.{RunsAgree, Agree}
use Rattle.circus_headline_theory.proofs.Alike.{step_same}
use Rattle.circus_headline_theory.proofs.OneRun.{lived_rises}
use Rattle.circus_headline_theory.proofs.Owed.CallsOwing.{open_same}
use Rattle.circus_dues.specs.NodeRuns.{GoesSo, StepsSo, at_boot, begins, happens, here, known, lived}
use Rattle.circus_dues.specs.Walk.{IsTimelyStep, IsWithin}
use Rattle.circus_verdict.specs.Seen.Living.{IsActiveSo, IsEvaluatedIn}

module _ (kept : MemberRecord) (one : Joiner) where
  abbrev pub in_one : MemberRecord
  in_one = record kept { phase = one }

  runs_agree : (step : ℕ) (runs : List RunRecord) → RunsAgree step runs runs
  runs_agree step [] = tt
  runs_agree step (run ∷ runs) = inl (refl, runs_agree step runs)

  agree : (step : ℕ) → Agree step kept in_one
  agree step = record { runs = runs_agree step kept.runs; from = inl refl }

  -- ---- what a member owes that stands here

  module _ (place : Place) (boot : List View) where
    made_same : (begins_so : Joiner) (first : List ValueTree) (p : Past) (at : ℕ) (o : Occurrence) → past.Rises (past.followed p at o)
        → made_in_step place boot begins_so first kept p (past.followed p at o) ≡ made_in_step place boot begins_so first in_one p (past.followed p at o)
    made_same begins_so first p at o rises =
        let later = rises.1 in
        step_same at kept in_one (agree at) place boot begins_so first p (past.followed p at o) rises.0 (omega (arith, later)) rises (omega arith)

    opens_same : (p : Past) → past.Rises p → open_asks place boot kept p ≡ open_asks place boot in_one p
    opens_same p rises = open_same place boot kept in_one (past.now p + 1) (λ r below. refl) (λ r below. refl) p rises (omega arith)

    differ_same : (p : Past) (at : ℕ) (o : Occurrence) → past.Rises (past.followed p at o) → differences_now place boot kept (past.followed p at o) ≡ differences_now place boot in_one (past.followed p at o)
    differ_same p at (occurs.Replied name from reply) rises =
        ap
        (λ (asks : List (AskName × Asking)).
        if watches place.replies && is_some (asking_of asks name) then option_map_or (difference_from name from reply) (first_reply place boot kept p name) [] else [])
        (opens_same p rises.0)
    differ_same p at (occurs.Asked header body sender) rises = refl
    differ_same p at (occurs.Fetched incarnation sender) rises = refl
    differ_same p at (occurs.IsStale name server from incarnation) rises = refl
    differ_same p at (occurs.IsBefore name from) rises = refl
    differ_same p at (occurs.Told request table) rises = refl
    differ_same p at (occurs.Restored state count) rises = refl
    differ_same p at (occurs.Declared node) rises = refl
    differ_same p at occurs.Joins rises = refl

    -- ---- and when

    module _ (begins_so : Joiner) (procedures : List ProcedureShape) (first_runs : ℕ) where
      free_same : (number : ℕ) (p : Past) → is_free_for place boot begins_so in_one number p ≡ is_free_for place boot begins_so kept number p
      free_same zero p = refl
      free_same (suc number) p = refl

      start_same : (number : ℕ) (p : Past) → may_start place boot begins_so in_one number p ≡ may_start place boot begins_so kept number p
      start_same number p =
          ap (λ free. if is_active (phase begins_so p) && free && nat_le (kept.from + number) last_count then collated_call place boot begins_so (kept.from + number) p else None) (free_same number p)

      timely_same : (p : Past) → IsTimelyStep place boot begins_so procedures first_runs kept p → IsTimelyStep place boot begins_so procedures first_runs in_one p
      timely_same p h =
          record {
            starts = λ number run enough there.
                let s = h.starts number run enough there in
                record {
                  starts_now = λ at.
                      subst (λ (o : Option HeldCall). IsSomeAnd o (λ (call : HeldCall). start_of run ≡ start_by_call place.troupe procedures call)) (sym (start_same number p)) (s.starts_now at);
                  not_yet = λ late. start_same number p ∙ s.not_yet late;
                };
            no_more = λ enough. start_same (length kept.runs) p ∙ h.no_more enough;
            answers = λ number place_of run ask there here_is left.
                let a = h.answers number place_of run ask there here_is left in
                record { answered_now = a.answered_now; not_yet = a.not_yet };
          }

      within_same : (p : Past) → IsWithin place boot begins_so procedures first_runs kept p → IsWithin place boot begins_so procedures first_runs in_one p
      within_same p w = record { starts = w.starts; answers = w.answers }

  -- ---- its runs are turns of the module

  follows_same : (b : Behaviour) (state : List ValueTree) → kept.runs ≡ [] → IsRecord b state kept → IsRecord b state in_one
  follows_same b state none r = record { now = by_now r.now; inactive = λ inactive. none }
    where
      by_now : IsIdle b state kept ⊎ IsPerforming b state kept → IsIdle b state in_one ⊎ IsPerforming b state in_one
      by_now (inl idle) = inl (record { runs = idle.runs; count = idle.count; state = idle.state; is_state = idle.is_state })
      by_now (inr going) =
          inr (record { before = going.before; run = going.run; runs_are = going.runs_are; runs = going.runs; waiting = going.waiting; count = going.count; state = going.state })

-- ---- a member of a troupe, at a node of a program

module _ (d : Deployment) (b : Behaviour) (node number : ℕ) (troupe : Troupe) (kept : MemberRecord) (one : Joiner) where
  asks_in_phase : recorded_ask (in_one kept one) ≡ recorded_ask kept
  asks_in_phase = λ j name. recorded_ask kept name

  happens_in_phase : (acts : WireActs Purpose) (event : Event) → happens_by d b.declared node number (in_one kept one) acts event ≡ happens_by d b.declared node number kept acts event
  happens_in_phase acts (comes.Datagram from bytes) =
      λ j. occurrence_by d b.declared (asks_in_phase j) number from (heard_in (beginning_of d node) acts from (reading bytes))
  happens_in_phase acts comes.Tick = refl
  happens_in_phase acts (comes.Down other) = refl
  happens_in_phase acts comes.Join = refl

  pub past_in_phase : (t : Trace) → lived d b node number troupe (in_one kept one) t ≡ lived d b node number troupe kept t
  past_in_phase (trace.booted made outputs) = refl
  past_in_phase (trace.stepped t at event made outputs) = λ j. with_one (past_in_phase t j) at (happens_in_phase (acts_of (beginning_of d node) t) event j)

  -- ---- step by step

  steps_in_phase : (p : Past) (at : ℕ) (made : List Effect) (told : List Difference) (o : Option Occurrence) → past.Rises (with_one p at o) → StepsSo d b node number troupe kept p at made told o
      → StepsSo d b node number troupe (in_one kept one) p at made told o
  steps_in_phase p at made told None rises so = record { made_so = so.made_so; told_so = so.told_so; timely = tt }
  steps_in_phase p at made told (Some o) rises so =
      let place = here d b node number troupe kept in
      let boot = known d b node number troupe kept in
      let begins_so = begins d b node number troupe kept in
      record {
        made_so = so.made_so ∙ made_same kept one place boot begins_so b.first p at o rises;
        told_so = so.told_so ∙ differ_same kept one place boot p at o rises;
        timely = timely_same kept one place boot begins_so b.declared.procedures (at_boot d b node number troupe kept) (past.followed p at o) so.timely;
      }

  goes_in_phase : (t : Trace) → Rises t → GoesSo d b node number troupe kept t → GoesSo d b node number troupe (in_one kept one) t
  goes_in_phase (trace.booted made outputs) rises so =
      record {
        made_so = so.made_so;
        told_so = so.told_so;
        timely =
            timely_same kept one (here d b node number troupe kept) (known d b node number troupe kept) (begins d b node number troupe kept) b.declared.procedures (at_boot d b node number troupe kept) past.booted so.timely;
      }
  goes_in_phase (trace.stepped t at event made outputs) rises so = (
    goes_in_phase t rises.0 so.0,
    subst (λ p. StepsSo d b node number troupe (in_one kept one) p at made outputs.differences (happens d b node number troupe (in_one kept one) t event)) (sym (past_in_phase t))
        (subst (StepsSo d b node number troupe (in_one kept one) (lived d b node number troupe kept t) at made outputs.differences) (sym (happens_in_phase (acts_of (beginning_of d node) t) event))
        (steps_in_phase (lived d b node number troupe kept t) at made outputs.differences (happens d b node number troupe kept t event)
        (lived_rises d b node number troupe kept (trace.stepped t at event made outputs) rises) so.1)),
  )

  -- ---- and in the end

  pub in_phase : (t : Trace) → Rises t → kept.runs ≡ [] → IsEvaluatedIn d b node number troupe kept t → IsEvaluatedIn d b node number troupe (in_one kept one) t
  in_phase t rises none e =
      let same = sym (past_in_phase t) in
      record {
        goes = goes_in_phase t rises e.goes;
        boots = e.boots;
        within =
            subst (IsWithin (here d b node number troupe kept) (known d b node number troupe kept) (begins d b node number troupe kept) b.declared.procedures (at_boot d b node number troupe kept) (in_one kept one)) same
            (within_same kept one (here d b node number troupe kept) (known d b node number troupe kept) (begins d b node number troupe kept) b.declared.procedures (at_boot d b node number troupe kept)
            (lived d b node number troupe kept t) e.within);
        active = subst (IsActiveSo d b node number troupe (in_one kept one)) same e.active;
        from_first = subst (λ p. first_given (snapshot_fetched (begins d b node number troupe kept)) p ≡ None → (kept.from ≡ 0) × (kept.active_at ≡ 0)) same e.from_first;
        follows =
            subst (λ p. IsRecord b (began (begins d b node number troupe kept) b.first p) (in_one kept one)) same
            (follows_same kept one b (began (begins d b node number troupe kept) b.first (lived d b node number troupe kept t)) none e.follows);
        sends = e.sends;
      }
