-- A record that goes on in time in a step is in time so far behind it.
use Rattle.std.proofs.Common.{◌≡◌, ℕ, ◌+◌, ◌-◌, ◌<◌, ◌≤◌, ◌⊎◌, inl, inr, Bool, true, false, ◌&&◌, if◌then◌else◌, List, take, Option, None, Some, refl, sym, ap, subst, ◌∙◌, arith}
use Rattle.std.specs.Prelude.{slice_get, is_some, nat_le, IfSome, IsSomeAnd}
use Rattle.std.proofs.lemmas.Bool.{cases_lt}
use Rattle.std.proofs.lemmas.Option.{same_Some}
use Rattle.circus_value.specs.ValueTree.{ValueTree}
use Rattle.circus_collate.specs.declared.view.View.{View}
use Rattle.circus_transfer.specs.declared.joiner.Joiner.{Joiner}
use Rattle.circus_model.specs.Execution.{is_spent}
use Rattle.circus_model.specs.declared.signature.Signature.{Signature}
use Rattle.circus_record.specs.declared.record.AskRecord.{AskRecord}
use Rattle.circus_record.specs.declared.record.MemberRecord.{MemberRecord}
use Rattle.circus_record.specs.declared.record.RunRecord.{RunRecord}
use Rattle.circus_gather.specs.declared.held.HeldCall.{HeldCall}
use Rattle.circus_performing.specs.Performing.{is_active, clock_after, last_count}
use Rattle.circus_performing.specs.Record.{start_of}
use Rattle.circus_member_rules.specs.declared.place.Place.{Place}
use Rattle.circus_member_rules.specs.declared.occurrence.Difference.{Difference}
use Rattle.circus_member_rules.specs.declared.occurrence.Effect.{Effect}
use Rattle.circus_member_rules.specs.declared.occurrence.Occurrence.{Occurrence}
use Rattle.circus_member_rules.specs.OpenAsks.{asking_of}
use Rattle.circus_member_rules.specs.Step.{start_by_call}
use Rattle.circus_member_theory.specs.Past.{Past, Rises, followed, now, phase}
use Rattle.circus_member_theory.specs.Asks.{open_asks}
use Rattle.circus_member_theory.specs.Timely.{IsMain, collated_call, is_free_for}
use Rattle.circus_dues.specs.Calls.{IsOutside}
use Rattle.circus_dues.specs.Dues.{DuesState, IsOwed, CameInSteps, KeepsOpen, IsInTimeSoFar}
use Rattle.circus_dues.specs.Walk.{IsStepOf}
use Rattle.circus_dues.specs.declared.owing.Owing.{Owing}
use Rattle.circus_headline_theory.proofs.One.{none_is_some}
use Rattle.circus_dues.proofs.CallsPassing.{run_at}
use Rattle.circus_dues.proofs.Stages.{IsGoingOn}
use Rattle.circus_dues.proofs.StepActive.{still_active}
use Rattle.circus_dues.proofs.StepComing.{came_first}
use Rattle.circus_dues.proofs.StepKeeps.{IsSame, keeps}
use Rattle.circus_dues.proofs.StepReached.{IsAtRest, IsUnderWay, stands_so, WaitsAt, waits_at}

-- a step that is no later than this one is one of those before, or this one
step_of : (p : Past) (at : ℕ) (o : Occurrence) (step : ℕ) → (step ≤ now p → IsStepOf step p) → IsOutside (now p) at step → step ≤ at → IsStepOf step (followed p at o)
step_of p at o step was (inl low) by = inl (was low)
step_of p at o step was (inr high) by = inr (omega (arith, high, by))

module _ (boot : List View) (begins : Joiner) (first : List ValueTree) (at_boot : ℕ) (p : Past) (at : ℕ) (o : Occurrence) (rises : Rises p) (later : now p < at)
    (place : Place) (signature : Signature) (kept : MemberRecord) (d : Owing) (so : IsInTimeSoFar boot begins first at_boot p (record { place = place; signature = signature; kept = kept; owing = d }))
    (e : Owing) (effects : List Effect) (told : Option Difference) (owed : IsOwed place boot begins first kept signature.procedures at_boot p at o e effects told) where
  abbrev q : Past
  q = followed p at o

  going : IsGoingOn place boot begins at_boot kept p at
  going = record { rises = rises; later = later; lawful = so.lawful; order = so.order; boots = so.boots; between = owed.in_time.none_between }

  -- ---- what came

  starts_outside : (number : ℕ) (run : RunRecord) → slice_get kept.runs number ≡ Some run → IsOutside (now p) at run.started
  starts_outside number run there = (owed.in_time.none_between (kept.from + number) run (run_at kept number ∙ there)).0

  in_steps : CameInSteps boot begins first at_boot kept q
  in_steps =
      record {
        starts = λ number run there by. step_of p at o run.started (so.in_steps.starts number run there) (starts_outside number run there) by;
        answers = λ number place_of run ask step there here left is by.
            step_of p at o step (so.in_steps.answers number place_of run ask step there here left is)
            (subst (λ x. IfSome x (IsOutside (now p) at)) is (owed.in_time.none_answered number place_of run ask there here left)) by;
      }

  -- ---- it is active

  active_by : (active free few : Bool) (call : Option HeldCall) (P : HeldCall → Type 0) → IsSomeAnd (if active && free && few then call else None) P → active ≡ true
  active_by true free few call P gives = refl
  active_by false free few call P gives = absurd gives

  -- a run that started in the step was not entered at boot
  not_at_boot : (number : ℕ) (run : RunRecord) → slice_get kept.runs number ≡ Some run → at ≤ run.started → at_boot ≤ number
  not_at_boot number run there high = elim (cases_lt number at_boot) [
    | inl low ↦ absurd (by_main (so.boots number low))
    | inr up ↦ up
  ]
    where
      by_main : IsSomeAnd (slice_get kept.runs number) (IsMain place.troupe boot) → ⊥
      by_main main = (let zero_so = (subst (λ x. IsSomeAnd x (IsMain place.troupe boot)) there main).0 in omega (arith, zero_so, high, later))

  active : (number : ℕ) (run : RunRecord) → slice_get kept.runs number ≡ Some run → run.started ≤ at → is_active (phase begins q) ≡ true
  active number run there by = by_side (starts_outside number run there)
    where
      by_side : IsOutside (now p) at run.started → is_active (phase begins q) ≡ true
      by_side (inl low) = still_active begins p at o (so.active number run there low)
      by_side (inr high) =
          active_by (is_active (phase begins q)) (is_free_for place boot begins kept number q) (nat_le (kept.from + number) last_count) (collated_call place boot begins (kept.from + number) q)
          (λ (call : HeldCall). start_of run ≡ start_by_call place.troupe signature.procedures call)
          ((owed.in_time.step.starts number run (not_at_boot number run there high) there).starts_now (omega (arith, by, high)))

  -- ---- the ask that waits is open

  abbrev Waits : Type 0
  Waits = IsUnderWay kept q so.order e.walk

  at_ask : (u : Waits) → is_some (slice_get boot (waits_at kept q so.order e.walk owed.dues.comes_to u).ask.callee) ≡ true
      → is_some (asking_of (open_asks place boot kept q) (record { run = kept.from + e.walk.ended; ask = u.count - 1 })) ≡ true
  at_ask u =
      keeps kept p at o later so.order owed.in_time.none_between answered d.walk so.dues.comes_to e.walk owed.dues.comes_to place boot so.lawful.few u was
    where
      w : WaitsAt kept q so.order e.walk owed.dues.comes_to u
      w = waits_at kept q so.order e.walk owed.dues.comes_to u

      answered : (number place_of : ℕ) (run : RunRecord) (ask : AskRecord) → slice_get kept.runs number ≡ Some run → slice_get run.asks place_of ≡ Some ask
          → is_spent (clock_after run.entry (take place_of run.asks)) ≡ false → IfSome ask.answered (IsOutside (now p) at)
      answered number place_of run ask there here left = owed.in_time.none_answered number place_of run ask there here left

      was : IsSame kept p at o later so.order owed.in_time.none_between answered d.walk so.dues.comes_to e.walk owed.dues.comes_to u → is_some (slice_get boot w.ask.callee) ≡ true
          → is_some (asking_of (open_asks place boot kept p) (record { run = kept.from + e.walk.ended; ask = u.count - 1 })) ≡ true
      was same known =
          subst (λ n. is_some (asking_of (open_asks place boot kept p) (record { run = kept.from + n; ask = u.count - 1 })) ≡ true) same.ended
          (so.keeps_open u.run u.count w.ask (ap (slice_get kept.runs) same.ended ∙ u.there) same.asked w.here known)

  keeps_open : KeepsOpen boot begins first at_boot place kept q e.walk
  keeps_open run count ask there some here known = by_stand (stands_so kept q so.order e.walk owed.dues.comes_to)
    where
      IsOpen : ℕ → Type 0
      IsOpen n = is_some (asking_of (open_asks place boot kept q) (record { run = kept.from + e.walk.ended; ask = n - 1 })) ≡ true

      under_way : (u : Waits) → IsOpen count
      under_way u =
          let w = waits_at kept q so.order e.walk owed.dues.comes_to u in
          let count_is : u.count ≡ count = same_Some u.count count (sym u.some ∙ some) in
          let run_is : u.run ≡ run = same_Some u.run run (sym u.there ∙ there) in
          let ask_is : w.ask ≡ ask = same_Some w.ask ask (sym w.here ∙ (λ j. slice_get (run_is j).asks (count_is j - 1)) ∙ here) in
          subst IsOpen count_is (at_ask u (subst (λ (a : AskRecord). is_some (slice_get boot a.callee) ≡ true) (sym ask_is) known))

      by_stand : IsAtRest kept q so.order e.walk ⊎ Waits → IsOpen count
      by_stand (inl r) = absurd (none_is_some e.walk.asked count r.none some)
      by_stand (inr u) = under_way u

  goes_on : e.is_timely ≡ true → IsInTimeSoFar boot begins first at_boot q (record { place = place; signature = signature; kept = kept; owing = e })
  goes_on timely =
      record {
        timely = timely;
        lawful = so.lawful;
        order = so.order;
        boots = so.boots;
        active = active;
        from_is = came_first place boot begins first signature.procedures at_boot kept p at o going d so.dues so.from_is owed.in_time.activated;
        in_steps = in_steps;
        keeps_open = keeps_open;
        dues = owed.dues;
      }

-- of a member that stands where it stood, with the same signature and record
pub still_in_time : (boot : List View) (begins : Joiner) (first : List ValueTree) (at_boot : ℕ) (p : Past) (at : ℕ) (o : Occurrence) (old new : DuesState) (made : List Effect) (told : Option Difference)
    → IsInTimeSoFar boot begins first at_boot p old → Rises p → now p < at → new.place ≡ old.place → new.signature ≡ old.signature → new.kept ≡ old.kept → new.owing.is_timely ≡ true
    → IsOwed new.place boot begins first new.kept new.signature.procedures at_boot p at o new.owing made told → IsInTimeSoFar boot begins first at_boot (followed p at o) new
still_in_time boot begins first at_boot p at o old new made told so_far rises later place signature kept timely owed =
    goes_on boot begins first at_boot p at o rises later new.place new.signature new.kept old.owing
    (subst (IsInTimeSoFar boot begins first at_boot p) (λ j. record { place = sym place j; signature = sym signature j; kept = sym kept j; owing = old.owing }) so_far)
    new.owing made told owed timely
