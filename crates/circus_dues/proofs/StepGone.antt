-- What has become of the run that was under way, once it has gone on in a step: it has ended, or it waits.
use Rattle.std.proofs.Common.{◌≡◌, ℕ, suc, ◌+◌, ◌-◌, ◌<◌, ◌≤◌, ◌⊎◌, inl, inr, true, List, [], ◌∷◌, ◌++◌, length, map, take, drop, All, Option, None, Some, option_map, refl, sym, ap, subst, ◌∙◌, arith, append_assoc, append-nil, length-append, length-take-le, take-append-drop}
use Rattle.std.specs.Prelude.{slice_get, unwrap_or}
use Rattle.std.proofs.lemmas.List.Elements.{All-nil, All-cons}
use Rattle.circus_value.specs.ValueTree.{ValueTree}
use Rattle.circus_value.specs.declared.caller.Caller.{Caller}
use Rattle.circus_collate.specs.declared.view.View.{View}
use Rattle.circus_transfer.specs.declared.joiner.Joiner.{Joiner}
use Rattle.circus_model.specs.declared.signature.ProcedureShape.{ProcedureShape}
use Rattle.circus_record.specs.declared.record.MemberRecord.{MemberRecord}
use Rattle.circus_record.specs.declared.record.RunRecord.{RunRecord}
use Rattle.circus_fanout.specs.Asking.{Asking}
use Rattle.circus_member_rules.specs.declared.place.Place.{Place}
use Rattle.circus_member_rules.specs.declared.occurrence.AskName.{AskName}
use Rattle.circus_member_rules.specs.declared.occurrence.Effect.{Effect}
use Rattle.circus_member_rules.specs.declared.occurrence.Occurrence.{Occurrence}
use Rattle.circus_member_theory.specs.Past.{Past, followed, now}
use Rattle.circus_member_theory.specs.Order.{made_by_run}
use Rattle.circus_dues.specs.Calls.{IsOutside, request_in, ungiven}
use Rattle.circus_dues.specs.Dues.{HasComeTo, KeepsOpen}
use Rattle.circus_dues.specs.Walk.{IsBefore, IsBy, IsRunInOrder}
use Rattle.circus_dues.specs.Seen.Owing.{gone_on, made_going_on}
use Rattle.circus_dues.specs.declared.owing.Owing.{Owing}
use Rattle.circus_dues.specs.declared.walk.Walk.{Walk}
use Rattle.circus_dues.proofs.CallsPassing.{run_at}
use Rattle.circus_dues.proofs.Stages.{IsGoingOn, IsAmid, HasGone, EndsNow, WaitsNow, IsRefused, new_of}
use Rattle.circus_dues.proofs.StepGoing.{goes}
use Rattle.circus_dues.proofs.StepGoingStill.{goes_none}
use Rattle.circus_dues.proofs.StepLists.{IsSplit, split_at, all_first, all_behind, in_front}
use Rattle.circus_dues.proofs.StepReached.{IsAtRest, IsUnderWay, stands_so}
use Rattle.circus_dues.proofs.StepStanding.{EndsIn, ended_before, ended_now, RestsThen, GoesThen}
use Rattle.circus_dues.proofs.WalkMade.{each_in_order}
use Rattle.circus_dues.proofs.WalkRuns.{run_rises, EndedBefore}
use Rattle.circus_dues.proofs.WalkStarts.{get_behind, all_at}
use Rattle.circus_dues.proofs.WalkStep.{IsBehind, front_or_behind}

module _ (place : Place) (boot : List View) (begins : Joiner) (first : List ValueTree) (procedures : List ProcedureShape) (at_boot : ℕ) (kept : MemberRecord) (p : Past) (at : ℕ) (o : Occurrence)
    (going : IsGoingOn place boot begins at_boot kept p at) where
  abbrev Amid : List (AskName × Asking) → Option ℕ → Owing → Type 0
  Amid new index d = IsAmid place boot begins first procedures at_boot kept p at o new index d

  abbrev Rests : List Effect → Owing → Type 0
  Rests effects e = RestsThen place boot begins first procedures at_boot kept p at o effects e

  abbrev Goes : List Effect → Owing → Type 0
  Goes effects e = GoesThen place boot begins first procedures at_boot kept p at o effects e

  abbrev Refused : Owing → Type 0
  Refused e = IsRefused place boot begins first procedures at_boot kept p at o e

  -- a run that was started later than what came before starts in the step or behind it
  starts_from : (number : ℕ) (run : RunRecord) → slice_get kept.runs number ≡ Some run → now p < run.started → at ≤ run.started
  starts_from number run there late = by_side ((going.between (kept.from + number) run (run_at kept number ∙ there)).0)
    where
      by_side : IsOutside (now p) at run.started → at ≤ run.started
      by_side (inl early) = absurd (omega (arith, early, late))
      by_side (inr high) = high

  -- ---- what that says of the runs by their numbers

  module _ (effects : List Effect) (e : Owing) (r : Rests effects e) where
    pub few_then : length (r.before ++ r.going) ≤ length kept.runs
    few_then = let long = ap (λ (l : List RunRecord). length l) r.are ∙ length-append (r.before ++ r.going) r.rest in omega (arith, long)

    pub passed_then : (m : ℕ) (run : RunRecord) → m < length (r.before ++ r.going) → slice_get kept.runs m ≡ Some run → (run.started < at) × IsBy at run.ended
    passed_then m run below there = by_place (front_or_behind r.before r.going m run (in_front (r.before ++ r.going) r.rest m run below (ap (λ l. slice_get l m) (sym r.are) ∙ there)))
      where
        run_so : IsRunInOrder run
        run_so = all_at IsRunInOrder kept.runs m run (each_in_order 0 kept.runs going.order) there

        by_end : (x : Option ℕ) → IsBefore at x → run.started ≤ unwrap_or x run.started → run.started < at
        by_end None early low = absurd early
        by_end (Some n) early low = omega (arith, early, low)

        by_place : (slice_get r.before m ≡ Some run) ⊎ IsBehind r.before r.going m run → (run.started < at) × IsBy at run.ended
        by_place (inl here) = (let early = all_at (EndedBefore at) r.before m run r.ended here in (by_end run.ended early (run_rises run run_so), ended_before at run early))
        by_place (inr b) = (all_at (λ (x : RunRecord). x.started < at) r.going b.place run r.started b.there, ended_now at run (all_at (EndsIn at) r.going b.place run r.ends b.there))

    pub next_then : (m : ℕ) (run : RunRecord) → length (r.before ++ r.going) ≤ m → slice_get kept.runs m ≡ Some run → at ≤ run.started
    next_then m run up there =
        let front = r.before ++ r.going in
        let n = m - length front in
        let same : length front + n ≡ m = omega (arith, up) in
        all_at (λ (x : RunRecord). at ≤ x.started) r.rest n run r.next
        (sym (get_behind front r.rest n) ∙ ap (λ l. slice_get l (length front + n)) (sym r.are) ∙ ap (slice_get kept.runs) same ∙ there)

  -- ---- of what is kept

  module _ (walk : Walk) (comes : HasComeTo kept p walk) (keeps : KeepsOpen boot begins first at_boot place kept p walk)
      (d : Owing) (walk_is : d.walk ≡ walk) (timely : d.is_timely ≡ true) (requests : d.calls.requests ≡ map (λ (x : ℕ × Caller). x.1) (ungiven begins first kept p ++ request_in at o))
      (amid : Amid [] (option_map (λ _. kept.from + walk.ended) walk.asked) d) where
    abbrev front : List RunRecord
    front = take walk.ended kept.runs

    front_ended : All (EndedBefore at) front
    front_ended = all_first (EndedBefore at) kept.runs walk.ended (λ m run below there. by_end run.ended (comes.ended m run below there))
      where
        by_end : (x : Option ℕ) → IsBy (now p) x → IsBefore at x
        by_end None low = absurd low
        by_end (Some n) low = (let step = going.later in omega (arith, low, step))

    -- where none was under way
    none_went : IsAtRest kept p going.order walk → Rests (made_going_on place kept at d) (gone_on place kept at d)
    none_went r =
        let same = goes_none place kept at d (ap (λ (w : Walk). w.asked) walk_is ∙ r.none) in
        subst (λ e. Rests (made_going_on place kept at d) e) (sym same.0) (subst (λ l. Rests l d) (sym same.1) rests)
      where
        long : length (front ++ []) ≡ walk.ended
        long = ap (λ (l : List RunRecord). length l) (append-nil front) ∙ length-take-le walk.ended kept.runs comes.few

        rests : Rests [] d
        rests =
            record {
              before = front;
              going = [];
              rest = drop walk.ended kept.runs;
              are = sym (ap (λ l. l ++ drop walk.ended kept.runs) (append-nil front) ∙ take-append-drop walk.ended kept.runs);
              ended = front_ended;
              started = All-nil (λ (run : RunRecord). run.started < at);
              ends = All-nil (EndsIn at);
              at_most_one = omega arith;
              next = all_behind (λ (run : RunRecord). at ≤ run.started) kept.runs walk.ended (λ m run up there. starts_from m run there (r.later m run up there));
              timely = timely;
              requests = requests;
              walk = walk_is ∙ (λ j. record { ended = sym long j; asked = r.none j });
              amid = subst (λ index. Amid [] index d) (ap (option_map (λ _. kept.from + walk.ended)) r.none) amid;
              answered = tt;
              made = refl;
            }

    -- where one was
    one_went : IsUnderWay kept p going.order walk
        → Rests (made_going_on place kept at d) (gone_on place kept at d) ⊎ (Goes (made_going_on place kept at d) (gone_on place kept at d) ⊎ Refused (gone_on place kept at d))
    one_went u = by_stage stage
      where
        s : IsSplit kept.runs walk.ended u.run
        s = split_at kept.runs walk.ended u.run u.there

        rest : List RunRecord
        rest = drop (suc walk.ended) kept.runs

        early : u.run.started < at
        early = (let low = u.started in let step = going.later in omega (arith, low, step))

        stage : HasGone place boot begins first procedures at_boot kept p at o (length front) u.run [] d (made_going_on place kept at d) (gone_on place kept at d) ⊎ Refused (gone_on place kept at d)
        stage =
            goes place boot begins first procedures at_boot kept p at o going (length front) u.count u.run d (ap (slice_get kept.runs) s.long ∙ u.there)
            (walk_is ∙ (λ j. record { ended = sym s.long j; asked = u.some j }))
            (u.started, u.goes, u.has_asked)
            (subst (λ w. KeepsOpen boot begins first at_boot place kept p w) (sym walk_is) keeps)
            timely
            (subst (λ index. Amid [] index d) (ap (option_map (λ _. kept.from + walk.ended)) u.some ∙ ap (λ n. Some (kept.from + n)) (sym s.long)) amid)

        new : List (AskName × Asking)
        new = new_of place boot begins first procedures at_boot kept p at o (length front) u.run

        ends_so : HasGone place boot begins first procedures at_boot kept p at o (length front) u.run [] d (made_going_on place kept at d) (gone_on place kept at d)
            → EndsNow place boot begins first procedures at_boot kept p at o (length front) u.run new (gone_on place kept at d) → Rests (made_going_on place kept at d) (gone_on place kept at d)
        ends_so g x =
            let one : length front + 1 ≡ length (front ++ u.run ∷ []) = sym (length-append front (u.run ∷ [])) in
            record {
              before = front;
              going = u.run ∷ [];
              rest = rest;
              are = s.are ∙ sym (append_assoc front (u.run ∷ []) rest);
              ended = front_ended;
              started = All-cons (λ (run : RunRecord). run.started < at) u.run [] early (All-nil (λ (run : RunRecord). run.started < at));
              ends = All-cons (EndsIn at) u.run [] x.ends (All-nil (EndsIn at));
              at_most_one = omega arith;
              next = all_behind (λ (run : RunRecord). at ≤ run.started) kept.runs (suc walk.ended) (λ m run up there. starts_from m run there (u.later m run up there));
              timely = g.timely;
              requests = g.requests ∙ requests;
              walk = x.walk ∙ ap (λ n. record { ended = n; asked = None }) one;
              amid = subst (λ l. Amid l None (gone_on place kept at d)) (sym (append-nil new)) x.amid;
              answered = (g.answered, tt);
              made = g.made ∙ sym (append-nil (made_by_run place boot begins first kept (followed p at o) (kept.from + length front) u.run));
            }

        waits_so : HasGone place boot begins first procedures at_boot kept p at o (length front) u.run [] d (made_going_on place kept at d) (gone_on place kept at d)
            → WaitsNow place boot begins first procedures at_boot kept p at o (length front) u.run new (gone_on place kept at d) → Goes (made_going_on place kept at d) (gone_on place kept at d)
        waits_so g x =
            record {
              before = front;
              run = u.run;
              rest = rest;
              are = s.are;
              ended = front_ended;
              started = early;
              timely = g.timely;
              requests = g.requests ∙ requests;
              waits = x;
              answered = g.answered;
              made = g.made;
            }

        by_stage : HasGone place boot begins first procedures at_boot kept p at o (length front) u.run [] d (made_going_on place kept at d) (gone_on place kept at d) ⊎ Refused (gone_on place kept at d)
            → Rests (made_going_on place kept at d) (gone_on place kept at d) ⊎ (Goes (made_going_on place kept at d) (gone_on place kept at d) ⊎ Refused (gone_on place kept at d))
        by_stage (inl g) = elim g.stands [ inl x ↦ inl (ends_so g x) | inr x ↦ inr (inl (waits_so g x)) ]
        by_stage (inr refused) = inr (inr refused)

    pub gone : Rests (made_going_on place kept at d) (gone_on place kept at d) ⊎ (Goes (made_going_on place kept at d) (gone_on place kept at d) ⊎ Refused (gone_on place kept at d))
    gone = elim (stands_so kept p going.order walk comes) [ inl r ↦ inl (none_went r) | inr u ↦ one_went u ]
