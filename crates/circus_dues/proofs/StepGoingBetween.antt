-- Between two steps no run of a record was started, or ended; or the next one was started, or the ask that waits was answered.
use Rattle.std.proofs.Common.{◌≡◌, ℕ, ◌+◌, ◌-◌, ◌<◌, ◌≤◌, ◌⊎◌, inl, inr, false, true≢false, List, take, length, Option, None, Some, refl, sym, ap, subst, ◌∙◌, arith}
use Rattle.std.specs.Prelude.{slice_get, is_none, unwrap_or, IfSome, IsSomeAnd}
use Rattle.std.proofs.lemmas.Bool.{cases_lt}
use Rattle.std.proofs.lemmas.Option.{same_Some, slice_get_within}
use Rattle.circus_value.specs.ValueTree.{ValueTree}
use Rattle.circus_collate.specs.declared.view.View.{View}
use Rattle.circus_transfer.specs.declared.joiner.Joiner.{Joiner}
use Rattle.circus_model.specs.Execution.{is_spent}
use Rattle.circus_model.specs.declared.signature.ProcedureShape.{ProcedureShape}
use Rattle.circus_record.specs.declared.record.AskRecord.{AskRecord}
use Rattle.circus_record.specs.declared.record.MemberRecord.{MemberRecord}
use Rattle.circus_record.specs.declared.record.RunRecord.{RunRecord}
use Rattle.circus_performing.specs.Performing.{clock_after}
use Rattle.circus_member_rules.specs.declared.place.Place.{Place}
use Rattle.circus_member_rules.specs.declared.occurrence.Occurrence.{Occurrence}
use Rattle.circus_member_theory.specs.Past.{Past, now}
use Rattle.circus_dues.specs.Calls.{IsOutside, NoneBetween}
use Rattle.circus_dues.specs.Dues.{StandsAt, HasAsked, HasComeTo}
use Rattle.circus_dues.specs.Walk.{IsLater, IsBy, IsNotBefore, IsRunInOrder, RunOneByOne}
use Rattle.circus_dues.specs.declared.walk.Walk.{Walk}
use Rattle.circus_dues.proofs.CallsOpen.{none_between}
use Rattle.circus_dues.proofs.CallsPassing.{run_at}
use Rattle.circus_dues.proofs.OneByOne.{alone_of}
use Rattle.circus_dues.proofs.Stages.{Refuses}
use Rattle.circus_dues.proofs.StepGoingAsks.{IsPlaced, placed}
use Rattle.circus_dues.proofs.WalkMade.{each_in_order}
use Rattle.circus_dues.proofs.WalkRuns.{goes_on_by_ask, run_rises}
use Rattle.circus_dues.proofs.WalkStarts.{all_at}

module _ (kept : MemberRecord) (p : Past) (at : ℕ) (walk : Walk) where
  -- the next run was started between
  pub record IsStartedBetween : Type 0 where
    pub run : RunRecord
    pub none : walk.asked ≡ None
    pub there : slice_get kept.runs walk.ended ≡ Some run
    pub later : now p < run.started
    pub before : run.started < at

  -- or the ask that waits was answered
  pub record IsAnsweredBetween : Type 0 where
    pub count : ℕ
    pub run : RunRecord
    pub ask : AskRecord
    pub step : ℕ
    pub asked : walk.asked ≡ Some count
    pub there : slice_get kept.runs walk.ended ≡ Some run
    pub here : slice_get run.asks (count - 1) ≡ Some ask
    pub calls_left : is_spent (clock_after run.entry (take (count - 1) run.asks)) ≡ false
    pub answered : ask.answered ≡ Some step
    pub later : now p < step
    pub before : step < at

  -- ---- of runs that come one after the other

  module _ (order : RunOneByOne 0 kept.runs) (h : HasComeTo kept p walk) where
    run_so : (m : ℕ) (run : RunRecord) → slice_get kept.runs m ≡ Some run → IsRunInOrder run
    run_so m run there = all_at IsRunInOrder kept.runs m run (each_in_order 0 kept.runs order) there

    -- one that has ended was neither started nor ended between
    is_over : (run : RunRecord) → IsRunInOrder run → IsBy (now p) run.ended → (run.started ≤ now p) × IfSome run.ended (IsOutside (now p) at)
    is_over run so by = by_end run.ended by (run_rises run so)
      where
        by_end : (x : Option ℕ) → IsBy (now p) x → run.started ≤ unwrap_or x run.started → (run.started ≤ now p) × IfSome x (IsOutside (now p) at)
        by_end None by low = absurd by
        by_end (Some n) by low = (omega (arith, by, low), inl by)

    -- so none was where the next one starts later
    none_next : IfSome (slice_get kept.runs walk.ended) (λ run. at ≤ run.started) → NoneBetween kept (now p) at
    none_next next = none_between kept (alone_of kept order) (now p) at walk.ended h.few (λ m run is there. is_over run (run_so m run there) (h.ended m run (omega (arith, is)) there)) next

    -- or where the one that is under way ends later
    none_goes : (run : RunRecord) → slice_get kept.runs walk.ended ≡ Some run → run.started ≤ now p → IfSome run.ended (λ step. at ≤ step) → NoneBetween kept (now p) at
    none_goes run there started late =
        none_between kept (alone_of kept order) (now p) at (walk.ended + 1) few (λ m other is here. last m other (omega (arith, is)) here) (by_next (slice_get kept.runs (walk.ended + 1)) refl)
      where
        few : walk.ended + 1 ≤ length kept.runs
        few = (let within = slice_get_within kept.runs walk.ended run there in omega (arith, within))

        outside : (x : Option ℕ) → IfSome x (λ step. at ≤ step) → IfSome x (IsOutside (now p) at)
        outside None high = tt
        outside (Some n) high = inr high

        last : (m : ℕ) (other : RunRecord) → m ≡ walk.ended → slice_get kept.runs m ≡ Some other → (other.started ≤ now p) × IfSome other.ended (IsOutside (now p) at)
        last m other is here =
            subst (λ (r : RunRecord). (r.started ≤ now p) × IfSome r.ended (IsOutside (now p) at)) (same_Some run other (sym there ∙ ap (slice_get kept.runs) (sym is) ∙ here))
            (started, outside run.ended late)

        by_end : (other : RunRecord) (x : Option ℕ) → IfSome x (λ step. at ≤ step) → IsSomeAnd x (λ step. step ≤ other.started) → at ≤ other.started
        by_end other None high low = absurd low
        by_end other (Some n) high low = omega (arith, high, low)

        by_next : (x : Option RunRecord) → slice_get kept.runs (walk.ended + 1) ≡ x → IfSome x (λ r. at ≤ r.started)
        by_next None is = tt
        by_next (Some other) is = by_end other run.ended late ((alone_of kept order).next walk.ended run other there is)

    -- one that ended between had its ask answered by then
    answered_by : (run : RunRecord) (count : ℕ) → slice_get kept.runs walk.ended ≡ Some run → walk.asked ≡ Some count → HasAsked p run count → (n : ℕ) → run.ended ≡ Some n → n < at → IsAnsweredBetween
    answered_by run count there asked has n ends low = by_ask (slice_get run.asks (count - 1)) refl has.waits
      where
        so : IsRunInOrder run
        so = run_so walk.ended run there

        by_answer : (ask : AskRecord) → slice_get run.asks (count - 1) ≡ Some ask → IsPlaced run.asks (count - 1) ask → (x : Option ℕ) → ask.answered ≡ x → IsLater (now p) x → IsAnsweredBetween
        by_answer ask here s None is late =
            absurd (true≢false (sym (ap is_none is) ∙ all_at (λ (a : AskRecord). is_none a.answered ≡ false) run.asks (count - 1) ask (so.answered_so n ends) here))
        by_answer ask here s (Some m) is late =
            record {
              count = count;
              run = run;
              ask = ask;
              step = m;
              asked = asked;
              there = there;
              here = here;
              calls_left = has.calls_left;
              answered = is;
              later = late;
              before = omega (arith, by, low);
            }
          where
            by : m ≤ n
            by = subst (IsNotBefore m) ends (goes_on_by_ask m run s.front ask s.rest so s.are (subst (IsNotBefore m) (sym is) (omega arith)))

        by_ask : (x : Option AskRecord) → slice_get run.asks (count - 1) ≡ x → IsSomeAnd x (λ (ask : AskRecord). IsLater (now p) ask.answered) → IsAnsweredBetween
        by_ask None here late = absurd late
        by_ask (Some ask) here late = by_answer ask here (placed run.asks (count - 1) ask here) ask.answered refl late

    pub not_between : NoneBetween kept (now p) at ⊎ (IsStartedBetween ⊎ IsAnsweredBetween)
    not_between = by_stand (slice_get kept.runs walk.ended) refl walk.asked refl h.next
      where
        later_next : (x : Option RunRecord) → slice_get kept.runs walk.ended ≡ x → IfSome x (λ run. at ≤ run.started) → NoneBetween kept (now p) at
        later_next x is next = none_next (subst (λ y. IfSome y (λ (run : RunRecord). at ≤ run.started)) (sym is) next)

        by_start : (run : RunRecord) → slice_get kept.runs walk.ended ≡ Some run → walk.asked ≡ None → now p < run.started → (run.started < at) ⊎ (at ≤ run.started) → NoneBetween kept (now p) at ⊎ (IsStartedBetween ⊎ IsAnsweredBetween)
        by_start run there none later (inl low) = inr (inl (record { run = run; none = none; there = there; later = later; before = low }))
        by_start run there none later (inr high) = inl (later_next (Some run) there high)

        goes_later : (run : RunRecord) → slice_get kept.runs walk.ended ≡ Some run → run.started ≤ now p → (x : Option ℕ) → run.ended ≡ x → IfSome x (λ step. at ≤ step) → NoneBetween kept (now p) at
        goes_later run there started x is late = none_goes run there started (subst (λ y. IfSome y (λ step. at ≤ step)) (sym is) late)

        by_end : (run : RunRecord) (count : ℕ) → slice_get kept.runs walk.ended ≡ Some run → walk.asked ≡ Some count → run.started ≤ now p → HasAsked p run count → (x : Option ℕ) → run.ended ≡ x
            → NoneBetween kept (now p) at ⊎ (IsStartedBetween ⊎ IsAnsweredBetween)
        by_end run count there asked started has None is = inl (goes_later run there started None is tt)
        by_end run count there asked started has (Some n) is = elim (cases_lt n at) [
          | inl low ↦ inr (inr (answered_by run count there asked has n is low))
          | inr high ↦ inl (goes_later run there started (Some n) is high)
        ]

        by_stand : (x : Option RunRecord) → slice_get kept.runs walk.ended ≡ x → (y : Option ℕ) → walk.asked ≡ y → StandsAt p x y → NoneBetween kept (now p) at ⊎ (IsStartedBetween ⊎ IsAnsweredBetween)
        by_stand None is None asked stands = inl (later_next None is tt)
        by_stand None is (Some count) asked stands = absurd stands
        by_stand (Some run) is None asked stands = by_start run is asked stands (cases_lt run.started at)
        by_stand (Some run) is (Some count) asked stands = by_end run count is asked stands.0 stands.2 run.ended refl

  -- ---- a step behind these isn't in time

  module _ (place : Place) (boot : List View) (begins : Joiner) (first : List ValueTree) (procedures : List ProcedureShape) (at_boot : ℕ) (o : Occurrence) where
    inside : (n : ℕ) → now p < n → n < at → IsOutside (now p) at n → ⊥
    inside n later before (inl low) = omega (arith, later, low)
    inside n later before (inr high) = omega (arith, before, high)

    pub refused_between : IsStartedBetween ⊎ IsAnsweredBetween → Refuses place boot begins first procedures at_boot kept p at o
    refused_between (inl s) g = inside s.run.started s.later s.before (g.none_between (kept.from + walk.ended) s.run (run_at kept walk.ended ∙ s.there)).0
    refused_between (inr a) g =
        inside a.step a.later a.before (subst (λ x. IfSome x (IsOutside (now p) at)) a.answered (g.none_answered walk.ended (a.count - 1) a.run a.ask a.there a.here a.calls_left))
