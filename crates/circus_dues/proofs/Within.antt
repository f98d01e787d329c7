-- Of a record that was in time so far all has come by the end of a past where all its runs have ended by then, or the next one waits at its last ask.
use Rattle.std.proofs.Common.{◌≡◌, ℕ, zero, suc, ◌+◌, ◌-◌, ◌<◌, ◌≤◌, inl, inr, true, false, List, [], ◌∷◌, ◌++◌, length, take, Option, None, Some, refl, sym, ap, subst, ◌∙◌, arith, length-append}
use Rattle.std.specs.Prelude.{slice_get, nat_eq, is_none, unwrap_or, IsSomeAnd}
use Rattle.std.specs.Bool.{Decides}
use Rattle.std.specs.Option.{option_map_or}
use Rattle.std.proofs.lemmas.Bool.{true≢false, and_parts, and_from, eqb-true, eq-eqb, cases_lt}
use Rattle.std.proofs.lemmas.Option.{same_Some, slice_get_within}
use Rattle.circus_value.specs.ValueTree.{ValueTree}
use Rattle.circus_collate.specs.declared.view.View.{View}
use Rattle.circus_transfer.specs.declared.joiner.Joiner.{Joiner}
use Rattle.circus_model.specs.Execution.{is_spent}
use Rattle.circus_record.specs.declared.record.AskRecord.{AskRecord}
use Rattle.circus_record.specs.declared.record.MemberRecord.{MemberRecord}
use Rattle.circus_record.specs.declared.record.RunRecord.{RunRecord}
use Rattle.circus_performing.specs.Performing.{clock_after, step_after, state_after}
use Rattle.circus_member_theory.specs.Past.{Past, Rises, now}
use Rattle.circus_member_theory.specs.Timely.{IsMain}
use Rattle.circus_headline_theory.proofs.One.{RunIs, run_is, at_front, none_is_some}
use Rattle.circus_dues.specs.Dues.{DuesState, HasAsked, StandsAt, IsInTimeSoFar, HasAllCome}
use Rattle.circus_dues.specs.Seen.Owing.{waits_last, is_walked}
use Rattle.circus_dues.specs.Walk.{IsBy, IsLater, IsStepOf, IsAnsweredWithin, IsRunInOrder, AskOneByOne, RunOneByOne}
use Rattle.circus_dues.specs.declared.walk.Walk.{Walk}
use Rattle.circus_dues.proofs.SoundRecord.{holds_at}
use Rattle.circus_dues.proofs.Steps.{there_within}
use Rattle.circus_dues.proofs.WalkRuns.{asks_rise, run_rises}
use Rattle.circus_dues.proofs.WalkSteps.{step_below}
use Rattle.circus_dues.proofs.WalkWithin.{split_at, waits_shown}

-- ---- asks and runs that come one by one

-- none is there in an empty list
none_there : {X : Type 0} (n : ℕ) (x : X) → slice_get [] n ≡ Some x → ⊥
none_there n x is = none_is_some (slice_get [] n) x refl is

-- an ask is made in the step in which the one before it was answered
asked_next : (step : ℕ) (asks : List AskRecord) (n : ℕ) (ask next : AskRecord) (m : ℕ) → AskOneByOne step asks
    → slice_get asks n ≡ Some ask → slice_get asks (suc n) ≡ Some next → ask.answered ≡ Some m → next.asked ≡ m
asked_next step [] n ask next m so here there is = absurd (none_there n ask here)
asked_next step (a ∷ []) zero ask next m so here there is = absurd (none_there 0 next there)
asked_next step (a ∷ b ∷ asks) zero ask next m so here there is =
    ap (λ (x : AskRecord). x.asked) (sym (same_Some b next there)) ∙ so.3.0
    ∙ ap (λ (x : AskRecord). unwrap_or x.answered step) (same_Some a ask here) ∙ ap (λ o. unwrap_or o step) is
asked_next step (a ∷ asks) (suc n) ask next m so here there is = asked_next (unwrap_or a.answered step) asks n ask next m so.3 here there is

-- behind one that waits there is none
none_behind : (step : ℕ) (asks : List AskRecord) (n : ℕ) (ask : AskRecord) → AskOneByOne step asks → slice_get asks n ≡ Some ask → ask.answered ≡ None → length asks ≡ suc n
none_behind step [] n ask so here none = absurd (none_there n ask here)
none_behind step (a ∷ asks) zero ask so here none =
    ap (λ (l : List AskRecord). suc (length l)) (so.2 (ap (λ (x : AskRecord). x.answered) (same_Some a ask here) ∙ none))
none_behind step (a ∷ asks) (suc n) ask so here none = ap suc (none_behind (unwrap_or a.answered step) asks n ask so.3 here none)

-- each was answered by the step of the last answer
answered_by : (step : ℕ) (asks : List AskRecord) (n : ℕ) (ask : AskRecord) (m : ℕ) → AskOneByOne step asks → slice_get asks n ≡ Some ask → ask.answered ≡ Some m → m ≤ step_after step asks
answered_by step [] n ask m so here is = absurd (none_there n ask here)
answered_by step (a ∷ asks) zero ask m so here is =
    let same = ap (λ (x : AskRecord). unwrap_or x.answered step) (same_Some a ask here) ∙ ap (λ o. unwrap_or o step) is in
    let low = asks_rise (unwrap_or a.answered step) asks so.3 in
    omega (arith, same, low)
answered_by step (a ∷ asks) (suc n) ask m so here is = answered_by (unwrap_or a.answered step) asks n ask m so.3 here is

in_order : (step : ℕ) (runs : List RunRecord) (n : ℕ) (run : RunRecord) → RunOneByOne step runs → slice_get runs n ≡ Some run → IsRunInOrder run
in_order step [] n run so here = absurd (none_there n run here)
in_order step (r ∷ runs) zero run so here = subst IsRunInOrder (same_Some r run here) so.1
in_order step (r ∷ runs) (suc n) run so here = in_order (unwrap_or r.ended r.started) runs n run so.3 here

-- behind a run that goes on there is none
no_run_behind : (step : ℕ) (runs : List RunRecord) (n : ℕ) (run : RunRecord) → RunOneByOne step runs → slice_get runs n ≡ Some run → run.ended ≡ None → length runs ≡ suc n
no_run_behind step [] n run so here none = absurd (none_there n run here)
no_run_behind step (r ∷ runs) zero run so here none =
    ap (λ (l : List RunRecord). suc (length l)) (so.2 (ap (λ (x : RunRecord). x.ended) (same_Some r run here) ∙ none))
no_run_behind step (r ∷ runs) (suc n) run so here none = ap suc (no_run_behind (unwrap_or r.ended r.started) runs n run so.3 here none)

-- ended by a step, in this one
record EndedIn (step : ℕ) (o : Option ℕ) : Type 0 where
  at : ℕ
  is : o ≡ Some at
  low : at ≤ step

ended_in : (step : ℕ) (o : Option ℕ) → IsBy step o → EndedIn step o
ended_in step None by = absurd by
ended_in step (Some n) by = record { at = n; is = refl; low = by }

is_none_of : {X : Type 0} (o : Option X) → is_none o ≡ true → o ≡ None
is_none_of None is = refl
is_none_of (Some x) is = absurd (true≢false (sym is))

module _ (boot : List View) (begins : Joiner) (first : List ValueTree) (at_boot : ℕ) (p : Past) (d : DuesState) (rises : Rises p) (h : IsInTimeSoFar boot begins first at_boot p d) where
  abbrev kept : MemberRecord
  kept = d.kept

  abbrev walk : Walk
  walk = d.owing.walk

  -- what the record says of a run came in the steps of the past
  record HasRunCome (number : ℕ) (run : RunRecord) : Type 0 where
    started : IsStepOf run.started p
    answers : (place_of : ℕ) (ask : AskRecord) → slice_get run.asks place_of ≡ Some ask → is_spent (clock_after run.entry (take place_of run.asks)) ≡ false → IsAnsweredWithin p ask

  module _ (number : ℕ) (run : RunRecord) (there : slice_get kept.runs number ≡ Some run) where
    order : IsRunInOrder run
    order = in_order 0 kept.runs number run h.order there

    -- its asks came, where those that were answered were so by now
    by_answers : (place_of : ℕ) (ask : AskRecord) → slice_get run.asks place_of ≡ Some ask → is_spent (clock_after run.entry (take place_of run.asks)) ≡ false
        → ((step : ℕ) → ask.answered ≡ Some step → step ≤ now p) → IsAnsweredWithin p ask
    by_answers place_of ask here left low =
        record {
          answered = λ step is. h.in_steps.answers number place_of run ask step there here left is (low step is);
          waits = waits_shown h.lawful.behaves h.lawful.from kept h.lawful.is number place_of run ask there here;
        }

    -- one that has ended
    ended_came : number < walk.ended → HasRunCome number run
    ended_came below =
        let e = ended_in (now p) run.ended (h.dues.comes_to.ended number run below there) in
        let low = e.low in
        let at : unwrap_or run.ended run.started ≡ e.at = ap (λ o. unwrap_or o run.started) e.is in
        let began = run_rises run order in
        let last = order.ended_so e.at e.is in
        record {
          started = h.in_steps.starts number run there (omega (arith, low, at, began));
          answers = λ place_of ask here left. by_answers place_of ask here left (λ step is. (let so = answered_by run.started run.asks place_of ask step order.asks_so here is in omega (arith, so, last, low)));
        }

    -- one that doesn't end waits at its last ask
    last_waits : (place_of : ℕ) (ask : AskRecord) → run.ended ≡ None → slice_get run.asks place_of ≡ Some ask → length run.asks ≡ suc place_of → ask.answered ≡ None
    last_waits place_of ask none here long = by_run (run_is h.lawful.behaves h.lawful.from kept h.lawful.is x.0 x.1 run x.2)
      where
        x : (front : List RunRecord) × (rest : List RunRecord) × (kept.runs ≡ front ++ run ∷ rest)
        x = split_at kept.runs number run there

        by_run : RunIs h.lawful.behaves (state_after h.lawful.from x.0) run → ask.answered ≡ None
        by_run (inl e) = absurd (none_is_some run.ended (step_after run.started run.asks) none e.ended_is)
        by_run (inr o) =
            let many : length run.asks ≡ length o.before + 1 = ap length o.asks_are ∙ length-append o.before (o.ask ∷ []) in
            let number_is : place_of ≡ length o.before = omega (arith, many, long) in
            let same : Some o.ask ≡ Some ask = sym (at_front o.before o.ask []) ∙ ap (λ l. slice_get l (length o.before)) (sym o.asks_are) ∙ ap (slice_get run.asks) (sym number_is) ∙ here in
            ap (λ (a : AskRecord). a.answered) (sym (same_Some o.ask ask same)) ∙ o.waits.not_answered

    -- it made all its asks
    waiting_came : (count : ℕ) → run.started ≤ now p → HasAsked p run count → run.ended ≡ None → count ≡ length run.asks → HasRunCome number run
    waiting_came count began asked none all =
        record {
          started = h.in_steps.starts number run there began;
          answers = λ place_of ask here left. by_answers place_of ask here left (λ step is. low place_of ask here step is (slice_get run.asks (suc place_of)) refl);
        }
      where
        low : (place_of : ℕ) (ask : AskRecord) → slice_get run.asks place_of ≡ Some ask → (step : ℕ) → ask.answered ≡ Some step
            → (o : Option AskRecord) → slice_get run.asks (suc place_of) ≡ o → step ≤ now p
        low place_of ask here step is (Some next) behind =
            let made = asked_next run.started run.asks place_of ask next step order.asks_so here behind is in
            let within = slice_get_within run.asks (suc place_of) next behind in
            let by = asked.made (suc place_of) next (omega (arith, within, all)) behind in
            omega (arith, made, by)
        low place_of ask here step is None behind =
            let within = slice_get_within run.asks place_of ask here in
            absurd
            (elim (cases_lt (suc place_of) (length run.asks)) [
              | inl below ↦ there_within run.asks (suc place_of) below behind
              | inr high ↦ none_is_some ask.answered step (last_waits place_of ask none here (omega (arith, within, high))) is
            ])

  -- ---- all runs

  abbrev AllWithin : Type 0
  AllWithin = HasAllCome boot begins first at_boot p d

  within_by : ((number : ℕ) (run : RunRecord) → slice_get kept.runs number ≡ Some run → walk.ended ≤ number → HasRunCome number run) → AllWithin
  within_by behind =
      record {
        starts = λ number run _ there. (came number run there).started;
        answers = λ number place_of run ask there here left. (came number run there).answers place_of ask here left;
      }
    where
      came : (number : ℕ) (run : RunRecord) → slice_get kept.runs number ≡ Some run → HasRunCome number run
      came number run there =
          elim (cases_lt number walk.ended) [
            | inl below ↦ ended_came number run there below
            | inr high ↦ behind number run there high
          ]

  stands : (o : Option RunRecord) (a : Option ℕ) → slice_get kept.runs walk.ended ≡ o → walk.asked ≡ a → StandsAt p o a
  stands o a there asks = subst (λ b. StandsAt p o b) asks (subst (λ r. StandsAt p r walk.asked) there h.dues.comes_to.next)

  walked_within : (o : Option RunRecord) (a : Option ℕ) → slice_get kept.runs walk.ended ≡ o → walk.asked ≡ a → option_map_or (waits_last a) o (is_none a) ≡ true → AllWithin
  walked_within None a there asks is =
      within_by (λ number run here high. (let low = slice_get_within kept.runs number run here in absurd (there_within kept.runs walk.ended (omega (arith, low, high)) there)))
  walked_within (Some run) None there asks is = absurd (true≢false (sym (and_parts (is_none run.ended) false is).1))
  walked_within (Some run) (Some count) there asks is =
      let both = and_parts (is_none run.ended) (nat_eq count (length run.asks)) is in
      let none = is_none_of run.ended both.0 in
      let at = stands (Some run) (Some count) there asks in
      let one = no_run_behind 0 kept.runs walk.ended run h.order there none in
      let came = waiting_came walk.ended run there count at.0 at.2 none (eqb-true count (length run.asks) both.1) in
      within_by (λ number other here high.
      let low = slice_get_within kept.runs number other here in
      let same : number ≡ walk.ended = omega (arith, low, high, one) in
      let is_it : run ≡ other = same_Some run other (sym there ∙ ap (slice_get kept.runs) (sym same) ∙ here) in
      subst (HasRunCome number) is_it (subst (λ n. HasRunCome n run) (sym same) came))

  -- and so it is only then
  module _ (within : AllWithin) where
    starts_by : (run : RunRecord) → slice_get kept.runs walk.ended ≡ Some run → run.started ≤ now p
    starts_by run there =
        elim (cases_lt walk.ended at_boot) [
          | inl below ↦ (let is = main below in omega (arith, is))
          | inr high ↦ step_below p run.started rises (within.starts walk.ended run high there)
        ]
      where
        main : walk.ended < at_boot → run.started ≡ 0
        main below = (subst (λ o. IsSomeAnd o (IsMain d.place.troupe boot)) there (h.boots walk.ended below)).0

    unanswered : (run : RunRecord) (count : ℕ) (ask : AskRecord) → slice_get kept.runs walk.ended ≡ Some run → HasAsked p run count → slice_get run.asks (count - 1) ≡ Some ask → IsLater (now p) ask.answered
        → (o : Option ℕ) → ask.answered ≡ o → ask.answered ≡ None
    unanswered run count ask there asked here later None is = is
    unanswered run count ask there asked here later (Some step) is =
        let low = step_below p step rises ((within.answers walk.ended (count - 1) run ask there here asked.calls_left).answered step is) in
        let high : now p < step = subst (IsLater (now p)) is later in
        absurd (omega (arith, low, high))

    goes_on : (run : RunRecord) (place_of : ℕ) (ask : AskRecord) → slice_get kept.runs walk.ended ≡ Some run → slice_get run.asks place_of ≡ Some ask → ask.answered ≡ None
        → (o : Option ℕ) → run.ended ≡ o → is_none o ≡ true
    goes_on run place_of ask there here none None is = refl
    goes_on run place_of ask there here none (Some step) is =
        absurd
        (true≢false
        (sym (ap is_none none)
        ∙ holds_at (λ (a : AskRecord). is_none a.answered ≡ false) run.asks place_of ask ((order walk.ended run there).answered_so step is) here))

    waits_there : (run : RunRecord) (count : ℕ) → slice_get kept.runs walk.ended ≡ Some run → HasAsked p run count → (o : Option AskRecord) → slice_get run.asks (count - 1) ≡ o → waits_last (Some count) run ≡ true
    waits_there run count there asked None here = absurd (subst (λ o. IsSomeAnd o (λ (a : AskRecord). IsLater (now p) a.answered)) here asked.waits)
    waits_there run count there asked (Some ask) here =
        let later = subst (λ o. IsSomeAnd o (λ (a : AskRecord). IsLater (now p) a.answered)) here asked.waits in
        let none = unanswered run count ask there asked here later ask.answered refl in
        let long = none_behind run.started run.asks (count - 1) ask (order walk.ended run there).asks_so here none in
        let some = asked.some in
        and_from (is_none run.ended) (nat_eq count (length run.asks)) (goes_on run (count - 1) ask there here none run.ended refl)
        (eq-eqb count (length run.asks) (omega (arith, long, some)))

    within_walked : (o : Option RunRecord) (a : Option ℕ) → slice_get kept.runs walk.ended ≡ o → walk.asked ≡ a → option_map_or (waits_last a) o (is_none a) ≡ true
    within_walked None None there asks = refl
    within_walked None (Some count) there asks = absurd (stands None (Some count) there asks)
    within_walked (Some run) None there asks =
        let later = stands (Some run) None there asks in
        let by = starts_by run there in
        absurd (omega (arith, later, by))
    within_walked (Some run) (Some count) there asks =
        let at = stands (Some run) (Some count) there asks in
        waits_there run count there at.2 (slice_get run.asks (count - 1)) refl

  pub all_come : Decides (is_walked kept d.owing) AllWithin
  all_come = (walked_within (slice_get kept.runs walk.ended) walk.asked refl refl, λ within. within_walked within (slice_get kept.runs walk.ended) walk.asked refl refl)
