-- A record is lawful where each run is, one after the other.
use Rattle.std.proofs.Common.{◌≡◌, ℕ, ◌+◌, ◌⊎◌, inl, inr, false, List, [], ◌∷◌, ◌++◌, length, take, Option, None, Some, refl, sym, ap, subst, ◌∙◌, append_assoc, append-nil, length-append}
use Rattle.std.specs.Prelude.{slice_get, unwrap_or}
use Rattle.circus_value.specs.ValueTree.{ValueTree}
use Rattle.circus_value.specs.declared.outcome.Outcome.{Outcome}
use Rattle.circus_model.specs.Behaviour.{Behaviour}
use Rattle.circus_model.specs.Lawful.{CanStart}
use Rattle.circus_record.specs.declared.record.AskRecord.{AskRecord}
use Rattle.circus_record.specs.declared.record.MemberRecord.{MemberRecord}
use Rattle.circus_record.specs.declared.record.RunRecord.{RunRecord}
use Rattle.circus_performing.specs.Performing.{clock_after, step_after, state_after, replies_of, is_active}
use Rattle.circus_performing.specs.Record.{start_of, turns, IsMade, IsAnswered, IsWaiting, HasMade, HasEnded, IsOpen, HaveEnded, count_after, IsIdle, IsPerforming, IsRecord}
use Rattle.circus_performing.proofs.Ends.{latest_more, replies_more}
use Rattle.circus_performing.proofs.Records.{ended_more}
use Rattle.circus_performing.proofs.Turns.{made_more}
use Rattle.circus_dues.specs.WalkRecord.{IsTurnOf, HasReply, StillWaits, GoesToEnd, GoesToWait, GoesOn, RunsToEnd, RunsToWait, state_asked, GoOn}
use Rattle.circus_headline_theory.proofs.One.{at_front, take_front}

-- ---- a run

module _ (b : Behaviour) (state : List ValueTree) (run : RunRecord) where
  abbrev Made : List AskRecord → Type 0
  Made made = HasMade b state (start_of run) run.started made

  nothing_made : CanStart b.declared state run.procedure run.arguments → Made []
  nothing_made can = record { may_start = can; replies_fit = tt; asks_so = λ number ask at. absurd (let clash : ◌≡◌ {A = Option AskRecord} None (Some ask) = at in cc) }

  -- ---- what an ask is behind others, in terms of what these left

  turn_of : (made : List AskRecord) (ask : AskRecord) → IsMade b state (start_of run) run.started made ask → IsTurnOf b state run (replies_of made) (clock_after run.entry made) (step_after run.started made) ask
  turn_of made ask is = record { turn = is.turn; index = is.index; asked = is.asked }

  made_of : (made : List AskRecord) (ask : AskRecord) → IsTurnOf b state run (replies_of made) (clock_after run.entry made) (step_after run.started made) ask → IsMade b state (start_of run) run.started made ask
  made_of made ask is = record { turn = is.turn; index = is.index; asked = is.asked }

  reply_of : (made : List AskRecord) (ask : AskRecord) → IsAnswered b (start_of run) made ask → HasReply b state run (clock_after run.entry made) ask
  reply_of made ask a = record { reply = a.reply; after = a.after; answered = a.answered; reply_is = a.reply_is; after_is = a.after_is; answered_is = a.answered_is; fits = a.fits; refused = a.refused }

  answered_of : (made : List AskRecord) (ask : AskRecord) → HasReply b state run (clock_after run.entry made) ask → IsAnswered b (start_of run) made ask
  answered_of made ask a = record { reply = a.reply; after = a.after; answered = a.answered; reply_is = a.reply_is; after_is = a.after_is; answered_is = a.answered_is; fits = a.fits; refused = a.refused }

  -- what one more leaves
  record Left (made : List AskRecord) (ask : AskRecord) (reply : Outcome) (after : List ℕ) (answered : ℕ) : Type 0 where
    replies : replies_of (made ++ ask ∷ []) ≡ replies_of made ++ reply ∷ []
    clock : clock_after run.entry (made ++ ask ∷ []) ≡ after
    step : step_after run.started (made ++ ask ∷ []) ≡ answered

  left : (made : List AskRecord) (ask : AskRecord) (clock : List ℕ) (a : HasReply b state run clock ask) → Left made ask a.reply a.after a.answered
  left made ask clock a =
      record {
        replies = replies_more made ask a.reply a.reply_is;
        clock = latest_more (λ (x : AskRecord). x.after) run.entry made ask ∙ ap (λ o. unwrap_or o (clock_after run.entry made)) a.after_is;
        step = latest_more (λ (x : AskRecord). x.answered) run.started made ask ∙ ap (λ o. unwrap_or o (step_after run.started made)) a.answered_is;
      }

  -- ---- to its end

  ends_on : HasEnded b state run → (made asks : List AskRecord) → run.asks ≡ made ++ asks → GoesToEnd b state run (replies_of made) (clock_after run.entry made) (step_after run.started made) asks
  ends_on e made [] are =
      let all : run.asks ≡ made = are ∙ append-nil made in
      record {
        outcome = e.outcome;
        after = e.after;
        turn = ap (λ l. turns b state (start_of run) (replies_of l)) (sym all) ∙ e.turn;
        outcome_is = e.outcome_is;
        state_is = e.state_is;
        end_is = e.end_is ∙ ap (λ l. Some (clock_after run.entry l)) all;
        ended_is = e.ended_is ∙ ap (λ l. Some (step_after run.started l)) all;
      }
  ends_on e made (ask ∷ rest) are =
      let so = e.made.asks_so (length made) ask (ap (λ l. slice_get l (length made)) are ∙ at_front made ask rest) in
      let front : take (length made) run.asks ≡ made = ap (take (length made)) are ∙ take_front made (ask ∷ rest) in
      let a = reply_of made ask (subst (λ l. IsAnswered b (start_of run) l ask) front so.1) in
      let l = left made ask (clock_after run.entry made) a in (
        turn_of made ask (subst (λ l. IsMade b state (start_of run) run.started l ask) front so.0),
        (
          a,
          subst (λ s. GoesToEnd b state run (replies_of made ++ a.reply ∷ []) a.after s rest) l.step
              (subst (λ c. GoesToEnd b state run (replies_of made ++ a.reply ∷ []) c (step_after run.started (made ++ ask ∷ [])) rest) l.clock
              (subst (λ r. GoesToEnd b state run r (clock_after run.entry (made ++ ask ∷ [])) (step_after run.started (made ++ ask ∷ [])) rest) l.replies
              (ends_on e (made ++ ask ∷ []) rest (are ∙ sym (append_assoc made (ask ∷ []) rest))))),
        ),
      )

  pub to_end : HasEnded b state run → RunsToEnd b state run
  to_end e = record { may_start = e.made.may_start; goes = ends_on e [] run.asks refl }

  ended_by : (made asks : List AskRecord) → run.asks ≡ made ++ asks → Made made → GoesToEnd b state run (replies_of made) (clock_after run.entry made) (step_after run.started made) asks → HasEnded b state run
  ended_by made [] are h goes =
      let all : made ≡ run.asks = sym (are ∙ append-nil made) in
      record {
        outcome = goes.outcome;
        after = goes.after;
        made = subst (HasMade b state (start_of run) run.started) all h;
        turn = ap (λ l. turns b state (start_of run) (replies_of l)) (sym all) ∙ goes.turn;
        outcome_is = goes.outcome_is;
        state_is = goes.state_is;
        end_is = goes.end_is ∙ ap (λ l. Some (clock_after run.entry l)) all;
        ended_is = goes.ended_is ∙ ap (λ l. Some (step_after run.started l)) all;
      }
  ended_by made (ask ∷ rest) are h goes =
      let a = goes.1.0 in
      let l = left made ask (clock_after run.entry made) a in
      ended_by (made ++ ask ∷ []) rest (are ∙ sym (append_assoc made (ask ∷ []) rest))
      (made_more b state (start_of run) run.started made ask h (made_of made ask goes.0) (answered_of made ask a))
      (subst (λ r. GoesToEnd b state run r (clock_after run.entry (made ++ ask ∷ [])) (step_after run.started (made ++ ask ∷ [])) rest) (sym l.replies)
      (subst (λ c. GoesToEnd b state run (replies_of made ++ a.reply ∷ []) c (step_after run.started (made ++ ask ∷ [])) rest) (sym l.clock)
      (subst (λ s. GoesToEnd b state run (replies_of made ++ a.reply ∷ []) a.after s rest) (sym l.step) goes.1.1)))

  pub from_end : RunsToEnd b state run → HasEnded b state run
  from_end r = ended_by [] run.asks refl (nothing_made r.may_start) r.goes

  -- ---- or until it waits

  waits_on : (o : IsOpen b state run) (made asks : List AskRecord) → o.before ≡ made ++ asks → GoesToWait b state run (replies_of made) (clock_after run.entry made) (step_after run.started made) (asks ++ o.ask ∷ [])
  waits_on o made [] are =
      let all : o.before ≡ made = are ∙ append-nil made in
      let waits = subst (λ l. IsWaiting (start_of run) l o.ask) all o.waits in (
        turn_of made o.ask (subst (λ l. IsMade b state (start_of run) run.started l o.ask) all o.asking),
        inl (
          record {
            no_reply = waits.no_reply;
            no_clock = waits.no_clock;
            not_answered = waits.not_answered;
            calls_left = waits.calls_left;
            no_outcome = o.no_outcome;
            no_state = o.no_state;
            no_end = o.no_end;
            not_ended = o.not_ended;
          },
          refl,
        ),
      )
  waits_on o made (ask ∷ rest) are =
      let so = o.made.asks_so (length made) ask (ap (λ l. slice_get l (length made)) are ∙ at_front made ask rest) in
      let front : take (length made) o.before ≡ made = ap (take (length made)) are ∙ take_front made (ask ∷ rest) in
      let a = reply_of made ask (subst (λ l. IsAnswered b (start_of run) l ask) front so.1) in
      let l = left made ask (clock_after run.entry made) a in (
        turn_of made ask (subst (λ l. IsMade b state (start_of run) run.started l ask) front so.0),
        inr (
          a,
          subst (λ s. GoesToWait b state run (replies_of made ++ a.reply ∷ []) a.after s (rest ++ o.ask ∷ [])) l.step
              (subst (λ c. GoesToWait b state run (replies_of made ++ a.reply ∷ []) c (step_after run.started (made ++ ask ∷ [])) (rest ++ o.ask ∷ [])) l.clock
              (subst (λ r. GoesToWait b state run r (clock_after run.entry (made ++ ask ∷ [])) (step_after run.started (made ++ ask ∷ [])) (rest ++ o.ask ∷ [])) l.replies
              (waits_on o (made ++ ask ∷ []) rest (are ∙ sym (append_assoc made (ask ∷ []) rest))))),
        ),
      )

  pub to_wait : IsOpen b state run → RunsToWait b state run
  to_wait o = record { may_start = o.made.may_start; goes = subst (GoesToWait b state run [] run.entry run.started) (sym o.asks_are) (waits_on o [] o.before refl) }

  open_by : (made asks : List AskRecord) → run.asks ≡ made ++ asks → Made made → GoesToWait b state run (replies_of made) (clock_after run.entry made) (step_after run.started made) asks → IsOpen b state run
  open_by made [] are h goes = absurd goes
  open_by made (ask ∷ rest) are h goes = by_next (open_by (made ++ ask ∷ []) rest (are ∙ sym (append_assoc made (ask ∷ []) rest))) goes.1
    where
      by_next : (Made (made ++ ask ∷ []) → GoesToWait b state run (replies_of (made ++ ask ∷ [])) (clock_after run.entry (made ++ ask ∷ [])) (step_after run.started (made ++ ask ∷ [])) rest → IsOpen b state run)
          → (StillWaits b state run (clock_after run.entry made) ask × (rest ≡ []))
          ⊎ ((a : HasReply b state run (clock_after run.entry made) ask) × GoesToWait b state run (replies_of made ++ a.reply ∷ []) a.after a.answered rest)
          → IsOpen b state run
      by_next onward (inl last) =
          let w = last.0 in
          record {
            before = made;
            ask = ask;
            asks_are = are ∙ ap (λ l. made ++ ask ∷ l) last.1;
            made = h;
            asking = made_of made ask goes.0;
            waits = record { no_reply = w.no_reply; no_clock = w.no_clock; not_answered = w.not_answered; calls_left = w.calls_left };
            no_outcome = w.no_outcome;
            no_state = w.no_state;
            no_end = w.no_end;
            not_ended = w.not_ended;
          }
      by_next onward (inr more) =
          let a = more.0 in
          let l = left made ask (clock_after run.entry made) a in
          onward
          (made_more b state (start_of run) run.started made ask h (made_of made ask goes.0) (answered_of made ask a))
          (subst (λ r. GoesToWait b state run r (clock_after run.entry (made ++ ask ∷ [])) (step_after run.started (made ++ ask ∷ [])) rest) (sym l.replies)
          (subst (λ c. GoesToWait b state run (replies_of made ++ a.reply ∷ []) c (step_after run.started (made ++ ask ∷ [])) rest) (sym l.clock)
          (subst (λ s. GoesToWait b state run (replies_of made ++ a.reply ∷ []) a.after s rest) (sym l.step) more.1)))

  pub from_wait : RunsToWait b state run → IsOpen b state run
  from_wait r = open_by [] run.asks refl (nothing_made r.may_start) r.goes

-- ---- a run ends or waits, and not both

module _ (b : Behaviour) (state : List ValueTree) (run : RunRecord) where
  pub goes_either : (replies : List Outcome) (clock : List ℕ) (step : ℕ) (asks : List AskRecord) → GoesOn b state run replies clock step asks → GoesToEnd b state run replies clock step asks ⊎ GoesToWait b state run replies clock step asks
  goes_either replies clock step [] goes = inl goes
  goes_either replies clock step (ask ∷ rest) goes = by_next (λ r c s on. goes_either r c s rest on) goes.1
    where
      by_next : ((r : List Outcome) (c : List ℕ) (s : ℕ) → GoesOn b state run r c s rest → GoesToEnd b state run r c s rest ⊎ GoesToWait b state run r c s rest)
          → (StillWaits b state run clock ask × (rest ≡ [])) ⊎ ((a : HasReply b state run clock ask) × GoesOn b state run (replies ++ a.reply ∷ []) a.after a.answered rest)
          → GoesToEnd b state run replies clock step (ask ∷ rest) ⊎ GoesToWait b state run replies clock step (ask ∷ rest)
      by_next onward (inl last) = inr (goes.0, inl last)
      by_next onward (inr more) =
          elim (onward (replies ++ more.0.reply ∷ []) more.0.after more.0.answered more.1) [
            | inl ended ↦ inl (goes.0, (more.0, ended))
            | inr waits ↦ inr (goes.0, inr (more.0, waits))
          ]

  pub end_goes : (replies : List Outcome) (clock : List ℕ) (step : ℕ) (asks : List AskRecord) → GoesToEnd b state run replies clock step asks → GoesOn b state run replies clock step asks
  end_goes replies clock step [] goes = goes
  end_goes replies clock step (ask ∷ rest) goes = (goes.0, inr (goes.1.0, end_goes (replies ++ goes.1.0.reply ∷ []) goes.1.0.after goes.1.0.answered rest goes.1.1))

  pub wait_goes : (replies : List Outcome) (clock : List ℕ) (step : ℕ) (asks : List AskRecord) → GoesToWait b state run replies clock step asks → GoesOn b state run replies clock step asks
  wait_goes replies clock step [] goes = absurd goes
  wait_goes replies clock step (ask ∷ rest) goes = (goes.0, by_next (λ r c s on. wait_goes r c s rest on) goes.1)
    where
      by_next : ((r : List Outcome) (c : List ℕ) (s : ℕ) → GoesToWait b state run r c s rest → GoesOn b state run r c s rest)
          → (StillWaits b state run clock ask × (rest ≡ [])) ⊎ ((a : HasReply b state run clock ask) × GoesToWait b state run (replies ++ a.reply ∷ []) a.after a.answered rest)
          → (StillWaits b state run clock ask × (rest ≡ [])) ⊎ ((a : HasReply b state run clock ask) × GoesOn b state run (replies ++ a.reply ∷ []) a.after a.answered rest)
      by_next onward (inl last) = inl last
      by_next onward (inr more) = inr (more.0, onward (replies ++ more.0.reply ∷ []) more.0.after more.0.answered more.1)

-- the state of the last ask
state_asked_more : (state : List ValueTree) (before : List AskRecord) (ask : AskRecord) → state_asked state (before ++ ask ∷ []) ≡ ask.state
state_asked_more state [] ask = refl
state_asked_more state (x ∷ before) ask = state_asked_more x.state before ask

-- ---- all runs

module _ (b : Behaviour) (began : List ValueTree) (kept : MemberRecord) where
  abbrev GoOnBehind : List RunRecord → List RunRecord → Type 0
  GoOnBehind before runs = GoOn b kept (length before) (state_after began before) runs

  -- one run more
  one_more : (before : List RunRecord) (run : RunRecord) (runs : List RunRecord) → GoOnBehind (before ++ run ∷ []) runs → GoOn b kept (length before + 1) (unwrap_or run.state (state_after began before)) runs
  one_more before run runs on =
      subst (λ n. GoOn b kept n (unwrap_or run.state (state_after began before)) runs) (length-append before (run ∷ []))
      (subst (λ s. GoOn b kept (length (before ++ run ∷ [])) s runs) (latest_more (λ (r : RunRecord). r.state) began before run) on)

  one_less : (before : List RunRecord) (run : RunRecord) (runs : List RunRecord) → GoOn b kept (length before + 1) (unwrap_or run.state (state_after began before)) runs → GoOnBehind (before ++ run ∷ []) runs
  one_less before run runs on =
      subst (λ s. GoOn b kept (length (before ++ run ∷ [])) s runs) (sym (latest_more (λ (r : RunRecord). r.state) began before run))
      (subst (λ n. GoOn b kept n (unwrap_or run.state (state_after began before)) runs) (sym (length-append before (run ∷ []))) on)

  ended_there : (all before rest : List RunRecord) (run : RunRecord) → HaveEnded b began all → all ≡ before ++ run ∷ rest → HasEnded b (state_after began before) run
  ended_there all before rest run ended are =
      subst (λ l. HasEnded b (state_after began l) run) (ap (take (length before)) are ∙ take_front before (run ∷ rest))
      (ended (length before) run (ap (λ l. slice_get l (length before)) are ∙ at_front before run rest))

  idle_goes : IsIdle b began kept → (before rest : List RunRecord) → kept.runs ≡ before ++ rest → GoOnBehind before rest
  idle_goes idle before [] are =
      let all : kept.runs ≡ before = are ∙ append-nil before in
      (idle.count ∙ ap (λ (l : List RunRecord). count_after kept.from (length l)) all, idle.state ∙ ap (state_after began) all, idle.is_state)
  idle_goes idle before (run ∷ rest) are =
      inl (to_end b (state_after began before) run (ended_there kept.runs before rest run idle.runs are), one_more before run rest (idle_goes idle (before ++ run ∷ []) rest (are ∙ sym (append_assoc before (run ∷ []) rest))))

  performing_goes : (p : IsPerforming b began kept) → (before rest : List RunRecord) → p.before ≡ before ++ rest → GoOnBehind before (rest ++ p.run ∷ [])
  performing_goes p before [] are =
      let all : p.before ≡ before = are ∙ append-nil before in
      let open_run = subst (λ l. IsOpen b (state_after began l) p.run) all p.waiting in
      inr (
        to_wait b (state_after began before) p.run open_run,
        refl,
        p.count ∙ ap (λ (l : List RunRecord). count_after kept.from (length l)) all,
        p.state ∙ sym (ap (state_asked (state_after began before)) p.waiting.asks_are ∙ state_asked_more (state_after began before) p.waiting.before p.waiting.ask),
      )
  performing_goes p before (run ∷ rest) are =
      inl (to_end b (state_after began before) run (ended_there p.before before rest run p.runs are), one_more before run (rest ++ p.run ∷ []) (performing_goes p (before ++ run ∷ []) rest (are ∙ sym (append_assoc before (run ∷ []) rest))))

  pub record_goes : IsRecord b began kept → GoOn b kept 0 began kept.runs
  record_goes r = elim r.now [
    | inl idle ↦ idle_goes idle [] kept.runs refl
    | inr p ↦ subst (GoOn b kept 0 began) (sym p.runs_are) (performing_goes p [] p.before refl)
  ]

  now_by : (before rest : List RunRecord) → kept.runs ≡ before ++ rest → HaveEnded b began before → GoOnBehind before rest → IsIdle b began kept ⊎ IsPerforming b began kept
  now_by before [] are ended on =
      let all : before ≡ kept.runs = sym (are ∙ append-nil before) in
      inl (record {
        runs = subst (HaveEnded b began) all ended;
        count = on.0 ∙ ap (λ (l : List RunRecord). count_after kept.from (length l)) all;
        state = on.1 ∙ ap (state_after began) all;
        is_state = on.2;
      })
  now_by before (run ∷ rest) are ended on =
      by_run (λ more on_more. now_by (before ++ run ∷ []) rest (are ∙ sym (append_assoc before (run ∷ []) rest)) more on_more) on
    where
      by_run : (HaveEnded b began (before ++ run ∷ []) → GoOnBehind (before ++ run ∷ []) rest → IsIdle b began kept ⊎ IsPerforming b began kept) → GoOnBehind before (run ∷ rest) → IsIdle b began kept ⊎ IsPerforming b began kept
      by_run onward (inl h) = onward (ended_more b began before run ended (from_end b (state_after began before) run h.0)) (one_less before run rest h.1)
      by_run onward (inr h) =
          let o = from_wait b (state_after began before) run h.0 in
          inr (record {
            before = before;
            run = run;
            runs_are = are ∙ ap (λ l. before ++ run ∷ l) h.1;
            runs = ended;
            waiting = o;
            count = h.2;
            state = h.3 ∙ ap (state_asked (state_after began before)) o.asks_are ∙ state_asked_more (state_after began before) o.before o.ask;
          })

  pub goes_record : GoOn b kept 0 began kept.runs → (is_active kept.phase ≡ false → kept.runs ≡ []) → IsRecord b began kept
  goes_record on inactive =
      record {
        now = now_by [] kept.runs refl (λ number run at. absurd (let clash : ◌≡◌ {A = Option RunRecord} None (Some run) = at in cc)) on;
        inactive = inactive;
      }
