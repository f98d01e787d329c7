-- What may stand in a record of a node can be written into messages.
use Rattle.std.specs.List.{AllByRecursion}
use Rattle.std.specs.Prelude.{IfSome}
use Rattle.std.proofs.Common.{◌≡◌, ℕ, ◌<◌, ◌^◌, ◌⊎◌, inl, inr, true, List, [], ◌∷◌, ◌++◌, All, Option, Some, sym, subst}
use Rattle.std.proofs.lemmas.List.Elements.{All-nil, All-cons, All-head, All-tail, All-push}
use Rattle.circus_value.specs.Fits.{all_fit}
use Rattle.circus_model.specs.declared.signature.Signature.{Signature}
use Rattle.circus_model.specs.Lawful.{import_answers}
use Rattle.circus_config.specs.declared.plan.Plan.{Plan}
use Rattle.circus_transfer.specs.declared.joiner.Joiner.{Joiner}
use Rattle.circus_transfer.specs.declared.joiner.Joiner.TheVariants.{Outside, Asking, Fetching, Active}
use Rattle.circus_record.specs.declared.record.AskRecord.{AskRecord}
use Rattle.circus_record.specs.declared.record.RunRecord.{RunRecord}
use Rattle.circus_record.specs.declared.record.MemberRecord.{MemberRecord}
use Rattle.circus_dues.specs.Seen.Sound.{IsClockOf, IsSayableAsk, HasSayableEnd, IsSayableRun, IsSayable}
use Rattle.circus_verdict.specs.Seen.Judging.{HasCounts, IsCounted}
use Rattle.circus_audit.specs.Possible.{IsAnswered, IsOpen, IsEnded, IsWaiting, IsActive, IsMember}

module _ (plan : Plan) (s : Signature) (events modules : ℕ) where
  -- ---- an ask

  counted_clock : (o : Option (List ℕ)) (clock : List ℕ) → o ≡ Some clock → HasCounts modules o → AllByRecursion (λ n. n < 2 ^ 32) clock → IfSome o (IsClockOf modules)
  counted_clock o clock is counts longs = subst (λ o. IfSome o (IsClockOf modules)) (sym is) (subst (HasCounts modules) is counts, longs)

  answered_ask : (ask : AskRecord) → HasCounts modules ask.after × IsAnswered plan s events ask → IsSayableAsk s modules ask
  answered_ask ask (counts, h) =
      record {
        takes = h.made.takes;
        reply = subst (λ o. IfSome o (λ outcome. import_answers s.imports ask.callee ask.procedure outcome ≡ true)) (sym h.is_reply) h.answers;
        after = counted_clock ask.after h.after h.is_after counts h.clock.1;
      }

  waiting_ask : (ask : AskRecord) → IsOpen plan s events ask → IsSayableAsk s modules ask
  waiting_ask ask h =
      record {
        takes = h.made.takes;
        reply = subst (λ o. IfSome o (λ outcome. import_answers s.imports ask.callee ask.procedure outcome ≡ true)) (sym h.reply) tt;
        after = subst (λ o. IfSome o (IsClockOf modules)) (sym h.after) tt;
      }

  abbrev Counts : AskRecord → Type 0
  Counts ask = HasCounts modules ask.after

  counts_before : (before last : List AskRecord) → All Counts (before ++ last) → All Counts before
  counts_before [] last counts = All-nil Counts
  counts_before (ask ∷ before) last counts =
      All-cons Counts ask before (All-head Counts ask (before ++ last) counts) (counts_before before last (All-tail Counts ask (before ++ last) counts))

  answered_asks : (asks : List AskRecord) → All Counts asks → AllByRecursion (IsAnswered plan s events) asks → All (IsSayableAsk s modules) asks
  answered_asks [] counts all = All-nil (IsSayableAsk s modules)
  answered_asks (ask ∷ asks) counts all =
      All-cons (IsSayableAsk s modules) ask asks (answered_ask ask (All-head Counts ask asks counts, all.0)) (answered_asks asks (All-tail Counts ask asks counts) all.1)

  -- ---- a run

  ended_run : (run : RunRecord) → IsCounted modules run → IsEnded plan s events run → IsSayableRun s modules run
  ended_run run c h =
      record {
        few = c.few;
        asks = answered_asks run.asks c.after h.asks;
        state = subst (λ o. IfSome o (λ state. all_fit s.variables state ≡ true)) (sym h.is_state) h.fits;
        end =
            subst (λ o. IfSome o (λ (step : ℕ). HasSayableEnd s modules run)) (sym h.is_step)
            (record { outcome = h.outcome; clock = h.after; is_outcome = h.is_outcome; is_end = h.is_after; fits = h.ends; counts = (subst (HasCounts modules) h.is_after c.end, h.clock.1) });
      }

  waiting_run : (run : RunRecord) → IsCounted modules run → IsWaiting plan s events run → IsSayableRun s modules run
  waiting_run run c h =
      record {
        few = c.few;
        asks =
            subst (All (IsSayableAsk s modules)) (sym h.asks)
            (All-push (IsSayableAsk s modules) h.before h.last (answered_asks h.before (counts_before h.before (h.last ∷ []) (subst (All Counts) h.asks c.after)) h.answered) (waiting_ask h.last h.waits));
        state = subst (λ o. IfSome o (λ state. all_fit s.variables state ≡ true)) (sym h.state) tt;
        end = subst (λ o. IfSome o (λ (step : ℕ). HasSayableEnd s modules run)) (sym h.ended) tt;
      }

  -- ---- a record

  runs_so : (ended last : List RunRecord) → All (IsCounted modules) (ended ++ last) → AllByRecursion (IsEnded plan s events) ended
      → (All (IsCounted modules) last → All (IsSayableRun s modules) last) → All (IsSayableRun s modules) (ended ++ last)
  runs_so [] last few each rest = rest few
  runs_so (run ∷ ended) last few each rest =
      All-cons (IsSayableRun s modules) run (ended ++ last) (ended_run run (All-head (IsCounted modules) run (ended ++ last) few) each.0)
      (runs_so ended last (All-tail (IsCounted modules) run (ended ++ last) few) each.1 rest)

  last_so : (last : List RunRecord) → (last ≡ []) ⊎ ((run : RunRecord) × (last ≡ run ∷ []) × IsWaiting plan s events run)
      → All (IsCounted modules) last → All (IsSayableRun s modules) last
  last_so last (inl none) few = subst (All (IsSayableRun s modules)) (sym none) (All-nil (IsSayableRun s modules))
  last_so last (inr one) few =
      let run = one.0 in
      let have : All (IsCounted modules) (run ∷ []) = subst (All (IsCounted modules)) one.1 few in
      subst (All (IsSayableRun s modules)) (sym one.1)
      (All-cons (IsSayableRun s modules) run [] (waiting_run run (All-head (IsCounted modules) run [] have) one.2) (All-nil (IsSayableRun s modules)))

  active_is_sayable : (since : ℕ) (kept : MemberRecord) → All (IsCounted modules) kept.runs → IsActive plan s events since kept → IsSayable s modules kept
  active_is_sayable since kept few active =
      let r = active.runs in
      subst (All (IsSayableRun s modules)) (sym r.are)
      (runs_so r.ended r.last (subst (All (IsCounted modules)) r.are few) r.each (last_so r.last r.one))

  -- what may stand of a member whose runs are counted
  pub member_is_sayable : (kept : MemberRecord) (phase : Joiner) → All (IsCounted modules) kept.runs → IsMember plan s events kept phase → IsSayable s modules kept
  member_is_sayable kept Outside few is = subst (IsSayable s modules) (sym is) (All-nil (IsSayableRun s modules))
  member_is_sayable kept Asking few is = subst (IsSayable s modules) (sym is) (All-nil (IsSayableRun s modules))
  member_is_sayable kept (Fetching incarnation) few is = subst (IsSayable s modules) (sym is) (All-nil (IsSayableRun s modules))
  member_is_sayable kept (Active first) few is = active_is_sayable first kept few is
