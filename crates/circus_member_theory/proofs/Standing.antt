-- What each act of a performer keeps of a record that stands.
use Rattle.std.proofs.Common.{◌≡◌, ℕ, suc, ◌+◌, ◌-◌, ◌<◌, ◌≤◌, false, List, [], ◌∷◌, ◌++◌, length, Some, None, inl, inr, refl, ap, sym, subst, ◌∙◌, arith, length-append}
use Rattle.std.specs.Prelude.{IsSomeAnd, min, unwrap_or, slice_get}
use Rattle.std.proofs.lemmas.List.{same_from_push}
use Rattle.std.proofs.lemmas.Option.{same_Some, slice_get_within}
use Rattle.circus_value.specs.ValueTree.{ValueTree}
use Rattle.circus_value.specs.declared.outcome.Outcome.{Outcome}
use Rattle.circus_transfer.specs.declared.joiner.Joiner.{Joiner}
use Rattle.circus_model.specs.declared.history.Ask.{Ask}
use Rattle.circus_model.specs.declared.history.Run.{Run}
use Rattle.circus_model.specs.NextTurn.{NextTurn}
use Rattle.circus_model.specs.Behaviour.{Behaviour}
use Rattle.circus_model.specs.Agree.{IsAt, AreModules, Agree}
use Rattle.circus_model.specs.Execution.{is_spent, history_of}
use Rattle.circus_model.specs.History.{runs_of, run_at, state_after, clock_before}
use Rattle.circus_model.proofs.Lookups.{old_or_added}
use Rattle.circus_model.proofs.Logging.{some_and, and_some}
use Rattle.circus_record.specs.declared.record.AskRecord.{AskRecord}
use Rattle.circus_record.specs.declared.record.RunRecord.{RunRecord}
use Rattle.circus_record.specs.declared.record.MemberRecord.{MemberRecord}
use Rattle.circus_performing.specs.declared.start.RunStart.{RunStart}
use Rattle.circus_performing.specs.Performing as P
use Rattle.circus_performing.specs.Performing.{clock_after, last_of, front_of, open_ask, before_any, active_record, begin_run, answered_ask, gone_on, next_count, state_by, with_run, most_turns, last_count, enter_run, answer_open_ask}
use Rattle.circus_performing.specs.Record.{IsRecord, IsPerforming}
use Rattle.circus_performing.proofs.Ends.{last_more, front_more, latest_more, replied_same}
use Rattle.circus_performing.proofs.Records.{none_is_some, idle_has_none}
use Rattle.circus_member_theory.specs.Stands.{WaitsFor, IsAnsweredSo, IsEnteredSo, IsPerformed, IsUnderWay, ArePerformed, IsIdle, IsBusy, Stands}
use Rattle.circus_member_theory.specs.Messages.{IsAskAt, IsTrueState}
use Rattle.circus_member_theory.proofs.Histories.{runs_are_few, asks_are_few}
use Rattle.circus_member_theory.proofs.OneRun.{IsGone, entered_so_far, so_far_with, clock_is, gone_on_so}

module _ (program : List Behaviour) (agree : Agree program) (are : AreModules program) (place : ℕ) (b : Behaviour) (at : IsAt program place b) where
  -- ---- runs

  -- a run more
  performed_more : (from : ℕ) (runs : List RunRecord) (kept : RunRecord) (run : Run) → ArePerformed (history_of program) place from runs
      → run_at (history_of program) place (from + length runs) ≡ Some run → IsPerformed run kept → ArePerformed (history_of program) place from (runs ++ kept ∷ [])
  performed_more from runs kept run h is performed = λ number r there.
      elim (old_or_added runs kept number r there) [
        | inl old ↦ h number r old
        | inr added ↦
            and_some (run_at (history_of program) place (from + number)) (λ x. IsPerformed x r) run (ap (λ n. run_at (history_of program) place (from + n)) added.0 ∙ is)
            (subst (IsPerformed run) added.1 performed)
      ]

  -- the state after runs
  states_same : (runs : List RunRecord) (from : ℕ) (began : List ValueTree) → ArePerformed (history_of program) place from runs
      → began ≡ state_after (history_of program) place b.first from → P.state_after began runs ≡ state_after (history_of program) place b.first (from + length runs)
  states_same [] from began h is = is ∙ ap (state_after (history_of program) place b.first) (omega arith)
  states_same (r ∷ runs) from began h is =
      let here = some_and (run_at (history_of program) place (from + 0)) (λ run. IsPerformed run r) (h 0 r refl) in
      let there : run_at (history_of program) place from ≡ Some here.0 = ap (run_at (history_of program) place) (omega arith) ∙ here.1.0 in
      let now : unwrap_or r.state began ≡ state_after (history_of program) place b.first (suc from) = rw (here.1.1.state, there) refl in
      states_same runs (suc from) (unwrap_or r.state began)
      (λ number k is_at. subst (λ n. IsSomeAnd (run_at (history_of program) place n) (λ run. IsPerformed run k)) (further from number) (h (suc number) k is_at)) now
      ∙ ap (state_after (history_of program) place b.first) (sym (further from (length runs)))
    where
      further : (n i : ℕ) → n + suc i ≡ suc n + i
      further n i = omega arith

  -- a run that has gone on stands behind the others
  settled_stands : (kept : MemberRecord) (run : Run) (gone : RunRecord) → ArePerformed (history_of program) place kept.from kept.runs
      → kept.count ≡ kept.from + length kept.runs → run_at (history_of program) place kept.count ≡ Some run → IsGone run gone → Stands (history_of program) place b.first (with_run kept gone)
  settled_stands kept run gone runs count is (inl performed) =
      let below : kept.count < length (runs_of (history_of program) place) = slice_get_within (runs_of (history_of program) place) kept.count run is in
      let one_more : min (kept.count + 1) last_count ≡ suc kept.count = omega (arith, below, runs_are_few program agree are place) in
      let next : next_count gone.outcome kept.count ≡ suc kept.count = ap (λ o. next_count o kept.count) performed.outcome ∙ one_more in
      let state : state_by gone ≡ run.state = rw performed.state refl in
      let after : state_after (history_of program) place b.first (suc kept.count) ≡ run.state = rw is refl in
      record {
        within = subst (λ n. n ≤ length (runs_of (history_of program) place)) (sym next) below;
        now = inl (record {
          runs = performed_more kept.from kept.runs gone run runs (ap (run_at (history_of program) place) (sym count) ∙ is) performed;
          count = next ∙ omega (arith, count, length-append kept.runs (gone ∷ []));
          state = state ∙ sym after ∙ ap (state_after (history_of program) place b.first) (sym next);
        });
      }
  settled_stands kept run gone runs count is (inr w) =
      let below : kept.count < length (runs_of (history_of program) place) = slice_get_within (runs_of (history_of program) place) kept.count run is in
      let same : next_count gone.outcome kept.count ≡ kept.count = ap (λ o. next_count o kept.count) w.under_way.no_outcome in
      record {
        within = omega (arith, same, below);
        now = inr (record {
          before = kept.runs;
          last = gone;
          waiting = w.waiting;
          runs_are = refl;
          runs = runs;
          count = same ∙ count;
          under_way = and_some (run_at (history_of program) place (next_count gone.outcome kept.count)) (λ r. IsUnderWay r gone w.waiting) run
              (ap (run_at (history_of program) place) same ∙ is) w.under_way;
          state = rw (w.under_way.no_state, w.under_way.asks) (latest_more (λ (a : AskRecord). Some a.state) [] w.under_way.made w.waiting);
        });
      }

  -- ---- a record with an open ask

  -- what a record shows that performs a run
  record IsShown (kept : MemberRecord) (q : IsBusy (history_of program) place kept) : Type 0 where
    pub run : Run
    pub ask : Ask
    pub run_is : run_at (history_of program) place kept.count ≡ Some run
    pub under_way : IsUnderWay run q.last q.waiting
    pub ask_is : slice_get run.asks (length under_way.made) ≡ Some ask
    pub waits : WaitsFor ask q.waiting

  shown : (kept : MemberRecord) (q : IsBusy (history_of program) place kept) → IsShown kept q
  shown kept q =
      let run = some_and (run_at (history_of program) place kept.count) (λ r. IsUnderWay r q.last q.waiting) q.under_way in
      let ask = some_and (slice_get run.0.asks (length run.1.1.made)) (λ a. WaitsFor a q.waiting) run.1.1.next in
      record { run = run.0; ask = ask.0; run_is = run.1.0; under_way = run.1.1; ask_is = ask.1.0; waits = ask.1.1 }

  last_is : (kept : MemberRecord) (q : IsBusy (history_of program) place kept) → last_of kept.runs ≡ Some q.last
  last_is kept q = ap last_of q.runs_are ∙ last_more q.before q.last

  busy_has_one : (kept : MemberRecord) (q : IsBusy (history_of program) place kept) → open_ask kept ≡ Some q.waiting
  busy_has_one kept q =
      let s = shown kept q in
      let ask : last_of q.last.asks ≡ Some q.waiting = ap last_of s.under_way.asks ∙ last_more s.under_way.made q.waiting in
      rw (last_is kept q) (rw ask (rw s.waits.reply refl))

  -- an idle record: state and count
  pub idle_is : (kept : MemberRecord) → Stands (history_of program) place b.first kept → open_ask kept ≡ None → IsIdle (history_of program) place b.first kept
  idle_is kept stands none = elim stands.now [
    | inl idle ↦ idle
    | inr q ↦ absurd (none_is_some (sym none ∙ busy_has_one kept q))
  ]

  -- where an ask is open, the record is one that performs
  busy_is : (kept : MemberRecord) (asked : AskRecord) (began : List ValueTree) → IsRecord b began kept → Stands (history_of program) place b.first kept
      → open_ask kept ≡ Some asked → IsBusy (history_of program) place kept × IsPerforming b began kept
  busy_is kept asked began record_is stands is = elim record_is.now [
    | inl idle ↦ absurd (none_is_some (sym (idle_has_none b began kept idle) ∙ is))
    | inr p ↦ (both p, p)
  ]
    where
      both : IsPerforming b began kept → IsBusy (history_of program) place kept
      both p = elim stands.now [
        | inl idle ↦
            let last : last_of kept.runs ≡ Some p.run = ap last_of p.runs_are ∙ last_more p.before p.run in
            let run = some_and (run_at (history_of program) place (kept.from + (length kept.runs - 1))) (λ r. IsPerformed r p.run) (idle.runs (length kept.runs - 1) p.run last) in
            absurd (none_is_some (sym p.waiting.no_outcome ∙ run.1.1.outcome))
        | inr q ↦ q
      ]

  -- the index of its last run
  index_same : (kept : MemberRecord) → Stands (history_of program) place b.first kept → (q : IsBusy (history_of program) place kept) → min (kept.from + (length kept.runs - 1)) last_count ≡ kept.count
  index_same kept stands q =
      let runs : length kept.runs ≡ length q.before + 1 = ap length q.runs_are ∙ length-append q.before (q.last ∷ []) in
      omega (arith, runs, q.count, stands.within, runs_are_few program agree are place)

  -- the number of its last ask
  number_same : (kept : MemberRecord) (q : IsBusy (history_of program) place kept) (s : IsShown kept q) → length q.last.asks - 1 ≡ length s.under_way.made
  number_same kept q s =
      let made : length q.last.asks ≡ length s.under_way.made + 1 = ap length s.under_way.asks ∙ length-append s.under_way.made (q.waiting ∷ []) in
      omega (arith, made)

  clock_same : (kept : MemberRecord) (q : IsBusy (history_of program) place kept) (s : IsShown kept q) → clock_after q.last.entry q.last.asks ≡ clock_before s.run (length s.under_way.made)
  clock_same kept q s =
      let u = s.under_way in
      ap (clock_after q.last.entry) u.asks
      ∙ latest_more (λ (a : AskRecord). a.after) q.last.entry u.made q.waiting
      ∙ ap (λ o. unwrap_or o (clock_after q.last.entry u.made)) s.waits.after
      ∙ clock_is s.run q.last u.made u.entered u.answered

  -- its thread has calls left
  calls_left : (kept : MemberRecord) (began : List ValueTree) (q : IsBusy (history_of program) place kept) (s : IsShown kept q) → IsPerforming b began kept
      → is_spent (clock_before s.run (length s.under_way.made)) ≡ false
  calls_left kept began q s p =
      let u = s.under_way in
      let runs = same_from_push q.before p.before q.last p.run (sym q.runs_are ∙ p.runs_are) in
      let asks = same_from_push u.made p.waiting.before q.waiting p.waiting.ask (sym u.asks ∙ ap (λ (r : RunRecord). r.asks) runs.1 ∙ p.waiting.asks_are) in
      let moved : clock_after q.last.entry u.made ≡ clock_after p.run.entry p.waiting.before =
      ap (λ (r : RunRecord). clock_after r.entry u.made) runs.1 ∙ ap (clock_after p.run.entry) asks.0 in
      ap is_spent (sym (clock_is s.run q.last u.made u.entered u.answered) ∙ moved) ∙ p.waiting.waits.calls_left

  -- which ask of the history the open ask is: by the number of its run, and its own
  pub record IsOpenOf (kept : MemberRecord) (asked : AskRecord) : Type 0 where
    pub run : Run
    pub ask : Ask
    pub last : RunRecord
    pub last_is : last_of kept.runs ≡ Some last
    pub there : IsAskAt (history_of program) place (min (kept.from + (length kept.runs - 1)) last_count) (length last.asks - 1) run ask
    pub entered : IsEnteredSo run last
    pub waits : WaitsFor ask asked
    pub clock : clock_after last.entry last.asks ≡ clock_before run (length last.asks - 1)

  pub open_is : (kept : MemberRecord) (asked : AskRecord) (began : List ValueTree) → IsRecord b began kept → Stands (history_of program) place b.first kept
      → open_ask kept ≡ Some asked → IsOpenOf kept asked
  open_is kept asked began record_is stands is =
      let both = busy_is kept asked began record_is stands is in
      let q = both.0 in
      let s = shown kept q in
      let number = number_same kept q s in
      let same : q.waiting ≡ asked = same_Some q.waiting asked (sym (busy_has_one kept q) ∙ is) in
      record {
        run = s.run;
        ask = s.ask;
        last = q.last;
        last_is = last_is kept q;
        there = record {
          run_is = ap (run_at (history_of program) place) (index_same kept stands q) ∙ s.run_is;
          ask_is = ap (slice_get s.run.asks) number ∙ s.ask_is;
          calls_left = ap (λ n. is_spent (clock_before s.run n)) number ∙ calls_left kept began q s both.1;
        };
        entered = s.under_way.entered;
        waits = subst (WaitsFor s.ask) same s.waits;
        clock = clock_same kept q s ∙ ap (clock_before s.run) (sym number);
      }

  -- ---- acts

  -- a run is entered that is the next one of the history
  pub entered_stands : (kept : MemberRecord) (start : RunStart) (step : ℕ) (run : Run) → Stands (history_of program) place b.first kept → open_ask kept ≡ None
      → run_at (history_of program) place kept.count ≡ Some run → start.root ≡ run.root → start.path ≡ run.path → start.procedure ≡ run.procedure
      → start.arguments ≡ run.arguments → start.clock ≡ run.entry → Stands (history_of program) place b.first (enter_run b.turn step start kept)
  entered_stands kept start step run stands none is root path procedure arguments clock =
      let idle = idle_is kept stands none in
      let so = entered_so_far run (begin_run step start) (record { root = root; path = path; procedure = procedure; arguments = arguments; entry = clock }) refl refl refl refl in
      let gone = gone_on_so program agree are place b at kept.count run is step most_turns (begin_run step start) so (omega (arith, asks_are_few program agree are place b at kept.count run is)) in
      let turn : b.turn kept.state start.procedure start.arguments ≡ b.turn (state_after (history_of program) place b.first kept.count) run.procedure run.arguments =
      cc (idle.state, procedure, arguments) in
      settled_stands kept run (gone_on step (b.turn kept.state start.procedure start.arguments) most_turns (begin_run step start)) idle.runs idle.count is
      (subst (λ (t : List Outcome → NextTurn). IsGone run (gone_on step t most_turns (begin_run step start))) (sym turn) gone)

  -- the open ask is answered as it is there
  answered_so : (kept : MemberRecord) (began : List ValueTree) (step : ℕ) → began ≡ state_after (history_of program) place b.first kept.from
      → (q : IsBusy (history_of program) place kept) (s : IsShown kept q) → Stands (history_of program) place b.first (answer_open_ask b.turn began step s.ask.reply s.ask.after kept)
  answered_so kept began step began_is q s =
      let u = s.under_way in
      let done = answered_ask step s.ask.reply s.ask.after q.waiting in
      let replied : RunRecord = record q.last { asks = u.made ++ done ∷ [] } in
      let front : front_of kept.runs ≡ q.before = ap front_of q.runs_are ∙ front_more q.before q.last in
      let state : P.state_after began q.before ≡ state_after (history_of program) place b.first kept.count =
      states_same q.before kept.from began q.runs began_is ∙ ap (state_after (history_of program) place b.first) (sym q.count) in
      let turn : b.turn (P.state_after began q.before) q.last.procedure q.last.arguments ≡ b.turn (state_after (history_of program) place b.first kept.count) s.run.procedure s.run.arguments =
      cc (state, u.entered.procedure, u.entered.arguments) in
      let a = s.waits.asks in
      let is_answered : IsAnsweredSo s.ask done =
      record { asks = record { callee = a.callee; index = a.index; procedure = a.procedure; arguments = a.arguments; state = a.state }; reply = refl; after = refl } in
      let so = so_far_with s.run q.last u.made s.ask done u.entered u.answered s.ask_is is_answered u.no_outcome u.no_state u.no_end in
      let gone = gone_on_so program agree are place b at kept.count s.run s.run_is step most_turns replied so (omega (arith, asks_are_few program agree are place b at kept.count s.run s.run_is)) in
      let settled = settled_stands (record kept { runs = q.before }) s.run
      (gone_on step (b.turn (P.state_after began q.before) q.last.procedure q.last.arguments) most_turns replied) q.runs q.count s.run_is
      (subst (λ (t : List Outcome → NextTurn). IsGone s.run (gone_on step t most_turns replied)) (sym turn) gone) in
      rw (last_is kept q) (rw front (rw (replied_same q.last u.made q.waiting step s.ask.reply s.ask.after u.asks) settled))

  -- the open ask is answered as in the history
  pub answered_stands : (kept : MemberRecord) (began : List ValueTree) (asked : AskRecord) (step : ℕ) → IsRecord b began kept → Stands (history_of program) place b.first kept
      → began ≡ state_after (history_of program) place b.first kept.from → open_ask kept ≡ Some asked → (o : IsOpenOf kept asked)
      → Stands (history_of program) place b.first (answer_open_ask b.turn began step o.ask.reply o.ask.after kept)
  answered_stands kept began asked step record_is stands began_is is o =
      let q = (busy_is kept asked began record_is stands is).0 in
      let s = shown kept q in
      let run : o.run ≡ s.run = same_Some o.run s.run (sym o.there.run_is ∙ ap (run_at (history_of program) place) (index_same kept stands q) ∙ s.run_is) in
      let last : o.last ≡ q.last = same_Some o.last q.last (sym o.last_is ∙ last_is kept q) in
      let number : length o.last.asks - 1 ≡ length s.under_way.made = ap (λ (r : RunRecord). length r.asks - 1) last ∙ number_same kept q s in
      let place_is : slice_get o.run.asks (length o.last.asks - 1) ≡ slice_get s.run.asks (length s.under_way.made) =
      ap (λ (r : Run). slice_get r.asks (length o.last.asks - 1)) run ∙ ap (slice_get s.run.asks) number in
      let ask : o.ask ≡ s.ask = same_Some o.ask s.ask (sym o.there.ask_is ∙ place_is ∙ s.ask_is) in
      subst (λ (a : Ask). Stands (history_of program) place b.first (answer_open_ask b.turn began step a.reply a.after kept)) (sym ask) (answered_so kept began step began_is q s)

  -- where none is open and there is a last run, that has ended as in the history
  pub last_performed : (kept : MemberRecord) (last : RunRecord) → Stands (history_of program) place b.first kept → open_ask kept ≡ None → last_of kept.runs ≡ Some last
      → IsSomeAnd (run_at (history_of program) place (min (kept.from + (length kept.runs - 1)) last_count)) (λ run. IsPerformed run last)
  last_performed kept last stands none is =
      let idle = idle_is kept stands none in
      let same : kept.from + (length kept.runs - 1) ≡ min (kept.from + (length kept.runs - 1)) last_count = omega (arith, idle.count, stands.within, runs_are_few program agree are place) in
      subst (λ n. IsSomeAnd (run_at (history_of program) place n) (λ run. IsPerformed run last)) same (idle.runs (length kept.runs - 1) last is)

  -- a member becomes active with a true state
  pub active_stands : (kept : MemberRecord) (step : ℕ) (state : List ValueTree) (count : ℕ) → kept.runs ≡ [] → IsTrueState (history_of program) place b.first count state
      → Stands (history_of program) place b.first (active_record step state count kept)
  active_stands kept step state count none is =
      record {
        within = is.within;
        now = inl (record {
          runs = λ number r there. absurd (none_is_some (rw none at there));
          count = rw none (omega arith);
          state = is.state_is;
        });
      }

  -- a member stands as it boots
  pub founder_stands : (phase : Joiner) → Stands (history_of program) place b.first (before_any phase b.first)
  founder_stands phase =
      record {
        within = omega arith;
        now = inl (record { runs = λ number r there. absurd (none_is_some there); count = omega arith; state = refl });
      }
