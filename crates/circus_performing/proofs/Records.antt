-- What each act keeps of a record.
use Rattle.std.proofs.Common.{◌≡◌, ℕ, ◌+◌, ◌-◌, ◌≤◌, Bool, true, false, cond, List, [], ◌∷◌, ◌++◌, length, true≢false, Option, Some, None, ◌⊎◌, inl, inr, refl, sym, subst, ap, ◌∙◌, arith, length-append}
use Rattle.std.specs.Prelude.{min, option_and_then}
use Rattle.std.proofs.lemmas.Option.{same_Some}
use Rattle.circus_value.specs.ValueTree.{ValueTree}
use Rattle.circus_value.specs.declared.outcome.Outcome.{Outcome}
use Rattle.circus_collate.specs.declared.table.Table.{Table}
use Rattle.circus_transfer.specs.declared.joiner.Joiner.{Joiner}
use Rattle.circus_transfer.specs.declared.joiner.Joiner.TheVariants.{Outside, Asking, Fetching, Active}
use Rattle.circus_transfer.specs.Joining.{after_join, after_table}
use Rattle.circus_model.specs.NextTurn.{ends}
use Rattle.circus_model.specs.Lawful.{IsState, import_answers}
use Rattle.circus_model.specs.Behaviour.{Behaviour, IsModule}
use Rattle.circus_record.specs.declared.record.AskRecord.{AskRecord}
use Rattle.circus_record.specs.declared.record.RunRecord.{RunRecord}
use Rattle.circus_record.specs.declared.record.MemberRecord.{MemberRecord}
use Rattle.circus_performing.specs.declared.start.RunStart.{RunStart}
use Rattle.circus_performing.specs.Performing as P
use Rattle.circus_performing.specs.Performing.{Performing, state_after, replies_of, last_of, front_of, unless_replied, open_ask, is_active, is_fetching, before_any, made_active, activate, begin_run, answered_ask, gone_on, state_by, with_run, most_turns, last_count, with_reply, enter_run, answer_open_ask}
use Rattle.circus_performing.specs.Record.{start_of, turns, HasEnded, IsOpen, HaveEnded, count_after, IsIdle, IsPerforming, IsRecord}
use Rattle.circus_performing.specs.Acts.{Act, Joins, Tabled, Activates, Enters, Answers, Acts, as_founder, as_spare, more, after, performed_by, CanEnter, CanHappen, AreLawful}
use Rattle.circus_performing.specs.Seen.UnderWay.{IsNext}
use Rattle.circus_performing.proofs.Ends.{latest_more, last_more, front_more, replied_same, earlier_or_added}
use Rattle.circus_performing.proofs.Turns.{turn_is_lawful, goes_on, comes_to_rest}

pub none_is_some : {X : Type 0} {x : X} → None ≡ Some x → ⊥
none_is_some h = cc

-- one more, as far as counts go
counted_once : (from ended most : ℕ) → min (min (from + ended) most + 1) most ≡ min (from + (ended + 1)) most
counted_once from ended most = omega arith

-- ---- the open ask

-- an ask that was answered isn't open
answered_ask_is_none : (ask : AskRecord) (reply : Outcome) → ask.reply ≡ Some reply → unless_replied ask ≡ None
answered_ask_is_none ask reply is = rw is

module _ (b : Behaviour) where
  -- a run that has ended has no open ask
  ended_has_none : (state : List ValueTree) (run : RunRecord) → HasEnded b state run → option_and_then unless_replied (last_of run.asks) ≡ None
  ended_has_none state run ended = by_last (last_of run.asks) refl
    where
      by_last : (last : Option AskRecord) → last_of run.asks ≡ last → option_and_then unless_replied last ≡ None
      by_last None is = refl
      by_last (Some ask) is =
          let so = (ended.made.asks_so (length run.asks - 1) ask is).1 in
          answered_ask_is_none ask so.reply so.reply_is

  -- a member that performs no run has none
  pub idle_has_none : (began : List ValueTree) (kept : MemberRecord) → IsIdle b began kept → open_ask kept ≡ None
  idle_has_none began kept idle = by_last (last_of kept.runs) refl
    where
      by_last : (last : Option RunRecord) → last_of kept.runs ≡ last → option_and_then (λ (r : RunRecord). option_and_then unless_replied (last_of r.asks)) last ≡ None
      by_last None is = refl
      by_last (Some run) is = ended_has_none _ run (idle.runs (length kept.runs - 1) run is)

  -- one that performs a run waits for that run's last ask
  pub performing_has_one : (began : List ValueTree) (kept : MemberRecord) (p : IsPerforming b began kept) → open_ask kept ≡ Some p.waiting.ask
  performing_has_one began kept p =
      let run : last_of kept.runs ≡ Some p.run = ap last_of p.runs_are ∙ last_more p.before p.run in
      let ask : last_of p.run.asks ≡ Some p.waiting.ask = ap last_of p.waiting.asks_are ∙ last_more p.waiting.before p.waiting.ask in
      rw run (rw ask (rw p.waiting.waits.no_reply refl))

  -- ---- runs behind others

  pub ended_more : (began : List ValueTree) (runs : List RunRecord) (run : RunRecord) → HaveEnded b began runs → HasEnded b (state_after began runs) run → HaveEnded b began (runs ++ run ∷ [])
  ended_more began runs run h ended = λ number r at.
      elim (earlier_or_added runs run number r at) [
        | inl early ↦ rw early.before (h number r early.there)
        | inr added ↦ rw (added.before, ← added.same) ended
      ]

  module _ (lawful : IsModule b) where
    -- with a run that has ended the member performs none
    pub idle_with : (began : List ValueTree) (kept : MemberRecord) (run : RunRecord) → HaveEnded b began kept.runs → kept.count ≡ count_after kept.from (length kept.runs) → HasEnded b (state_after began kept.runs) run → IsIdle b began (with_run kept run)
    idle_with began kept run runs count ended =
        let law = turn_is_lawful b (state_after began kept.runs) lawful (start_of run) run.started run.asks (ends ended.outcome ended.after) ended.made ended.turn in
        let state : state_by run ≡ ended.after = rw ended.state_is refl in
        record {
          runs = ended_more began kept.runs run runs ended;
          count = ap (λ o. P.next_count o kept.count) ended.outcome_is ∙ ap (λ n. min (n + 1) last_count) count ∙ counted_once kept.from (length kept.runs) last_count ∙ ap (λ n. min (kept.from + n) last_count) (sym (length-append kept.runs (run ∷ [])));
          state = state ∙ sym (latest_more (λ (r : RunRecord). r.state) began kept.runs run ∙ rw ended.state_is refl);
          is_state = rw state law.1;
        }

    -- with one that waits it performs that
    abbrev pub performing_with : (began : List ValueTree) (kept : MemberRecord) (run : RunRecord) → HaveEnded b began kept.runs → kept.count ≡ count_after kept.from (length kept.runs) → IsOpen b (state_after began kept.runs) run → IsPerforming b began (with_run kept run)
    performing_with began kept run runs count waiting =
        record {
          before = kept.runs;
          run = run;
          runs_are = refl;
          runs = runs;
          waiting = waiting;
          count = rw waiting.no_outcome count;
          state = rw (waiting.no_state, waiting.asks_are) (latest_more (λ (a : AskRecord). Some a.state) [] waiting.before waiting.ask);
        }

    -- once a run has gone on as far as it can
    pub settled : (began : List ValueTree) (kept : MemberRecord) (step : ℕ) (run : RunRecord) → IsNext b began kept step run → let after = with_run kept (gone_on step (turns b (state_after began kept.runs) (start_of run)) most_turns run) in IsIdle b began after ⊎ IsPerforming b began after
    settled began kept step run next =
        elim (comes_to_rest b (state_after began kept.runs) lawful step most_turns run (omega arith) next.under_way) [
          | inl ended ↦ inl (idle_with began kept _ next.runs next.count ended)
          | inr waiting ↦ inr (performing_with began kept _ next.runs next.count waiting)
        ]

    -- ---- a run is entered

    pub entered_next : (began : List ValueTree) (kept : MemberRecord) (step : ℕ) (start : RunStart) → IsRecord b began kept → CanEnter b.declared start kept → IsIdle b began kept × IsNext b began kept step (begin_run step start)
    entered_next began kept step start h can =
        let idle : IsIdle b began kept = elim h.now [ inl idle ↦ idle | inr p ↦ absurd (none_is_some (sym can.idle ∙ performing_has_one began kept p)) ] in
        let state : IsState b.declared (state_after began kept.runs) = subst (IsState b.declared) idle.state idle.is_state in (
          idle,
          record {
            active = can.active;
            runs = idle.runs;
            count = idle.count;
            under_way = record {
              made = record {
                may_start = record { from_state = state; fit = can.fit; within = can.within };
                replies_fit = tt;
                asks_so = λ number ask at. absurd (none_is_some at);
              };
              few = omega arith;
              now = refl;
              no_outcome = refl;
              no_state = refl;
              no_end = refl;
              not_ended = refl;
            };
          },
        )

    -- ---- the open ask is answered

    -- the run with the reply to its open ask
    abbrev pub with_answer : (began : List ValueTree) (kept : MemberRecord) → IsPerforming b began kept → ℕ → Outcome → List ℕ → RunRecord
    with_answer began kept p step reply clock = record p.run { asks = p.waiting.before ++ answered_ask step reply clock p.waiting.ask ∷ [] }

    pub answered_next : (began : List ValueTree) (kept : MemberRecord) (p : IsPerforming b began kept) (step : ℕ) (reply : Outcome) (clock : List ℕ) → is_active kept.phase ≡ true → import_answers b.declared.imports p.waiting.ask.callee p.waiting.ask.procedure reply ≡ true → IsNext b began (record kept { runs = p.before }) step (with_answer began kept p step reply clock)
    answered_next began kept p step reply clock active fits =
        let state = state_after began p.before in
        let law = turn_is_lawful b state lawful (start_of p.run) p.run.started p.waiting.before _ p.waiting.made p.waiting.asking.turn in
        record {
          active = active;
          runs = p.runs;
          count = p.count;
          under_way = goes_on b state lawful step p.run p.waiting.before p.waiting.ask reply clock p.waiting.made p.waiting.asking law.0.few fits (λ spent. absurd (true≢false (sym spent ∙ p.waiting.waits.calls_left))) p.waiting.no_outcome p.waiting.no_state p.waiting.no_end p.waiting.not_ended;
        }

    pub replied_is : (began : List ValueTree) (kept : MemberRecord) (p : IsPerforming b began kept) (step : ℕ) (reply : Outcome) (clock : List ℕ) → with_reply step reply clock p.run ≡ with_answer began kept p step reply clock
    replied_is began kept p step reply clock = replied_same p.run p.waiting.before p.waiting.ask step reply clock p.waiting.asks_are

    -- what the record becomes is said of this run
    pub answered_is : (began : List ValueTree) (kept : MemberRecord) (p : IsPerforming b began kept) (step : ℕ) (reply : Outcome) (clock : List ℕ) → answer_open_ask b.turn began step reply clock kept ≡ with_run (record kept { runs = p.before }) (gone_on step (turns b (state_after began p.before) (start_of p.run)) most_turns (with_answer began kept p step reply clock))
    answered_is began kept p step reply clock =
        let front : front_of kept.runs ≡ p.before = ap front_of p.runs_are ∙ front_more p.before p.run in
        let last : last_of kept.runs ≡ Some p.run = ap last_of p.runs_are ∙ last_more p.before p.run in
        rw last (rw front (rw (replied_is began kept p step reply clock) refl))

  -- ---- other acts

  pub idle_in : (phase : Joiner) (began : List ValueTree) (kept : MemberRecord) → IsIdle b began kept → IsIdle b began (record kept { phase = phase })
  idle_in phase began kept h = record { runs = h.runs; count = h.count; state = h.state; is_state = h.is_state }

  abbrev pub performing_in : (phase : Joiner) (began : List ValueTree) (kept : MemberRecord) → IsPerforming b began kept → IsPerforming b began (record kept { phase = phase })
  performing_in phase began kept h =
      record { before = h.before; run = h.run; runs_are = h.runs_are; runs = h.runs; waiting = h.waiting; count = h.count; state = h.state }

  in_phase : (phase : Joiner) (began : List ValueTree) (kept : MemberRecord) → (is_active phase ≡ false → is_active kept.phase ≡ false) → IsRecord b began kept → IsRecord b began (record kept { phase = phase })
  in_phase phase began kept same h =
      record {
        now = elim h.now [ inl idle ↦ inl (idle_in phase began kept idle) | inr p ↦ inr (performing_in phase began kept p) ];
        inactive = λ inactive. h.inactive (same inactive);
      }

-- a member that has performed nothing
pub none_performed : (b : Behaviour) (phase : Joiner) (from step : ℕ) (state : List ValueTree) → from ≤ last_count → IsState b.declared state → IsIdle b state (record { phase = phase; from = from; active_at = step; count = from; runs = []; state = state })
none_performed b phase from step state within is_state =
    record {
      runs = λ number run at. absurd (none_is_some at);
      count = omega (arith, within);
      state = refl;
      is_state = is_state;
    }

pub still_inactive_joining : (phase : Joiner) → is_active (after_join phase) ≡ false → is_active phase ≡ false
still_inactive_joining Outside h = refl
still_inactive_joining Asking h = refl
still_inactive_joining (Fetching incarnation) h = refl
still_inactive_joining (Active first) h = h

pub still_inactive_taken : (table : Table) (phase : Joiner) → is_active (after_table table phase) ≡ false → is_active phase ≡ false
still_inactive_taken table Outside h = refl
still_inactive_taken table Asking h = refl
still_inactive_taken table (Fetching incarnation) h = refl
still_inactive_taken table (Active first) h = h

-- one that performs a run is active
pub performing_is_active : (b : Behaviour) (began : List ValueTree) (kept : MemberRecord) → IsPerforming b began kept → (is_active kept.phase ≡ false → kept.runs ≡ []) → is_active kept.phase ≡ true
performing_is_active b began kept p inactive = by_phase (is_active kept.phase) refl
  where
    by_phase : (a : Bool) → is_active kept.phase ≡ a → is_active kept.phase ≡ true
    by_phase true is = is
    by_phase false is =
        let none : length (p.before ++ p.run ∷ []) ≡ 0 = ap length (sym p.runs_are ∙ inactive is) in
        absurd (omega (arith, none, length-append p.before (p.run ∷ [])))

-- ---- every list of acts

active_isn't : (kept : MemberRecord) → is_active kept.phase ≡ true → is_active kept.phase ≡ false → ⊥
active_isn't kept active inactive = true≢false (sym active ∙ inactive)

pub fetching_is_inactive : (phase : Joiner) → is_fetching phase ≡ true → is_active phase ≡ false
fetching_is_inactive Outside h = refl
fetching_is_inactive Asking h = refl
fetching_is_inactive (Fetching incarnation) h = refl
fetching_is_inactive (Active first) h = absurd (true≢false (sym h))

activates : (b : Behaviour) (step : ℕ) (state : List ValueTree) (count : ℕ) (p : Performing Behaviour) → IsState b.declared state → count ≤ last_count → IsRecord b p.began p.kept → IsRecord b (activate step state count p).began (activate step state count p).kept
activates b step state count p is_state within h = by_test (is_fetching p.kept.phase) refl
  where
    by_test : (f : Bool) → is_fetching p.kept.phase ≡ f → IsRecord b (cond f (made_active step state count p) p).began (cond f (made_active step state count p) p).kept
    by_test false is = h
    by_test true is =
        let none : p.kept.runs ≡ [] = h.inactive (fetching_is_inactive p.kept.phase is) in
        rw none (record { now = inl (none_performed b (Active count) count step state within is_state); inactive = λ _. refl })

-- what each lawful act keeps
pub act_keeps : (b : Behaviour) → IsModule b → (act : Act) (p : Performing Behaviour) → CanHappen b act p.kept → IsRecord b p.began p.kept → IsRecord b (after b act p).began (after b act p).kept
act_keeps b lawful Joins p can h = in_phase b (after_join p.kept.phase) p.began p.kept (still_inactive_joining p.kept.phase) h
act_keeps b lawful (Tabled table) p can h = in_phase b (after_table table p.kept.phase) p.began p.kept (still_inactive_taken table p.kept.phase) h
act_keeps b lawful (Activates step state count) p can h = activates b step state count p can.0 can.1 h
act_keeps b lawful (Enters step start) p can h =
    let next = entered_next b lawful p.began p.kept step start h can in
    record {
      now = rw next.0.state (settled b lawful p.began p.kept step (begin_run step start) next.1);
      inactive = λ inactive. absurd (active_isn't p.kept can.active inactive);
    }
act_keeps b lawful (Answers step reply clock) p can h = elim h.now [
  | inl idle ↦ absurd (none_is_some (sym (idle_has_none b p.began p.kept idle) ∙ can.is_open))
  | inr performing ↦
      let active = performing_is_active b p.began p.kept performing h.inactive in
      let same : performing.waiting.ask ≡ can.ask = same_Some _ _ (sym (performing_has_one b p.began p.kept performing) ∙ can.is_open) in
      let next = answered_next b lawful p.began p.kept performing step reply clock active (rw same can.fits) in
      subst (IsRecord b p.began) (sym (answered_is b lawful p.began p.kept performing step reply clock))
      (record {
        now = settled b lawful p.began (record p.kept { runs = performing.before }) step (with_answer b lawful p.began p.kept performing step reply clock) next;
        inactive = λ inactive. absurd (active_isn't p.kept active inactive);
      })
]

pub acts_keep : (b : Behaviour) (acts : Acts) → IsModule b → AreLawful b acts → IsRecord b (performed_by b acts).began (performed_by b acts).kept
acts_keep b as_founder lawful can =
    record { now = inl (none_performed b (Active 0) 0 0 b.first (omega arith) lawful.first_is_state); inactive = λ _. refl }
acts_keep b as_spare lawful can =
    record { now = inl (none_performed b Outside 0 0 b.first (omega arith) lawful.first_is_state); inactive = λ _. refl }
acts_keep b (more acts act) lawful can = act_keeps b lawful act (performed_by b acts) can.1 (acts_keep b acts lawful can.0)
