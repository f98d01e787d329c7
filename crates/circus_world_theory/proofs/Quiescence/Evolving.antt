-- How a record goes on as a run is entered or its open ask is answered: which asks are new, and which of them are open.
use Rattle.std.proofs.Common.{◌≡◌, ◌⊎◌, inl, inr, ℕ, zero, suc, ◌+◌, ◌-◌, ◌<◌, ◌≤◌, Bool, true, false, cond, List, [], ◌∷◌, ◌++◌, length, take, Option, None, Some, refl, sym, ap, subst, ◌∙◌, arith, length-append, append_assoc}
use Rattle.std.specs.Prelude.{slice_get, is_none, option_and_then}
use Rattle.std.proofs.lemmas.Bool.{cases_lt}
use Rattle.std.proofs.lemmas.List.{append-nil, take-append-le}
use Rattle.std.proofs.lemmas.Option.{same_Some, slice_get_within}
use Rattle.circus_value.specs.ValueTree.{ValueTree}
use Rattle.circus_value.specs.declared.outcome.Outcome.{Outcome}
use Rattle.circus_model.specs.NextTurn.{NextTurn, asks, ends}
use Rattle.circus_model.specs.Execution.{is_spent}
use Rattle.circus_model.specs.Behaviour.{Behaviour, IsModule}
use Rattle.circus_model.proofs.Lookups.{grown, at_end, old_or_added}
use Rattle.circus_record.specs.declared.record.AskRecord.{AskRecord}
use Rattle.circus_record.specs.declared.record.RunRecord.{RunRecord}
use Rattle.circus_record.specs.declared.record.MemberRecord.{MemberRecord}
use Rattle.circus_performing.specs.declared.start.RunStart.{RunStart}
use Rattle.circus_performing.specs.Performing.{clock_after, open_ask, last_of, unless_replied, begin_run, made_ask, answered_ask, with_refusal, turn_run, gone_on, with_run, most_turns, answer_open_ask, state_after}
use Rattle.circus_performing.specs.Record.{start_of, turns, IsPerforming}
use Rattle.circus_performing.proofs.Ends.{last_more}
use Rattle.circus_performing.proofs.Records.{with_answer, answered_is}
use Rattle.circus_world_theory.specs.Told.{Recorded, IsOpenAt}

-- ---- the asks of a run that goes on

no_item : {X : Type 0} (k : ℕ) (x : X) → slice_get [] k ≡ Some x → ⊥
no_item k x h = cc

-- the asks that it makes: those for which calls are left are the last one, which has no reply
pub record GoneOn (run gone : RunRecord) : Type 0 where
  pub more : List AskRecord
  pub asks_are : gone.asks ≡ run.asks ++ more
  pub entry : gone.entry ≡ run.entry
  pub last : (k : ℕ) (a : AskRecord) → slice_get more k ≡ Some a → is_spent (clock_after run.entry (run.asks ++ take k more)) ≡ false → (suc k ≡ length more) × (a.reply ≡ None)

none_more : (run gone : RunRecord) → gone.asks ≡ run.asks → gone.entry ≡ run.entry → GoneOn run gone
none_more run gone same entry = record { more = []; asks_are = same ∙ sym (append-nil run.asks); entry = entry; last = λ k a at left. absurd (no_item k a at) }

one_open : (run gone : RunRecord) (ask : AskRecord) → gone.asks ≡ run.asks ++ ask ∷ [] → gone.entry ≡ run.entry → ask.reply ≡ None → GoneOn run gone
one_open run gone ask same entry none = record { more = ask ∷ []; asks_are = same; entry = entry; last = only }
  where
    only : (k : ℕ) (a : AskRecord) → slice_get (ask ∷ []) k ≡ Some a → is_spent (clock_after run.entry (run.asks ++ take k (ask ∷ []))) ≡ false → (suc k ≡ length (ask ∷ [])) × (a.reply ≡ None)
    only zero a at left = (refl, ap (λ (x : AskRecord). x.reply) (sym (same_Some ask a at)) ∙ none)
    only (suc k) a at left = absurd (no_item k a at)

refused_first : (run refused gone : RunRecord) (ask : AskRecord) → refused.asks ≡ run.asks ++ ask ∷ [] → refused.entry ≡ run.entry → is_spent (clock_after run.entry run.asks) ≡ true → GoneOn refused gone → GoneOn run gone
refused_first run refused gone ask asks_are entry spent on = record {
  more = ask ∷ on.more;
  asks_are = on.asks_are ∙ ap (λ l. l ++ on.more) asks_are ∙ append_assoc run.asks (ask ∷ []) on.more;
  entry = on.entry ∙ entry;
  last = later;
}
  where
    later : (k : ℕ) (a : AskRecord) → slice_get (ask ∷ on.more) k ≡ Some a → is_spent (clock_after run.entry (run.asks ++ take k (ask ∷ on.more))) ≡ false → (suc k ≡ suc (length on.more)) × (a.reply ≡ None)
    later zero a at left = absurd (let no_ : is_spent (clock_after run.entry run.asks) ≡ false = subst (λ l. is_spent (clock_after run.entry l) ≡ false) (append-nil run.asks) left in let clash : true ≡ false = sym spent ∙ no_ in cc)
    later (suc k) a at left =
        let moved : run.asks ++ ask ∷ take k on.more ≡ refused.asks ++ take k on.more = sym (append_assoc run.asks (ask ∷ []) (take k on.more)) ∙ ap (λ l. l ++ take k on.more) (sym asks_are) in
        let r = on.last k a at (subst (λ e. is_spent (clock_after e (refused.asks ++ take k on.more)) ≡ false) (sym entry) (subst (λ l. is_spent (clock_after run.entry l) ≡ false) moved left)) in
        (ap suc r.0, r.1)

pub goes_on : (step : ℕ) (turn : List Outcome → NextTurn) (left : ℕ) (run : RunRecord) → GoneOn run (gone_on step turn left run)
unfolding gone_on
goes_on step turn zero run = none_more run run refl refl
goes_on step turn (suc left) run = by_turn (goes_on step turn left) (turn _)
  where
    by_turn : ((r : RunRecord) → GoneOn r (gone_on step turn left r)) → (next : NextTurn) → GoneOn run (turn_run step (gone_on step turn left) run next)
    by_turn rest (ends outcome state) = none_more run _ refl refl
    by_turn rest (asks callee procedure arguments state) = by_clock (is_spent (clock_after run.entry run.asks)) refl
      where
        by_clock : (spent : Bool) → is_spent (clock_after run.entry run.asks) ≡ spent
            → GoneOn run (cond spent (gone_on step turn left (with_refusal step callee procedure arguments state run)) (record run { asks = run.asks ++ made_ask step (clock_after run.entry run.asks) callee procedure arguments state ∷ [] }))
        by_clock true spent = refused_first run (with_refusal step callee procedure arguments state run) _ _ refl refl spent (rest (with_refusal step callee procedure arguments state run))
        by_clock false spent = one_open run _ (made_ask step (clock_after run.entry run.asks) callee procedure arguments state) refl refl refl

-- ---- the asks of a record

-- an ask of this number of the run with this index
pub record Named (kept : MemberRecord) (index number : ℕ) : Type 0 where
  pub run : RunRecord
  pub run_is : slice_get kept.runs index ≡ Some run
  pub within : number < length run.asks

-- a record that went on
pub record Grows (old new : MemberRecord) : Type 0 where
  pub longer : length old.runs ≤ length new.runs
  pub named : (index number : ℕ) → Named old index number → Named new index number
  pub recorded : (index number callee : ℕ) → Recorded new index number callee → Recorded old index number callee ⊎ IsOpenAt new index number callee
  pub fresh : (index number callee : ℕ) → IsOpenAt new index number callee → Named old index number → ⊥

-- the open ask is the last one of the last run
open_last : (kept : MemberRecord) (before : List RunRecord) (run : RunRecord) (asks_before : List AskRecord) (ask : AskRecord) → kept.runs ≡ before ++ run ∷ [] → run.asks ≡ asks_before ++ ask ∷ [] → ask.reply ≡ None → open_ask kept ≡ Some ask
open_last kept before run asks_before ask runs_are asks_are none =
    ap (λ o. option_and_then (λ (r : RunRecord). option_and_then unless_replied (last_of r.asks)) o) (ap last_of runs_are ∙ last_more before run)
    ∙ ap (λ o. option_and_then unless_replied o) (ap last_of asks_are ∙ last_more asks_before ask)
    ∙ ap (λ (o : Option Outcome). cond (is_none o) (Some ask) None) none

open_is_last : (kept : MemberRecord) (run : RunRecord) (ask : AskRecord) → last_of kept.runs ≡ Some run → open_ask kept ≡ Some ask → (slice_get run.asks (length run.asks - 1) ≡ Some ask) × (ask.reply ≡ None)
open_is_last kept run ask last is = by_ask (last_of run.asks) refl (sym (ap (λ o. option_and_then (λ (r : RunRecord). option_and_then unless_replied (last_of r.asks)) o) last) ∙ is)
  where
    by_reply : (a : AskRecord) (o : Option Outcome) → a.reply ≡ o → cond (is_none o) (Some a) None ≡ Some ask → (a ≡ ask) × (a.reply ≡ None)
    by_reply a None none some = (same_Some a ask some, none)
    by_reply a (Some r) none some = absurd (let clash : ◌≡◌ {A = Option AskRecord} None (Some ask) = some in cc)

    by_ask : (o : Option AskRecord) → last_of run.asks ≡ o → option_and_then unless_replied o ≡ Some ask → (last_of run.asks ≡ Some ask) × (ask.reply ≡ None)
    by_ask None at some = absurd (let clash : ◌≡◌ {A = Option AskRecord} None (Some ask) = some in cc)
    by_ask (Some a) at some = (let r = by_reply a a.reply refl some in (at ∙ ap (λ (x : AskRecord). Some x) r.0, ap (λ (x : AskRecord). x.reply) (sym r.0) ∙ r.1))

split_last : {X : Type 0} (xs : List X) (k : ℕ) (x : X) → slice_get xs k ≡ Some x → suc k ≡ length xs → (before : List X) × (xs ≡ before ++ x ∷ []) × (length before ≡ k)
split_last [] k x at last = absurd (no_item k x at)
split_last (y ∷ []) zero x at last = ([], ap (λ z. z ∷ []) (same_Some y x at), refl)
split_last (y ∷ z ∷ xs) zero x at last = absurd (omega (arith, last))
split_last (y ∷ xs) (suc k) x at last = (let r = split_last xs k x at (omega (arith, last)) in (y ∷ r.0, ap (λ l. y ∷ l) r.1, ap suc r.2))

-- where a place of two lists put together is
in_parts : {X : Type 0} (xs ys : List X) (k : ℕ) (x : X) → slice_get (xs ++ ys) k ≡ Some x → ((k < length xs) × (slice_get xs k ≡ Some x)) ⊎ ((j : ℕ) × (k ≡ length xs + j) × (slice_get ys j ≡ Some x))
in_parts [] ys k x at = inr (k, omega arith, at)
in_parts (y ∷ xs) ys zero x at = inl (omega arith, at)
in_parts (y ∷ xs) ys (suc k) x at = elim (in_parts xs ys k x at) [
  | inl first ↦ (let below = first.0 in inl (omega (arith, below), first.1))
  | inr second ↦ (let is = second.1 in inr (second.0, omega (arith, is), second.2))
]

take_whole : {X : Type 0} (xs ys : List X) (j : ℕ) → take (length xs + j) (xs ++ ys) ≡ xs ++ take j ys
take_whole [] ys j = (let e : 0 + j ≡ j = omega arith in ap (λ n. take n ys) e)
take_whole (x ∷ xs) ys j = (let e : suc (length xs) + j ≡ suc (length xs + j) = omega arith in ap (λ n. take n (x ∷ xs ++ ys)) e ∙ ap (λ l. x ∷ l) (take_whole xs ys j))

-- a run behind others that has gone on so
module _ (kept : MemberRecord) (run gone : RunRecord) (on : GoneOn run gone) where
  abbrev next : MemberRecord
  next = with_run kept gone

  next_long : length next.runs ≡ length kept.runs + 1
  next_long = length-append kept.runs (gone ∷ [])

  -- an ask that it made with calls left is open
  new_open : (number j : ℕ) (a : AskRecord) (callee : ℕ) → number ≡ length run.asks + j → slice_get on.more j ≡ Some a → a.callee ≡ callee → is_spent (clock_after gone.entry (take number gone.asks)) ≡ false → IsOpenAt next (length kept.runs) number callee
  new_open number j a callee is at to left =
      let before : take number gone.asks ≡ run.asks ++ take j on.more = ap (λ n. take n gone.asks) is ∙ ap (λ l. take (length run.asks + j) l) on.asks_are ∙ take_whole run.asks on.more j in
      let fact : is_spent (clock_after run.entry (run.asks ++ take j on.more)) ≡ false = subst (λ l. is_spent (clock_after run.entry l) ≡ false) before (subst (λ e. is_spent (clock_after e (take number gone.asks)) ≡ false) on.entry left) in
      let last = on.last j a at fact in
      let parts = split_last on.more j a at last.0 in
      let long : length gone.asks ≡ length run.asks + length on.more = ap length on.asks_are ∙ length-append run.asks on.more in
      let all = next_long in
      record {
        run = gone;
        ask = a;
        last = last_more kept.runs gone;
        is_open = open_last next kept.runs gone (run.asks ++ parts.0) a refl (on.asks_are ∙ ap (λ l. run.asks ++ l) parts.1 ∙ sym (append_assoc run.asks parts.0 (a ∷ []))) last.1;
        callee_is = to;
        index_is = omega (arith, all);
        number_is = omega (arith, is, last.0, long);
      }

  -- where the last ask that it had made has a reply, the open one is new
  open_new : (index number callee : ℕ) → ((k : ℕ) (a : AskRecord) → suc k ≡ length run.asks → slice_get run.asks k ≡ Some a → a.reply ≡ None → ⊥) → IsOpenAt next index number callee → (index ≡ length kept.runs) × (length run.asks ≤ number)
  open_new index number callee replied o = (omega (arith, next_long, o.index_is), by_place (cases_lt number (length run.asks)))
    where
      same : gone ≡ o.run
      same = same_Some gone o.run (sym (last_more kept.runs gone) ∙ o.last)

      facts : (slice_get o.run.asks (length o.run.asks - 1) ≡ Some o.ask) × (o.ask.reply ≡ None)
      facts = open_is_last next o.run o.ask o.last o.is_open

      number_is : suc number ≡ length gone.asks
      number_is = o.number_is ∙ ap (λ (r : RunRecord). length r.asks) (sym same)

      at : slice_get (run.asks ++ on.more) number ≡ Some o.ask
      at =
          let place : length o.run.asks - 1 ≡ number = omega (arith, o.number_is) in
          ap (λ l. slice_get l number) (sym on.asks_are) ∙ ap (λ (r : RunRecord). slice_get r.asks number) same ∙ ap (slice_get o.run.asks) (sym place) ∙ facts.0

      by_place : (number < length run.asks) ⊎ (length run.asks ≤ number) → length run.asks ≤ number
      by_place (inr above) = above
      by_place (inl below) =
          let long : length gone.asks ≡ length run.asks + length on.more = ap length on.asks_are ∙ length-append run.asks on.more in
          elim (in_parts run.asks on.more number o.ask at) [
            | inl here ↦ absurd (replied number o.ask (omega (arith, long, number_is, below)) here.1 facts.1)
            | inr there ↦ (let is = there.1 in absurd (omega (arith, is, below)))
          ]

-- ---- a run is entered

module _ (kept : MemberRecord) (step : ℕ) (turn : List Outcome → NextTurn) (start : RunStart) where
  abbrev first_run : RunRecord
  first_run = begin_run step start

  abbrev run_gone : RunRecord
  run_gone = gone_on step turn most_turns first_run

  begun_on : GoneOn first_run run_gone
  begun_on = goes_on step turn most_turns first_run

  pub entered_grows : Grows kept (with_run kept run_gone)
  entered_grows = record {
    longer = (let long = next_long kept first_run run_gone begun_on in omega (arith, long));
    named = λ index number n. record { run = n.run; run_is = grown kept.runs (run_gone ∷ []) index n.run n.run_is; within = n.within };
    recorded = recorded_so;
    fresh = λ index number callee o n. (
        let new = open_new kept first_run run_gone begun_on index number callee (λ k a last at none. no_item k a at) o in
        let within = slice_get_within kept.runs index n.run n.run_is in
        let is = new.0 in
        omega (arith, within, is));
  }
    where
      recorded_so : (index number callee : ℕ) → Recorded (with_run kept run_gone) index number callee → Recorded kept index number callee ⊎ IsOpenAt (with_run kept run_gone) index number callee
      recorded_so index number callee r = elim (old_or_added kept.runs run_gone index r.run r.run_is) [
        | inl old ↦ inl (record { run = r.run; ask = r.ask; run_is = old; ask_is = r.ask_is; callee_is = r.callee_is; calls_left = r.calls_left })
        | inr added ↦ (
            let at : slice_get begun_on.more number ≡ Some r.ask = ap (λ l. slice_get l number) (sym begun_on.asks_are) ∙ ap (λ (x : RunRecord). slice_get x.asks number) added.1 ∙ r.ask_is in
            let left : is_spent (clock_after run_gone.entry (take number run_gone.asks)) ≡ false = ap (λ (x : RunRecord). is_spent (clock_after x.entry (take number x.asks))) added.1 ∙ r.calls_left in
            let zero_ : number ≡ 0 + number = omega arith in
            inr (subst (λ i. IsOpenAt (with_run kept run_gone) i number callee) (sym added.0)
            (new_open kept first_run run_gone begun_on number number r.ask callee zero_ at r.callee_is left)))
      ]

-- ---- an ask is answered

module _ (b : Behaviour) (lawful : IsModule b) (began : List ValueTree) (kept : MemberRecord) (p : IsPerforming b began kept) (step : ℕ) (reply : Outcome) (clock : List ℕ) where
  abbrev before_it : MemberRecord
  before_it = record kept { runs = p.before }

  abbrev answered_run : RunRecord
  answered_run = with_answer b lawful began kept p step reply clock

  abbrev gone_then : RunRecord
  gone_then = gone_on step (turns b (state_after began p.before) (start_of p.run)) most_turns answered_run

  then_on : GoneOn answered_run gone_then
  then_on = goes_on step (turns b (state_after began p.before) (start_of p.run)) most_turns answered_run

  abbrev done_ask : AskRecord
  done_ask = answered_ask step reply clock p.waiting.ask

  long_before : length answered_run.asks ≡ length p.waiting.before + 1
  long_before = length-append p.waiting.before (done_ask ∷ [])

  long_asks : length p.run.asks ≡ length p.waiting.before + 1
  long_asks = ap length p.waiting.asks_are ∙ length-append p.waiting.before (p.waiting.ask ∷ [])

  long_gone : length gone_then.asks ≡ length answered_run.asks + length then_on.more
  long_gone = ap length then_on.asks_are ∙ length-append answered_run.asks then_on.more

  then_grows : Grows kept (with_run before_it gone_then)
  then_grows = record {
    longer = (let long = next_long before_it answered_run gone_then then_on in let was = ap length p.runs_are ∙ length-append p.before (p.run ∷ []) in omega (arith, long, was));
    named = named_so;
    recorded = recorded_so;
    fresh = λ index number callee o n. fresh_so index number n (open_new before_it answered_run gone_then then_on index number callee has_reply o);
  }
    where
      has_reply : (k : ℕ) (a : AskRecord) → suc k ≡ length answered_run.asks → slice_get answered_run.asks k ≡ Some a → a.reply ≡ None → ⊥
      has_reply k a last at none =
          let place : k ≡ length p.waiting.before = omega (arith, last, long_before) in
          let same : done_ask ≡ a = same_Some done_ask a (sym (at_end p.waiting.before done_ask) ∙ ap (slice_get answered_run.asks) (sym place) ∙ at) in
          let some : ◌≡◌ {A = Option Outcome} (Some reply) None = ap (λ (x : AskRecord). x.reply) same ∙ none in
          cc

      named_so : (index number : ℕ) → Named kept index number → Named (with_run before_it gone_then) index number
      named_so index number n = elim (old_or_added p.before p.run index n.run (ap (λ l. slice_get l index) (sym p.runs_are) ∙ n.run_is)) [
        | inl old ↦ record { run = n.run; run_is = grown p.before (gone_then ∷ []) index n.run old; within = n.within }
        | inr added ↦ (
            let within : number < length p.run.asks = subst (λ (x : RunRecord). number < length x.asks) (sym added.1) n.within in
            record {
              run = gone_then;
              run_is = ap (slice_get (p.before ++ gone_then ∷ [])) added.0 ∙ at_end p.before gone_then;
              within = omega (arith, within, long_asks, long_gone, long_before);
            })
      ]

      fresh_so : (index number : ℕ) → Named kept index number → (index ≡ length p.before) × (length answered_run.asks ≤ number) → ⊥
      fresh_so index number n new = elim (old_or_added p.before p.run index n.run (ap (λ l. slice_get l index) (sym p.runs_are) ∙ n.run_is)) [
        | inl old ↦ (let within = slice_get_within p.before index n.run old in let is = new.0 in omega (arith, within, is))
        | inr added ↦ (
            let within : number < length p.run.asks = subst (λ (x : RunRecord). number < length x.asks) (sym added.1) n.within in
            let least = new.1 in
            omega (arith, within, least, long_asks, long_before))
      ]

      -- an ask that the run had made, or its open one
      own_so : (number callee : ℕ) (ask : AskRecord) → slice_get gone_then.asks number ≡ Some ask → ask.callee ≡ callee → is_spent (clock_after gone_then.entry (take number gone_then.asks)) ≡ false → (number < length answered_run.asks) → Recorded kept (length p.before) number callee
      own_so number callee ask at to left below = by_place (in_parts p.waiting.before (done_ask ∷ []) number ask there)
        where
          there : slice_get (p.waiting.before ++ done_ask ∷ []) number ≡ Some ask
          there = elim (in_parts answered_run.asks then_on.more number ask (ap (λ l. slice_get l number) (sym then_on.asks_are) ∙ at)) [
            | inl here ↦ here.1
            | inr past ↦ (let is = past.1 in absurd (omega (arith, is, below)))
          ]

          fronts : (n : ℕ) → n ≤ length p.waiting.before → take n gone_then.asks ≡ take n p.run.asks
          fronts n le =
              ap (take n) then_on.asks_are
              ∙ take-append-le n answered_run.asks then_on.more (omega (arith, le, long_before))
              ∙ take-append-le n p.waiting.before (done_ask ∷ []) le
              ∙ sym (take-append-le n p.waiting.before (p.waiting.ask ∷ []) le)
              ∙ ap (take n) (sym p.waiting.asks_are)

          left_there : number ≤ length p.waiting.before → is_spent (clock_after p.run.entry (take number p.run.asks)) ≡ false
          left_there le = subst (λ l. is_spent (clock_after p.run.entry l) ≡ false) (fronts number le) (subst (λ e. is_spent (clock_after e (take number gone_then.asks)) ≡ false) then_on.entry left)

          run_there : slice_get kept.runs (length p.before) ≡ Some p.run
          run_there = ap (λ l. slice_get l (length p.before)) p.runs_are ∙ at_end p.before p.run

          by_place : ((number < length p.waiting.before) × (slice_get p.waiting.before number ≡ Some ask)) ⊎ ((j : ℕ) × (number ≡ length p.waiting.before + j) × (slice_get (done_ask ∷ []) j ≡ Some ask)) → Recorded kept (length p.before) number callee
          by_place (inl here) = (
              let less = here.0 in
              record {
                run = p.run;
                ask = ask;
                run_is = run_there;
                ask_is = ap (λ l. slice_get l number) p.waiting.asks_are ∙ grown p.waiting.before (p.waiting.ask ∷ []) number ask here.1;
                callee_is = to;
                calls_left = left_there (omega (arith, less));
              })
          by_place (inr (zero, is, same)) = (
              let end : number ≡ length p.waiting.before = omega (arith, is) in
              record {
                run = p.run;
                ask = p.waiting.ask;
                run_is = run_there;
                ask_is = ap (λ l. slice_get l number) p.waiting.asks_are ∙ ap (slice_get (p.waiting.before ++ p.waiting.ask ∷ [])) end ∙ at_end p.waiting.before p.waiting.ask;
                callee_is = ap (λ (x : AskRecord). x.callee) (same_Some done_ask ask same) ∙ to;
                calls_left = left_there (omega (arith, end));
              })
          by_place (inr (suc j, is, none)) = absurd (no_item j ask none)

      recorded_so : (index number callee : ℕ) → Recorded (with_run before_it gone_then) index number callee → Recorded kept index number callee ⊎ IsOpenAt (with_run before_it gone_then) index number callee
      recorded_so index number callee r = elim (old_or_added p.before gone_then index r.run r.run_is) [
        | inl old ↦ inl (record { run = r.run; ask = r.ask; run_is = ap (λ l. slice_get l index) p.runs_are ∙ grown p.before (p.run ∷ []) index r.run old; ask_is = r.ask_is; callee_is = r.callee_is; calls_left = r.calls_left })
        | inr added ↦ (
            let at : slice_get gone_then.asks number ≡ Some r.ask = ap (λ (x : RunRecord). slice_get x.asks number) added.1 ∙ r.ask_is in
            let left : is_spent (clock_after gone_then.entry (take number gone_then.asks)) ≡ false = ap (λ (x : RunRecord). is_spent (clock_after x.entry (take number x.asks))) added.1 ∙ r.calls_left in
            elim (in_parts answered_run.asks then_on.more number r.ask (ap (λ l. slice_get l number) (sym then_on.asks_are) ∙ at)) [
              | inl here ↦ inl (subst (λ i. Recorded kept i number callee) (sym added.0) (own_so number callee r.ask at r.callee_is left here.0))
              | inr more ↦ inr (subst (λ i. IsOpenAt (with_run before_it gone_then) i number callee) (sym added.0)
                  (new_open before_it answered_run gone_then then_on number more.0 r.ask callee more.1 more.2 r.callee_is left))
            ])
      ]

  pub answered_grows : Grows kept (answer_open_ask b.turn began step reply clock kept)
  answered_grows = subst (Grows kept) (sym (answered_is b lawful began kept p step reply clock)) then_grows
