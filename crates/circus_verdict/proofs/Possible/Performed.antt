-- A run of a record may stand in the record of a node, as far as it goes.
use Rattle.std.specs.List.{AllByRecursion}
use Rattle.std.specs.Prelude.{slice_get, slice_index, unwrap_or}
use Rattle.std.proofs.Common.{◌≡◌, ℕ, zero, suc, ◌+◌, ◌<◌, ◌≤◌, ◌^◌, ◌⊎◌, inl, inr, Bool, true, false, List, [], ◌∷◌, ◌++◌, length, take, Some, refl, sym, ap, subst, ◌∙◌, arith, length-append}
use Rattle.std.proofs.lemmas.List.{take-append-le, length-take-le}
use Rattle.std.proofs.lemmas.Option.{slice_get_within}
use Rattle.circus_value.specs.Fits.{all_fit}
use Rattle.circus_value.specs.ValueTree.{ValueTree}
use Rattle.circus_value.specs.declared.outcome.Outcome.{Outcome}
use Rattle.circus_model.specs.NextTurn.{asks, ends}
use Rattle.circus_model.specs.Behaviour.{Behaviour, IsModule}
use Rattle.circus_model.specs.Execution.{is_spent}
use Rattle.circus_limits.specs.Limits.{most_asks}
use Rattle.circus_model.specs.Lawful.{CanStart, IsLawful}
use Rattle.circus_model.proofs.Lookups.{grown, old_or_added, within}
use Rattle.circus_config.specs.declared.plan.Plan.{Plan}
use Rattle.circus_record.specs.declared.record.AskRecord.{AskRecord}
use Rattle.circus_record.specs.declared.record.RunRecord.{RunRecord}
use Rattle.circus_performing.specs.Performing.{clock_after, step_after, replies_of}
use Rattle.circus_performing.specs.Record.{start_of, HasMade, HasEnded, IsOpen}
use Rattle.circus_performing.specs.Record as record_
use Rattle.circus_performing.proofs.Ends.{latest_more, replies_more}
use Rattle.circus_performing.proofs.Records.{none_is_some}
use Rattle.circus_performing.proofs.Turns.{made_more, turn_is_lawful}
use Rattle.circus_node.specs.Accepting.{is_root}
use Rattle.circus_audit.specs.Possible.{AreWords, AreLongs, IsClock, IsStep, IsAsk, IsAnswered, IsStarted, IsEnded, IsWaiting}

-- ---- lists

pub each_from : {X : Type 0} (P : X → Type 0) (xs : List X) → ((k : ℕ) (x : X) → slice_get xs k ≡ Some x → P x) → AllByRecursion P xs
each_from P [] each = tt
each_from P (x ∷ xs) each = (each 0 x refl, each_from P xs (λ k y at. each (suc k) y at))

taken_more : {X : Type 0} (xs : List X) (k : ℕ) (x : X) → slice_get xs k ≡ Some x → take (suc k) xs ≡ take k xs ++ x ∷ []
taken_more [] k x is = absurd (none_is_some is)
taken_more (y ∷ xs) zero x is = ap (λ z. z ∷ []) (let same : y ≡ x = cc in same)
taken_more (y ∷ xs) (suc k) x is = ap (λ l. y ∷ l) (taken_more xs k x is)

taken_all : {X : Type 0} (xs : List X) → take (length xs) xs ≡ xs
taken_all [] = refl
taken_all (x ∷ xs) = ap (λ l. x ∷ l) (taken_all xs)

-- a number of a clock
pub long_at : (clock : List ℕ) (k : ℕ) → AreLongs clock → slice_index clock k < 2 ^ 32
long_at [] k are = omega arith
long_at (n ∷ clock) zero are = are.0
long_at (n ∷ clock) (suc k) are = long_at clock k are.1

one_reply_more : (made : List AskRecord) (ask : AskRecord) (reply : Outcome) → ask.reply ≡ Some reply → length (replies_of made) ≡ length made
    → length (replies_of (made ++ ask ∷ [])) ≡ length (made ++ ask ∷ [])
one_reply_more made ask reply is same =
    ap length (replies_more made ask reply is) ∙ length-append (replies_of made) (reply ∷ []) ∙ ap (λ n. n + 1) same ∙ sym (length-append made (ask ∷ []))

-- ---- a run

module _ (plan : Plan) (b : Behaviour) (lawful : IsModule b) (events : ℕ) where
  -- how it was started, but for its arguments
  pub record StartsWell (run : RunRecord) : Type 0 where
    pub root : is_root plan.deployment run.root ≡ true
    pub path : AreWords run.path
    pub clock : IsClock plan run.entry
    pub started : IsStep plan b.declared events run.started

  -- an ask shows such a clock and step, if any
  pub record ShowsWell (ask : AskRecord) : Type 0 where
    pub clock : (after : List ℕ) → ask.after ≡ Some after → IsClock plan after
    pub step : (answered : ℕ) → ask.answered ≡ Some answered → IsStep plan b.declared events answered

  -- asks that a run made: where its thread had calls left, each shows what it may
  abbrev pub ShowWell : RunRecord → List AskRecord → Type 0
  ShowWell run made =
      (k : ℕ) (ask : AskRecord) → slice_get made k ≡ Some ask → is_spent (clock_after run.entry (take k made)) ≡ false → ShowsWell ask

  module _ (state : List ValueTree) (run : RunRecord) (starts : StartsWell run) where
    record SoFar (made : List AskRecord) : Type 0 where
      has_made : HasMade b state (start_of run) run.started made
      clock : IsClock plan (clock_after run.entry made)
      step : IsStep plan b.declared events (step_after run.started made)
      replies : length (replies_of made) ≡ length made

    lawful_ask : (made : List AskRecord) (ask : AskRecord) → SoFar made → record_.IsMade b state (start_of run) run.started made ask
        → IsLawful b.declared run.procedure (length (replies_of made)) (asks ask.callee ask.procedure ask.arguments ask.state)
    lawful_ask made ask h is =
        turn_is_lawful b state lawful (start_of run) run.started made (asks ask.callee ask.procedure ask.arguments ask.state) h.has_made is.turn

    few_before : (made : List AskRecord) (ask : AskRecord) → SoFar made → record_.IsMade b state (start_of run) run.started made ask → length made < most_asks
    few_before made ask h is = (let few = (lawful_ask made ask h is).0.few in let same = h.replies in omega (arith, few, same))

    is_ask : (made : List AskRecord) (ask : AskRecord) → SoFar made → record_.IsMade b state (start_of run) run.started made ask → IsAsk plan b.declared events ask
    is_ask made ask h is =
        let law = lawful_ask made ask h is in
        record {
          takes = law.0.fit;
          index = subst (λ n. n < 2 ^ 32) (sym is.index) (long_at (clock_after run.entry made) ask.callee h.clock.1);
          state = law.1.fits;
          asked = subst (IsStep plan b.declared events) (sym is.asked) h.step;
        }

    is_answered : (made : List AskRecord) (ask : AskRecord) → SoFar made → record_.IsMade b state (start_of run) run.started made ask
        → record_.IsAnswered b (start_of run) made ask → (is_spent (clock_after run.entry made) ≡ false → ShowsWell ask) → IsAnswered plan b.declared events ask
    is_answered made ask h is answered shows = by_spent (is_spent (clock_after run.entry made)) refl
      where
        by_spent : (t : Bool) → is_spent (clock_after run.entry made) ≡ t → IsAnswered plan b.declared events ask
        by_spent true spent =
            let refused = answered.refused spent in
            record {
              made = is_ask made ask h is;
              reply = answered.reply;
              after = answered.after;
              step = answered.answered;
              is_reply = answered.reply_is;
              is_after = answered.after_is;
              is_step = answered.answered_is;
              answers = answered.fits;
              clock = subst (IsClock plan) (sym refused.1) h.clock;
              answered = subst (IsStep plan b.declared events) (sym (refused.2 ∙ is.asked)) h.step;
            }
        by_spent false left =
            record {
              made = is_ask made ask h is;
              reply = answered.reply;
              after = answered.after;
              step = answered.answered;
              is_reply = answered.reply_is;
              is_after = answered.after_is;
              is_step = answered.answered_is;
              answers = answered.fits;
              clock = (shows left).clock answered.after answered.after_is;
              answered = (shows left).step answered.answered answered.answered_is;
            }

    more_so_far : (made : List AskRecord) (ask : AskRecord) → SoFar made → record_.IsMade b state (start_of run) run.started made ask
        → record_.IsAnswered b (start_of run) made ask → (is_spent (clock_after run.entry made) ≡ false → ShowsWell ask) → SoFar (made ++ ask ∷ [])
    more_so_far made ask h is answered shows =
        let a = is_answered made ask h is answered shows in
        record {
          has_made = made_more b state (start_of run) run.started made ask h.has_made is answered;
          clock =
              subst (IsClock plan) (sym (latest_more (λ (x : AskRecord). x.after) run.entry made ask ∙ ap (λ o. unwrap_or o (clock_after run.entry made)) a.is_after)) a.clock;
          step =
              subst (IsStep plan b.declared events)
              (sym (latest_more (λ (x : AskRecord). x.answered) run.started made ask ∙ ap (λ o. unwrap_or o (step_after run.started made)) a.is_step)) a.answered;
          replies = one_reply_more made ask a.reply a.is_reply h.replies;
        }

    module _ (made : List AskRecord) (h : HasMade b state (start_of run) run.started made) (shown : ShowWell run made) where
      so_far : (k : ℕ) → k ≤ length made → SoFar (take k made)
      so_far zero low =
          record {
            has_made = record { may_start = h.may_start; replies_fit = tt; asks_so = λ number ask at. absurd (none_is_some at) };
            clock = starts.clock;
            step = starts.started;
            replies = refl;
          }
      so_far (suc k) low =
          let one = within made k (omega (arith, low)) in
          let so = h.asks_so k one.0 one.1 in
          subst SoFar (sym (taken_more made k one.0 one.1)) (more_so_far (take k made) one.0 (so_far k (omega (arith, low))) so.0 so.1 (shown k one.0 one.1))

      all_so_far : SoFar made
      all_so_far = subst SoFar (taken_all made) (so_far (length made) (omega arith))

      asked_well : (k : ℕ) (ask : AskRecord) → slice_get made k ≡ Some ask → IsAsk plan b.declared events ask × (k < most_asks)
      asked_well k ask at =
          let low = slice_get_within made k ask at in
          let before = so_far k (omega (arith, low)) in
          let so = (h.asks_so k ask at).0 in
          let few = few_before (take k made) ask before so in
          let long = length-take-le k made (omega (arith, low)) in
          (is_ask (take k made) ask before so, omega (arith, few, long))

      all_answered : AllByRecursion (IsAnswered plan b.declared events) made
      all_answered =
          each_from (IsAnswered plan b.declared events) made
          (λ k ask at. let so = h.asks_so k ask at in let low = slice_get_within made k ask at in
          is_answered (take k made) ask (so_far k (omega (arith, low))) so.0 so.1 (shown k ask at))

    is_started : CanStart b.declared state run.procedure run.arguments → IsStarted plan b.declared events run
    is_started can = record { root = starts.root; path = starts.path; takes = can.fit; clock = starts.clock; started = starts.started }

    pub has_ended : HasEnded b state run → ShowWell run run.asks → IsEnded plan b.declared events run
    has_ended e shown =
        let all = all_so_far run.asks e.made shown in
        let law = turn_is_lawful b state lawful (start_of run) run.started run.asks (ends e.outcome e.after) e.made e.turn in
        record {
          began = is_started e.made.may_start;
          asks = all_answered run.asks e.made shown;
          outcome = e.outcome;
          state = e.after;
          after = clock_after run.entry run.asks;
          step = step_after run.started run.asks;
          is_outcome = e.outcome_is;
          is_state = e.state_is;
          is_after = e.end_is;
          is_step = e.ended_is;
          ends = law.0.fits;
          fits = law.1.fits;
          clock = all.clock;
          ended = all.step;
        }

    shown_before : (before : List AskRecord) (ask : AskRecord) → run.asks ≡ before ++ ask ∷ [] → ShowWell run run.asks → ShowWell run before
    shown_before before ask are shown k one at left =
        let low = slice_get_within before k one at in
        let same : take k run.asks ≡ take k before = ap (take k) are ∙ take-append-le k before (ask ∷ []) (omega (arith, low)) in
        shown k one (ap (λ l. slice_get l k) are ∙ grown before (ask ∷ []) k one at) (ap (λ l. is_spent (clock_after run.entry l)) same ∙ left)

    pub is_waiting : IsOpen b state run → ShowWell run run.asks → IsWaiting plan b.declared events run
    is_waiting o shown =
        let earlier = shown_before o.before o.ask o.asks_are shown in
        let all = all_so_far o.before o.made earlier in
        record {
          began = is_started o.made.may_start;
          before = o.before;
          last = o.ask;
          asks = o.asks_are;
          answered = all_answered o.before o.made earlier;
          waits = record { made = is_ask o.before o.ask all o.asking; reply = o.waits.no_reply; after = o.waits.no_clock; answered = o.waits.not_answered };
          outcome = o.no_outcome;
          state = o.no_state;
          after = o.no_end;
          ended = o.not_ended;
        }

    -- the state in which it waits is one of the module
    pub waiting_state : (o : IsOpen b state run) → ShowWell run run.asks → all_fit b.declared.variables o.ask.state ≡ true
    waiting_state o shown = (is_ask o.before o.ask (all_so_far o.before o.made (shown_before o.before o.ask o.asks_are shown)) o.asking).state

    -- its asks, and how many they are at most
    pub asks_ended : HasEnded b state run → ShowWell run run.asks → (k : ℕ) (ask : AskRecord) → slice_get run.asks k ≡ Some ask → IsAsk plan b.declared events ask × (k < most_asks)
    asks_ended e shown = asked_well run.asks e.made shown

    pub asks_open : IsOpen b state run → ShowWell run run.asks → (k : ℕ) (ask : AskRecord) → slice_get run.asks k ≡ Some ask → IsAsk plan b.declared events ask × (k < most_asks)
    asks_open o shown k ask at = by_place (old_or_added o.before o.ask k ask (ap (λ l. slice_get l k) (sym o.asks_are) ∙ at))
      where
        earlier : ShowWell run o.before
        earlier = shown_before o.before o.ask o.asks_are shown

        all : SoFar o.before
        all = all_so_far o.before o.made earlier

        by_place : (slice_get o.before k ≡ Some ask) ⊎ ((k ≡ length o.before) × (o.ask ≡ ask)) → IsAsk plan b.declared events ask × (k < most_asks)
        by_place (inl old) = asked_well o.before o.made earlier k ask old
        by_place (inr added) =
            let few = few_before o.before o.ask all o.asking in
            let same = added.0 in
            (subst (IsAsk plan b.declared events) added.1 (is_ask o.before o.ask all o.asking), omega (arith, few, same))
