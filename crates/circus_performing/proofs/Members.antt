-- What a member is as one of its runs goes on, and once it rests.
use Rattle.std.proofs.Common.{◌≡◌, ℕ, ◌+◌, ◌-◌, ◌<◌, ◌≤◌, true, false, true≢false, List, [], ◌∷◌, ◌++◌, length, Option, Some, None, inl, inr, refl, sym, subst, ap, ◌∙◌, arith, length-append}
use Rattle.std.specs.Prelude.{Result, IfOk, IfSome, IsSome, slice_get}
use Rattle.std.proofs.lemmas.Option.{same_Some}
use Rattle.circus_value.specs.ValueTree.{ValueTree}
use Rattle.circus_value.specs.declared.outcome.Outcome.{Outcome}
use Rattle.circus_transfer.specs.declared.joiner.Joiner.{Joiner}
use Rattle.circus_transfer.specs.declared.joiner.Joiner.TheVariants.{Active}
use Rattle.circus_model.specs.declared.turn.Turn.{Turn}
use Rattle.circus_model.specs.declared.turn.Turn.TheVariants as T
use Rattle.circus_limits.specs.Limits.{most_asks}
use Rattle.circus_model.specs.NextTurn.{asks, ends}
use Rattle.circus_model.specs.Lawful.{IsState, import_answers}
use Rattle.circus_model.specs.Gives.{Gives, CanResume}
use Rattle.circus_model.specs.Behaviour.{Behaviour, IsModule}
use Rattle.circus_model.specs.Execution.{is_spent}
use Rattle.circus_record.specs.declared.record.AskRecord.{AskRecord}
use Rattle.circus_record.specs.declared.record.RunRecord.{RunRecord}
use Rattle.circus_record.specs.declared.record.MemberRecord.{MemberRecord}
use Rattle.circus_performing.specs.declared.start.RunStart.{RunStart}
use Rattle.circus_performing.specs.declared.performer.Held.{Held}
use Rattle.circus_performing.specs.Performing.{Performing, state_after, clock_after, replies_of, last_of, front_of, is_active, is_fetching, active_record, begin_run, refusal, made_ask, with_ask, with_refusal, ended_run, gone_on, with_run, most_turns, last_count, answered_ask, with_reply, enter_run, answer_open_ask}
use Rattle.circus_performing.specs.Record.{start_of, turns, HasMade, IsIdle, IsPerforming, IsRecord}
use Rattle.circus_performing.specs.Acts.{CanEnter, CanAnswer}
use Rattle.circus_performing.specs.Seen.UnderWay.{IsMember, IsNext}
use Rattle.circus_performing.proofs.Turns.{turn_is_lawful, ends_so, waits_so, refused_so, refused_replies, refusal_fits, gone_to_end, gone_to_ask, gone_past_refusal}
use Rattle.circus_performing.proofs.Records.{idle_in, performing_in, idle_with, performing_with, idle_has_none, performing_has_one, none_performed, fetching_is_inactive, none_is_some, performing_is_active, entered_next, answered_next, answered_is, replied_is, with_answer}
use Rattle.circus_performing.proofs.Ends.{front_more, last_more, replies_more}

-- what is answered is equal to another
pub answered_same : {A E : Type 0} (r : Result A E) (one other : A) → one ≡ other → IfOk r (λ p. p ≡ one) → IfOk r (λ p. p ≡ other)
answered_same r one other e h = subst (λ x. IfOk r (λ p. p ≡ x)) e h

-- members that have kept the same are equal
-- what is seen of what stands in the box
abbrev pub performer_of : {M P : Type 0} → Held M P → Performing M
performer_of h = record { hosted = h.hosted; began = h.began; kept = h.kept }

-- and with a run behind the others
abbrev pub performer_with : {M P : Type 0} → Held M P → RunRecord → Performing M
performer_with h run = record { hosted = h.hosted; began = h.began; kept = with_run h.kept run }

pub member_same : {M : Type 0} (hosted : M) (began : List ValueTree) (kept other : MemberRecord) → kept ≡ other → let x : Performing M = record { hosted = hosted; began = began; kept = kept } in let y : Performing M = record { hosted = hosted; began = began; kept = other } in x ≡ y
member_same hosted began kept other e = λ j. record { hosted = hosted; began = began; kept = e j }

-- what is answered for a member, whose parts are these
pub result_for : {M E : Type 0} (f : Performing M → MemberRecord) (r : Result (Performing M) E) (inside self : Performing M) (made : MemberRecord) → inside ≡ self → made ≡ f inside → IfOk r (λ p. p ≡ record inside { kept = made }) → IfOk r (λ p. p ≡ record self { kept = f self })
result_for {M} f r inside self made view e h =
    subst (λ (s : Performing M). IfOk r (λ p. p ≡ record s { kept = f s })) view
    (subst (λ (k : MemberRecord). IfOk r (λ p. p ≡ record inside { kept = k })) e h)

-- lists with one item behind others
ends_same : {A : Type 0} (xs ys : List A) (x y : A) → xs ++ x ∷ [] ≡ ys ++ y ∷ [] → (xs ≡ ys) × (x ≡ y)
ends_same xs ys x y e = (
  sym (front_more xs x) ∙ ap front_of e ∙ front_more ys y,
  same_Some x y (sym (last_more xs x) ∙ ap last_of e ∙ last_more ys y),
)

-- the last ask that was made has the clock after it
pub clock_is_there : (b : Behaviour) (state : List ValueTree) (run : RunRecord) → HasMade b state (start_of run) run.started run.asks → IfSome (last_of run.asks) (λ (a : AskRecord). IsSome a.after)
clock_is_there b state run h = by_last (last_of run.asks) refl
  where
    by_last : (last : Option AskRecord) → last_of run.asks ≡ last → IfSome last (λ (a : AskRecord). IsSome a.after)
    by_last None is = tt
    by_last (Some ask) is =
        let so = (h.asks_so (length run.asks - 1) ask is).1 in
        rw so.after_is refl

module _ {P : Type 0} (stands : P → List ValueTree → ℕ → List ValueTree → List Outcome → Type 0) (b : Behaviour) (began : List ValueTree) where
  -- what a member's record shows
  pub record_of : (kept : MemberRecord) (paused : Option P) → IsMember stands b began kept paused → IsRecord b began kept
  record_of kept None h = record { now = inl h.now; inactive = h.inactive }
  record_of kept (Some paused) h = record { now = inr h.now.performing; inactive = h.inactive }

  -- in another phase, which is active where this one is
  pub member_in : (phase : Joiner) (kept : MemberRecord) (paused : Option P) → (is_active phase ≡ false → is_active kept.phase ≡ false) → IsMember stands b began kept paused → IsMember stands b began (record kept { phase = phase }) paused
  member_in phase kept None same h = record { now = idle_in b phase began kept h.now; inactive = λ inactive. h.inactive (same inactive) }
  member_in phase kept (Some paused) same h =
      record {
        now = record { performing = performing_in b phase began kept h.now.performing; stand = h.now.stand };
        inactive = λ inactive. h.inactive (same inactive);
      }

  -- ---- as a run goes on

  -- the run that began as `first` and its next turn
  pub record IsGoing (kept : MemberRecord) (step : ℕ) (first run : RunRecord) (turn : Turn P) : Type 0 where
    pub next : IsNext b began kept step run
    pub gives : Gives (λ paused. stands paused (state_after began kept.runs) run.procedure run.arguments (replies_of run.asks)) (turns b (state_after began kept.runs) (start_of run) (replies_of run.asks)) turn
    pub comes_to : gone_on step (turns b (state_after began kept.runs) (start_of first)) most_turns first ≡ gone_on step (turns b (state_after began kept.runs) (start_of run)) most_turns run

  -- the turn of one that ends, and of one that asks
  ends_turn : (kept : MemberRecord) (step : ℕ) (first run : RunRecord) (turn : Turn P) (outcome : Outcome) (after : List ValueTree) → IsGoing kept step first run turn → turn ≡ T.Ends outcome after → turns b (state_after began kept.runs) (start_of run) (replies_of run.asks) ≡ ends outcome after
  ends_turn kept step first run turn outcome after h is =
      subst (Gives (λ paused. stands paused (state_after began kept.runs) run.procedure run.arguments (replies_of run.asks)) (turns b (state_after began kept.runs) (start_of run) (replies_of run.asks))) is h.gives

  asks_turn : (kept : MemberRecord) (step : ℕ) (first run : RunRecord) (turn : Turn P) (callee procedure : ℕ) (arguments asked : List ValueTree) (paused : P) → IsGoing kept step first run turn → turn ≡ T.Asks callee procedure arguments asked paused → (turns b (state_after began kept.runs) (start_of run) (replies_of run.asks) ≡ asks callee procedure arguments asked) × stands paused (state_after began kept.runs) run.procedure run.arguments (replies_of run.asks)
  asks_turn kept step first run turn callee procedure arguments asked paused h is =
      subst (Gives (λ p. stands p (state_after began kept.runs) run.procedure run.arguments (replies_of run.asks)) (turns b (state_after began kept.runs) (start_of run) (replies_of run.asks))) is h.gives

  module _ (lawful : IsModule b) where
    -- it has ended
    pub ends_member : (kept : MemberRecord) (step : ℕ) (first run : RunRecord) (turn : Turn P) (outcome : Outcome) (after : List ValueTree) → IsGoing kept step first run turn → turn ≡ T.Ends outcome after → IsMember stands b began (with_run kept (ended_run step outcome after run)) None
    ends_member kept step first run turn outcome after h is =
        let turn_is = ends_turn kept step first run turn outcome after h is in
        record {
          now = idle_with b lawful began kept (ended_run step outcome after run) h.next.runs h.next.count (ends_so b (state_after began kept.runs) lawful step run outcome after h.next.under_way turn_is);
          inactive = λ inactive. absurd (true≢false (sym h.next.active ∙ inactive));
        }

    pub ends_kept : (kept : MemberRecord) (step : ℕ) (first run : RunRecord) (turn : Turn P) (outcome : Outcome) (after : List ValueTree) → IsGoing kept step first run turn → turn ≡ T.Ends outcome after → with_run kept (ended_run step outcome after run) ≡ with_run kept (gone_on step (turns b (state_after began kept.runs) (start_of first)) most_turns first)
    ends_kept kept step first run turn outcome after h is =
        ap (with_run kept) (sym (h.comes_to ∙ gone_to_end b (state_after began kept.runs) lawful step run outcome after (ends_turn kept step first run turn outcome after h is)))

    -- it waits
    pub waits_member : (kept : MemberRecord) (step : ℕ) (first run : RunRecord) (turn : Turn P) (callee procedure : ℕ) (arguments asked : List ValueTree) (paused : P) → IsGoing kept step first run turn → turn ≡ T.Asks callee procedure arguments asked paused → is_spent (clock_after run.entry run.asks) ≡ false → IsMember stands b began (with_run kept (with_ask run (made_ask step (clock_after run.entry run.asks) callee procedure arguments asked))) (Some paused)
    waits_member kept step first run turn callee procedure arguments asked paused h is unspent =
        let asks_is = asks_turn kept step first run turn callee procedure arguments asked paused h is in
        let waits = waits_so b (state_after began kept.runs) lawful step run callee procedure arguments asked h.next.under_way asks_is.0 unspent in
        record {
          now = record {
            performing = performing_with b lawful began kept (with_ask run (made_ask step (clock_after run.entry run.asks) callee procedure arguments asked)) h.next.runs h.next.count waits;
            stand = asks_is.1;
          };
          inactive = λ inactive. absurd (true≢false (sym h.next.active ∙ inactive));
        }

    pub waits_kept : (kept : MemberRecord) (step : ℕ) (first run : RunRecord) (turn : Turn P) (callee procedure : ℕ) (arguments asked : List ValueTree) (paused : P) → IsGoing kept step first run turn → turn ≡ T.Asks callee procedure arguments asked paused → is_spent (clock_after run.entry run.asks) ≡ false → with_run kept (with_ask run (made_ask step (clock_after run.entry run.asks) callee procedure arguments asked)) ≡ with_run kept (gone_on step (turns b (state_after began kept.runs) (start_of first)) most_turns first)
    waits_kept kept step first run turn callee procedure arguments asked paused h is unspent =
        ap (with_run kept) (sym (h.comes_to ∙ gone_to_ask b (state_after began kept.runs) lawful step run callee procedure arguments asked (asks_turn kept step first run turn callee procedure arguments asked paused h is).0 unspent))

    -- its ask is refused
    pub resumes_refused : (kept : MemberRecord) (step : ℕ) (first run : RunRecord) (turn : Turn P) (callee procedure : ℕ) (arguments asked : List ValueTree) (paused : P) → IsGoing kept step first run turn → turn ≡ T.Asks callee procedure arguments asked paused → CanResume (stands paused) b.declared b.turn refusal
    resumes_refused kept step first run turn callee procedure arguments asked paused h is =
        let asks_is = asks_turn kept step first run turn callee procedure arguments asked paused h is in
        let law = turn_is_lawful b (state_after began kept.runs) lawful (start_of run) run.started run.asks (asks callee procedure arguments asked) h.next.under_way.made asks_is.0 in
        record {
          state = state_after began kept.runs;
          procedure = run.procedure;
          arguments = run.arguments;
          replies = replies_of run.asks;
          stands = asks_is.1;
          start = h.next.under_way.made.may_start;
          replies_fit = h.next.under_way.made.replies_fit;
          reply_fits = rw asks_is.0 (refusal_fits b callee procedure arguments law.0.fit);
        }

    pub goes_on_refused : (kept : MemberRecord) (step : ℕ) (first run : RunRecord) (turn later : Turn P) (callee procedure : ℕ) (arguments asked : List ValueTree) (paused : P) → IsGoing kept step first run turn → turn ≡ T.Asks callee procedure arguments asked paused → is_spent (clock_after run.entry run.asks) ≡ true → ((state : List ValueTree) (p : ℕ) (a : List ValueTree) (replies : List Outcome) → stands paused state p a replies → Gives (λ q. stands q state p a (replies ++ refusal ∷ [])) (b.turn state p a (replies ++ refusal ∷ [])) later) → IsGoing kept step first (with_refusal step callee procedure arguments asked run) later
    goes_on_refused kept step first run turn later callee procedure arguments asked paused h is spent resumed =
        let asks_is = asks_turn kept step first run turn callee procedure arguments asked paused h is in
        let state = state_after began kept.runs in
        let more = refused_replies b state lawful step run callee procedure arguments asked in
        record {
          next = record {
            active = h.next.active;
            runs = h.next.runs;
            count = h.next.count;
            under_way = refused_so b state lawful step run callee procedure arguments asked h.next.under_way asks_is.0 spent;
          };
          gives = rw more (resumed state run.procedure run.arguments (replies_of run.asks) asks_is.1);
          comes_to = h.comes_to ∙ gone_past_refusal b state lawful step run callee procedure arguments asked h.next.under_way asks_is.0 spent;
        }

    -- fewer asks are left
    pub fewer_left : (kept : MemberRecord) (step : ℕ) (first run : RunRecord) (turn : Turn P) (callee procedure : ℕ) (arguments asked : List ValueTree) → IsGoing kept step first run turn → most_asks + 1 - length (replies_of (with_refusal step callee procedure arguments asked run).asks) < most_asks + 1 - length (replies_of run.asks)
    fewer_left kept step first run turn callee procedure arguments asked h =
        rw (refused_replies b (state_after began kept.runs) lawful step run callee procedure arguments asked)
        (omega (arith, length-append (replies_of run.asks) (refusal ∷ []), h.next.under_way.few))

  -- ---- other members

  -- with another state in the record
  pub next_in : (kept : MemberRecord) (step : ℕ) (run : RunRecord) (s : List ValueTree) → IsNext b began kept step run → IsNext b began (record kept { state = s }) step run
  next_in kept step run s h = record { active = h.active; runs = h.runs; count = h.count; under_way = h.under_way }

  -- before any run
  pub first_member : IsState b.declared b.first → (phase : Joiner) (state : List ValueTree) (runs : List RunRecord) → state ≡ b.first → began ≡ state → runs ≡ [] → IsMember stands b began (record { phase = phase; from = 0; active_at = 0; count = 0; runs = runs; state = state }) None
  first_member is_state phase state runs first same none =
      record {
        now = record {
          runs = λ number run at. absurd (none_is_some (sym (ap (λ xs. slice_get xs number) none) ∙ at));
          count = rw none refl;
          state = rw none (sym same);
          is_state = subst (IsState b.declared) (sym first) is_state;
        };
        inactive = λ _. none;
      }

  -- one that fetched a state
  pub active_member : (kept : MemberRecord) (paused : Option P) (step count : ℕ) (state : List ValueTree) → IsMember stands b began kept paused → is_fetching kept.phase ≡ true → IsState b.declared state → count ≤ last_count → IsMember stands b state (active_record step state count kept) None
  active_member kept paused step count state h fetching is_state within =
      let none : kept.runs ≡ [] = h.inactive (fetching_is_inactive kept.phase fetching) in
      rw none (record { now = none_performed b (Active count) count step state within is_state; inactive = λ _. refl })

  module _ (lawful : IsModule b) where
    -- a run is entered
    pub enters : (kept : MemberRecord) (paused : Option P) (step : ℕ) (start : RunStart) → IsMember stands b began kept paused → CanEnter b.declared start kept → IsIdle b began kept × IsNext b began kept step (begin_run step start)
    enters kept paused step start h can = entered_next b lawful began kept step start (record_of kept paused h) can

    -- the open ask is answered
    pub record Answering (kept : MemberRecord) (paused : P) (reply : Outcome) : Type 0 where
      pub performing : IsPerforming b began kept
      pub stand : stands paused (state_after began performing.before) performing.run.procedure performing.run.arguments (replies_of performing.waiting.before)
      pub fits : import_answers b.declared.imports performing.waiting.ask.callee performing.waiting.ask.procedure reply ≡ true
      pub active : is_active kept.phase ≡ true

    pub answering : (kept : MemberRecord) (paused : P) (reply : Outcome) → IsMember stands b began kept (Some paused) → CanAnswer b.declared reply kept → Answering kept paused reply
    answering kept paused reply h can =
        let p = h.now.performing in
        let same : can.ask ≡ p.waiting.ask = same_Some _ _ (sym can.is_open ∙ performing_has_one b began kept p) in
        record {
          performing = p;
          stand = h.now.stand;
          fits = rw (← same) can.fits;
          active = performing_is_active b began kept p h.inactive;
        }

    pub runs_wait : (kept : MemberRecord) (paused : P) (reply : Outcome) → Answering kept paused reply → 0 < length kept.runs
    runs_wait kept paused reply a =
        let p = a.performing in
        rw p.runs_are (omega (arith, length-append p.before (p.run ∷ [])))

    pub resumes : (kept : MemberRecord) (paused : P) (reply : Outcome) → Answering kept paused reply → CanResume (stands paused) b.declared b.turn reply
    resumes kept paused reply a =
        let p = a.performing in
        record {
          state = state_after began p.before;
          procedure = p.run.procedure;
          arguments = p.run.arguments;
          replies = replies_of p.waiting.before;
          stands = a.stand;
          start = p.waiting.made.may_start;
          replies_fit = p.waiting.made.replies_fit;
          reply_fits = rw p.waiting.asking.turn a.fits;
        }

    -- nothing is paused only where no ask is open
    pub something_waits : (kept : MemberRecord) (reply : Outcome) → IsMember stands b began kept None → CanAnswer b.declared reply kept → ⊥
    something_waits kept reply h can = none_is_some (sym (idle_has_none b began kept h.now) ∙ can.is_open)

    -- the run that goes on then, behind those before it
    module _ (kept : MemberRecord) (paused : P) (reply : Outcome) (a : Answering kept paused reply) (step : ℕ) (clock : List ℕ) (front : List RunRecord) (last more : RunRecord) (runs_are : kept.runs ≡ front ++ last ∷ []) (more_is : more ≡ with_reply step reply clock last) where
      front_is : front ≡ a.performing.before
      front_is = (ends_same front a.performing.before last a.performing.run (sym runs_are ∙ a.performing.runs_are)).0

      more_so : more ≡ with_answer b lawful began kept a.performing step reply clock
      more_so =
          more_is
          ∙ ap (with_reply step reply clock) (ends_same front a.performing.before last a.performing.run (sym runs_are ∙ a.performing.runs_are)).1
          ∙ replied_is b lawful began kept a.performing step reply clock

      pub answers_next : IsNext b began (record kept { runs = front }) step more
      answers_next =
          subst (λ xs. IsNext b began (record kept { runs = xs }) step more) (sym front_is)
          (subst (IsNext b began (record kept { runs = a.performing.before }) step) (sym more_so) (answered_next b lawful began kept a.performing step reply clock a.active a.fits))

      pub answers_gives : (turn : Turn P) → ((state : List ValueTree) (p : ℕ) (v : List ValueTree) (replies : List Outcome) → stands paused state p v replies → Gives (λ q. stands q state p v (replies ++ reply ∷ [])) (b.turn state p v (replies ++ reply ∷ [])) turn) → Gives (λ q. stands q (state_after began front) more.procedure more.arguments (replies_of more.asks)) (b.turn (state_after began front) more.procedure more.arguments (replies_of more.asks)) turn
      answers_gives turn resumed =
          let p = a.performing in
          let given = resumed (state_after began p.before) p.run.procedure p.run.arguments (replies_of p.waiting.before) a.stand in
          subst (λ xs. Gives (λ q. stands q (state_after began xs) more.procedure more.arguments (replies_of more.asks)) (b.turn (state_after began xs) more.procedure more.arguments (replies_of more.asks)) turn) (sym front_is)
          (subst (λ (r : RunRecord). Gives (λ q. stands q (state_after began p.before) r.procedure r.arguments (replies_of r.asks)) (b.turn (state_after began p.before) r.procedure r.arguments (replies_of r.asks)) turn) (sym more_so)
          (subst (λ rs. Gives (λ q. stands q (state_after began p.before) p.run.procedure p.run.arguments rs) (b.turn (state_after began p.before) p.run.procedure p.run.arguments rs) turn) (sym (replies_more p.waiting.before (answered_ask step reply clock p.waiting.ask) reply refl)) given))

      pub answers_kept : with_run (record kept { runs = front }) (gone_on step (b.turn (state_after began front) more.procedure more.arguments) most_turns more) ≡ answer_open_ask b.turn began step reply clock kept
      answers_kept =
          ap (λ xs. with_run (record kept { runs = xs }) (gone_on step (b.turn (state_after began xs) more.procedure more.arguments) most_turns more)) front_is
          ∙ ap (λ (r : RunRecord). with_run (record kept { runs = a.performing.before }) (gone_on step (b.turn (state_after began a.performing.before) r.procedure r.arguments) most_turns r)) more_so
          ∙ sym (answered_is b lawful began kept a.performing step reply clock)

    -- a run that is entered comes to this
    pub enters_kept : (kept : MemberRecord) (step : ℕ) (start : RunStart) (run : RunRecord) → kept.state ≡ state_after began kept.runs → run ≡ begin_run step start → with_run kept (gone_on step (b.turn (state_after began kept.runs) run.procedure run.arguments) most_turns run) ≡ enter_run b.turn step start kept
    enters_kept kept step start run state_is run_is =
        ap (λ (r : RunRecord). with_run kept (gone_on step (b.turn (state_after began kept.runs) r.procedure r.arguments) most_turns r)) run_is
        ∙ ap (λ s. with_run kept (gone_on step (b.turn s start.procedure start.arguments) most_turns (begin_run step start))) (sym state_is)
