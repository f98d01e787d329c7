-- The asks that are opened in a step, and the calls that are made of them.
use Rattle.std.proofs.Common.{◌≡◌, ℕ, zero, suc, ◌+◌, ◌-◌, ◌≤◌, Bool, true, false, cond, List, [], ◌∷◌, ◌++◌, map, filter, length, All, Option, Some, None, refl, sym, ap, subst, ◌∙◌, arith, append_assoc, append-nil, length-append}
use Rattle.std.specs.Prelude.{IfSome, slice_get, fold, option_and_then}
use Rattle.std.specs.List.{flat_map}
use Rattle.std.specs.Option.{option_map_or}
use Rattle.std.proofs.lemmas.List.Elements.{All-nil, All-push, All-weaker, filter-append}
use Rattle.std.proofs.lemmas.List.Sums.{fold-append}
use Rattle.std.proofs.lemmas.Option.{same_Some}
use Rattle.circus_value.specs.ValueTree.{ValueTree}
use Rattle.circus_value.specs.declared.caller.Caller.{Caller}
use Rattle.circus_value.specs.declared.outcome.Outcome.{Outcome}
use Rattle.circus_header.specs.declared.answer.Reply.{Reply}
use Rattle.circus_collate.specs.declared.view.View.{View}
use Rattle.circus_model.specs.Execution.{is_spent}
use Rattle.circus_model.specs.declared.signature.Signature.{Signature}
use Rattle.circus_model.specs.NextTurn.{NextTurn, asks, ends}
use Rattle.circus_model.specs.Behaviour.{IsModule}
use Rattle.circus_record.specs.declared.record.AskRecord.{AskRecord}
use Rattle.circus_record.specs.declared.record.MemberRecord.{MemberRecord}
use Rattle.circus_record.specs.declared.record.RunRecord.{RunRecord}
use Rattle.circus_fanout.specs.Asking.{Asking, calls_for_a_view, with_view}
use Rattle.circus_performing.specs.declared.start.RunStart.{RunStart}
use Rattle.circus_performing.specs.Performing.{last_of, unless_replied, open_ask, clock_after, begin_run, made_ask, answered_ask, refusal, with_ask as with_made, with_refusal, turn_run, gone_on, replies_of, state_after, most_turns}
use Rattle.circus_performing.specs.Record.{behaviour, start_of, turns}
use Rattle.circus_performing.proofs.Ends.{last_more}
use Rattle.circus_performing.proofs.Records.{with_answer, answered_is}
use Rattle.circus_member_rules.specs.declared.place.Place.{Place}
use Rattle.circus_member_rules.specs.declared.occurrence.AskName.{AskName}
use Rattle.circus_member_rules.specs.declared.occurrence.Effect.{Effect}
use Rattle.circus_member_rules.specs.OpenAsks.{with_ask}
use Rattle.circus_member_rules.specs.Rules.{answer, answers, call_of_ask, calls_of_ask, index_of_last}
use Rattle.circus_member_rules.specs.MemberState.{MemberState, Doing}
use Rattle.circus_member_rules.specs.Step.{name_of_last, asking_begun, opened_by_view, ended_run}
use Rattle.circus_member_rules.proofs.Entering.{HasValue, with_entered, with_answered}
use Rattle.circus_member_rules.proofs.Starting.{IsSoundNow}
use Rattle.circus_member_rules.proofs.Writing.{one_is_performing}
use Rattle.circus_member_theory.specs.Asks.{is_of_ask, as_made, opened_one, first_calls}
use Rattle.circus_headline_theory.proofs.Owed.Distinct.{All-without_last, All-last}
use Rattle.circus_headline_theory.proofs.Owed.Entries.{open_part, asks_in, HasMore, entered_more, answered_more}
use Rattle.circus_headline_theory.proofs.Owed.Going.{behaves, Keeps}
use Rattle.circus_headline_theory.proofs.Owed.Links.{IsLinkedIn, RunsIn, linked_keeps, last_index}
use Rattle.circus_headline_theory.proofs.Owed.Stays.{IsSame, stays_keeps}

-- ---- steps of asks

-- an ask was made, and answered, by a step
abbrev pub IsBy : ℕ → AskRecord → Type 0
IsBy at ask = (ask.asked ≤ at) × IfSome ask.answered (λ step. step ≤ at)

abbrev pub AreBy : ℕ → List RunRecord → Type 0
AreBy at runs = All (λ (run : RunRecord). All (IsBy at) run.asks) runs

gone_by : (step : ℕ) (turn : List Outcome → NextTurn) (left : ℕ) (run : RunRecord) → All (IsBy step) run.asks → All (IsBy step) (gone_on step turn left run).asks
unfolding gone_on
gone_by step turn zero run all = all
gone_by step turn (suc left) run all = by_turn (gone_by step turn left) (turn (replies_of run.asks))
  where
    by_turn : ((r : RunRecord) → All (IsBy step) r.asks → All (IsBy step) (gone_on step turn left r).asks) → (next : NextTurn) → All (IsBy step) (turn_run step (gone_on step turn left) run next).asks
    by_turn rest (ends outcome state) = all
    by_turn rest (asks callee procedure arguments state) = by_test (is_spent (clock_after run.entry run.asks))
      where
        by_test : (b : Bool) → let r = cond b (gone_on step turn left (with_refusal step callee procedure arguments state run)) (with_made run (made_ask step (clock_after run.entry run.asks) callee procedure arguments state)) in All (IsBy step) r.asks
        by_test true =
            rest (with_refusal step callee procedure arguments state run)
            (All-push (IsBy step) run.asks (answered_ask step refusal (clock_after run.entry run.asks) (made_ask step (clock_after run.entry run.asks) callee procedure arguments state)) all (omega arith, omega arith))
        by_test false = All-push (IsBy step) run.asks (made_ask step (clock_after run.entry run.asks) callee procedure arguments state) all (omega arith, tt)

pub by_later : (at step : ℕ) → at ≤ step → (runs : List RunRecord) → AreBy at runs → AreBy step runs
by_later at step below runs all =
    All-weaker (λ (run : RunRecord). All (IsBy at) run.asks) (λ (run : RunRecord). All (IsBy step) run.asks)
    (λ run. All-weaker (IsBy at) (IsBy step) (λ a low. (let made = low.0 in omega (arith, made, below), later a.answered low.1)) run.asks) runs all
  where
    later : (o : Option ℕ) → IfSome o (λ s. s ≤ at) → IfSome o (λ s. s ≤ step)
    later None low = tt
    later (Some s) low = omega (arith, low, below)

module _ {M : Type 0} (declared : M → Signature) (turn : M → List ValueTree → ℕ → List ValueTree → List Outcome → NextTurn) (first : M → List ValueTree) (lawful : (hosted : M) → IsModule (behaviour declared turn first hosted)) (step : ℕ) where
  abbrev pub AreByIn : Doing M → Type 0
  AreByIn d = AreBy step d.member.performing.kept.runs

  pub by_keeps : Keeps declared turn first lawful step AreByIn AreByIn
  by_keeps =
      record {
        gives = λ d sound idle h. h;
        enters = λ d start sound may none h. enters d start h;
        answers = answered;
        opens = λ d run ask view turn_run at is there h. h;
        ends = λ d run turn_run at none h. h;
      }
    where
      enters : (d : Doing M) (start : RunStart) → AreByIn d → AreByIn (record d { member = with_entered (behaves declared turn first lawful d) (lawful d.member.performing.hosted) d.member step start })
      enters d start h =
          let kept = d.member.performing.kept in
          let t = turn d.member.performing.hosted kept.state start.procedure start.arguments in
          All-push (λ (run : RunRecord). All (IsBy step) run.asks) kept.runs (gone_on step t most_turns (begin_run step start)) h (gone_by step t most_turns (begin_run step start) (All-nil (IsBy step)))

      answered : (d : Doing M) (reply : Reply) → IsSoundNow declared turn first lawful d.member → HasValue (behaves declared turn first lawful d) d.member reply → AreByIn d
          → AreByIn (record d { member = with_answered (behaves declared turn first lawful d) (lawful d.member.performing.hosted) d.member step reply })
      answered d reply sound value h =
          let b = behaves declared turn first lawful d in
          let law = lawful d.member.performing.hosted in
          let kept = d.member.performing.kept in
          let began = d.member.performing.began in
          let p = one_is_performing b began kept sound.kept value.ask value.is_open in
          let made = with_answer b law began kept p step reply.outcome reply.clock in
          let t = turns b (state_after began p.before) (start_of p.run) in
          let P : RunRecord → Type 0 = λ run. All (IsBy step) run.asks in
          let all : AreBy step (p.before ++ p.run ∷ []) = subst (AreBy step) p.runs_are h in
          let asks_by : All (IsBy step) (p.waiting.before ++ p.waiting.ask ∷ []) = subst (All (IsBy step)) p.waiting.asks_are (All-last P p.before p.run all) in
          let last : IsBy step p.waiting.ask = All-last (IsBy step) p.waiting.before p.waiting.ask asks_by in
          subst (λ (x : MemberRecord). AreBy step x.runs) (sym (answered_is b law began kept p step reply.outcome reply.clock))
          (All-push P p.before (gone_on step t most_turns made) (All-without_last P p.before p.run all)
          (gone_by step t most_turns made (All-push (IsBy step) p.waiting.before (answered_ask step reply.outcome reply.clock p.waiting.ask) (All-without_last (IsBy step) p.waiting.before p.waiting.ask asks_by) (last.0, omega arith))))

  -- ---- asks of earlier steps

  module _ (place : Place) (test : AskRecord → Bool) (fresh : (clock : List ℕ) (callee procedure : ℕ) (arguments state : List ValueTree) → test (made_ask step clock callee procedure arguments state) ≡ false)
      (still : (ask : AskRecord) (reply : Outcome) (clock : List ℕ) → ask.answered ≡ None → test (answered_ask step reply clock ask) ≡ test ask) (old : List (AskName × Asking)) where
    abbrev pub AreOld : Doing M → Type 0
    AreOld d = asks_in declared turn first lawful step place test d ≡ old

    -- what passes of them stays
    pub old_keeps : Keeps declared turn first lawful step AreOld AreOld
    old_keeps =
        record {
          gives = λ d sound idle h. h;
          enters = λ d start sound may none h. (entered_more declared turn first lawful step place test false fresh still d start).is ∙ append-nil (asks_in declared turn first lawful step place test d) ∙ h;
          answers = λ d reply sound value h. (answered_more declared turn first lawful step place test false fresh still d reply sound value).is ∙ append-nil (asks_in declared turn first lawful step place test d) ∙ h;
          opens = λ d run ask view turn_run at is there h. h;
          ends = λ d run turn_run at none h. h;
        }

-- ---- the calls of asks among effects

abbrev pub of_asks : List Effect → List Effect
of_asks effects = filter is_of_ask effects

pub none_of_asks : {X : Type 0} (f : X → Effect) → ((x : X) → is_of_ask (f x) ≡ false) → (xs : List X) → of_asks (map f xs) ≡ []
none_of_asks f none [] = refl
none_of_asks f none (x ∷ xs) = ap (λ b. cond b (f x ∷ of_asks (map f xs)) (of_asks (map f xs))) (none x) ∙ none_of_asks f none xs

pub all_of_asks : {X : Type 0} (f : X → Effect) → ((x : X) → is_of_ask (f x) ≡ true) → (xs : List X) → of_asks (map f xs) ≡ map f xs
all_of_asks f all [] = refl
all_of_asks f all (x ∷ xs) = ap (λ b. cond b (f x ∷ of_asks (map f xs)) (of_asks (map f xs))) (all x) ∙ ap (λ l. f x ∷ l) (all_of_asks f all xs)

more_answers : (effects : List Effect) (message : List ℕ) (xs : List Caller) → of_asks (effects ++ answers message xs) ≡ of_asks effects
more_answers effects message xs =
    filter-append is_of_ask effects (answers message xs) ∙ ap (λ l. of_asks effects ++ l) (none_of_asks (answer message) (λ x. refl) xs) ∙ append-nil (of_asks effects)

flat_map-append : {X Y : Type 0} (f : X → List Y) (xs : List X) (x : X) → flat_map f (xs ++ x ∷ []) ≡ flat_map f xs ++ f x
flat_map-append f [] x = append-nil (f x)
flat_map-append f (y ∷ xs) x = ap (λ l. f y ++ l) (flat_map-append f xs x) ∙ sym (append_assoc (f y) (flat_map f xs) (f x))

-- ---- asks of this step

module _ {M : Type 0} (declared : M → Signature) (turn : M → List ValueTree → ℕ → List ValueTree → List Outcome → NextTurn) (first : M → List ValueTree) (lawful : (hosted : M) → IsModule (behaviour declared turn first hosted)) (step : ℕ) (m : MemberState M) (boot : List View) (test : AskRecord → Bool)
    (fresh : (clock : List ℕ) (callee procedure : ℕ) (arguments state : List ValueTree) → test (made_ask step clock callee procedure arguments state) ≡ true)
    (still : (ask : AskRecord) (reply : Outcome) (clock : List ℕ) → ask.answered ≡ None → test (answered_ask step reply clock ask) ≡ test ask) (old : List Effect) where
  abbrev pub new_in : Doing M → List (AskName × Asking)
  new_in d = asks_in declared turn first lawful step m.place test d

  -- the asks of this step so far were opened, and their calls made
  pub record HasOpened (new : List (AskName × Asking)) (d : Doing M) : Type 0 where
    pub asks_are : d.member.asks ≡ fold (opened_one m.place boot m.known) m.asks new
    pub calls : of_asks d.effects ≡ old ++ flat_map (first_calls m.place boot m.known) new

  abbrev pub IsOpened : Doing M → Type 0
  IsOpened d = IsLinkedIn declared turn first lawful step d × IsSame m d.member × HasOpened (new_in d) d

  -- behind the turns of the last run: but for its open ask
  pub record HasTurned (d : Doing M) : Type 0 where
    pub new : List (AskName × Asking)
    pub opened : HasOpened new d
    pub before : List RunRecord
    pub run : RunRecord
    pub runs_are : d.member.performing.kept.runs ≡ before ++ run ∷ []
    pub is : new_in d ≡ new ++ open_part m.place test (d.member.performing.kept.from + length before) run

  abbrev pub Turns : Doing M → Type 0
  Turns d = RunsIn declared turn first lawful step d × IsSame m d.member × HasTurned d

  more_turned : (d e : Doing M) → e.effects ≡ d.effects → e.member.asks ≡ d.member.asks → HasMore declared turn first lawful step m.place test true fresh still d e → HasOpened (new_in d) d → HasTurned e
  more_turned d e effects asks_same more h =
      record {
        new = new_in d;
        opened = record { asks_are = asks_same ∙ h.asks_are; calls = ap of_asks effects ∙ h.calls };
        before = more.before;
        run = more.run;
        runs_are = more.runs_are;
        is = more.is;
      }

  -- the open ask of the last run, as it was made
  pub one_open : (d : Doing M) (before : List RunRecord) (last run : RunRecord) (ask : AskRecord) → RunsIn declared turn first lawful step d → d.member.place ≡ m.place → d.member.performing.kept.runs ≡ before ++ last ∷ [] → last ≡ run
      → last_of d.member.performing.kept.runs ≡ Some run → open_ask d.member.performing.kept ≡ Some ask
      → open_part m.place test (d.member.performing.kept.from + length before) last ≡ (name_of_last d.member.performing.kept, asking_begun d.member.place d.member.performing.kept run ask) ∷ []
  one_open d before last run ask runs place runs_are same at is =
      let kept = d.member.performing.kept in
      let first_long = ap length runs_are ∙ length-append before (last ∷ []) in
      let other_long = ap length runs.runs_are ∙ length-append runs.before (runs.run ∷ []) in
      let long : length before ≡ length runs.before = omega (arith, first_long, other_long) in
      let index : kept.from + length before ≡ index_of_last kept = ap (λ n. kept.from + n) long ∙ sym (last_index d.member.gathered kept runs) in
      let there : option_and_then unless_replied (last_of run.asks) ≡ Some ask = sym (ap (option_and_then (λ (r : RunRecord). option_and_then unless_replied (last_of r.asks))) at) ∙ is in
      let number : length run.asks - 1 ≡ (name_of_last kept).ask = sym (ap (λ o. option_map_or (λ (r : RunRecord). length r.asks - 1) o 0) at) in
      ap (open_part m.place test (kept.from + length before)) same
      ∙ ap (λ n. open_part m.place test n run) index
      ∙ ap (λ o. option_map_or (λ x. as_made m.place (index_of_last kept) run.root run.path (length run.asks - 1) (clock_after run.entry run.asks) x ∷ []) o []) there
      ∙ ap (λ pl. as_made pl (index_of_last kept) run.root run.path (length run.asks - 1) (clock_after run.entry run.asks) ask ∷ []) (sym place)
      ∙ ap (λ n. (let name : AskName = record { run = index_of_last kept; ask = n } in name, asking_begun d.member.place kept run ask) ∷ []) number

  opens : (d : Doing M) (run : RunRecord) (ask : AskRecord) (view : View) → last_of d.member.performing.kept.runs ≡ Some run → open_ask d.member.performing.kept ≡ Some ask → slice_get d.member.known.views ask.callee ≡ Some view → Turns d
      → HasOpened (new_in d) (opened_by_view d (name_of_last d.member.performing.kept) (asking_begun d.member.place d.member.performing.kept run ask) view)
  opens d run ask view at is there h =
      let kept = d.member.performing.kept in
      let t = h.2 in
      let k = d.member.known in
      let name = name_of_last kept in
      let a = asking_begun d.member.place kept run ask in
      let last : last_of kept.runs ≡ Some t.run = ap last_of t.runs_are ∙ last_more t.before t.run in
      let same_run : t.run ≡ run = same_Some t.run run (sym last ∙ at) in
      let part : open_part m.place test (kept.from + length t.before) t.run ≡ (name, a) ∷ [] = one_open d t.before t.run run ask h.0 h.1.place t.runs_are same_run at is in
      let known_same : k ≡ m.known = h.1.known in
      let one : HasOpened (t.new ++ (name, a) ∷ []) (opened_by_view d name a view) =
      record {
        asks_are = ap (λ l. with_ask l name (with_view view k.down a)) t.opened.asks_are
            ∙ ap (λ o. option_map_or (λ v. with_ask (fold (opened_one m.place boot m.known) m.asks t.new) name (with_view v k.down a)) o (fold (opened_one m.place boot m.known) m.asks t.new)) (sym there)
            ∙ ap (λ x. opened_one m.place boot x (fold (opened_one m.place boot m.known) m.asks t.new) (name, a)) known_same
            ∙ sym (fold-append (opened_one m.place boot m.known) m.asks t.new ((name, a) ∷ []));
        calls = filter-append is_of_ask d.effects (calls_of_ask k name a (calls_for_a_view view k.down []))
            ∙ (λ j. t.opened.calls j ++ all_of_asks (call_of_ask k name a) (λ s. refl) (calls_for_a_view view k.down []) j)
            ∙ ap (λ o. (old ++ flat_map (first_calls m.place boot m.known) t.new) ++ option_map_or (λ v. calls_of_ask k name a (calls_for_a_view v k.down [])) o []) (sym there)
            ∙ ap (λ x. (old ++ flat_map (first_calls m.place boot m.known) t.new) ++ first_calls m.place boot x (name, a)) known_same
            ∙ append_assoc old (flat_map (first_calls m.place boot m.known) t.new) (first_calls m.place boot m.known (name, a))
            ∙ ap (λ l. old ++ l) (sym (flat_map-append (first_calls m.place boot m.known) t.new (name, a)));
      } in
      subst (λ new. HasOpened new (opened_by_view d name a view)) (sym (t.is ∙ ap (λ l. t.new ++ l) part)) one

  pub opened_keeps : Keeps declared turn first lawful step IsOpened Turns
  opened_keeps =
      let links = linked_keeps declared turn first lawful step in
      let stays = stays_keeps declared turn first lawful step m in
      record {
        gives = λ d sound idle h. (links.gives d sound idle h.0, stays.gives d sound idle h.1, record { asks_are = h.2.asks_are; calls = more_answers d.effects _ d.member.requests ∙ h.2.calls });
        enters = λ d start sound may none h. (
          links.enters d start sound may none h.0,
          stays.enters d start sound may none h.1,
          more_turned d _ refl refl (entered_more declared turn first lawful step m.place test true fresh still d start) h.2,
        );
        answers = λ d reply sound value h. (
          links.answers d reply sound value h.0,
          stays.answers d reply sound value h.1,
          more_turned d _ refl refl (answered_more declared turn first lawful step m.place test true fresh still d reply sound value) h.2,
        );
        opens = λ d run ask view turn_run at is there h. (links.opens d run ask view turn_run at is there h.0, stays.opens d run ask view turn_run at is there h.1, opens d run ask view at is there h);
        ends = λ d run turn_run at none h. (links.ends d run turn_run at none h.0, stays.ends d run turn_run at none h.1, ended d run at none h.2);
      }
    where
      ended : (d : Doing M) (run : RunRecord) → last_of d.member.performing.kept.runs ≡ Some run → open_ask d.member.performing.kept ≡ None → HasTurned d → HasOpened (new_in d) (ended_run d run)
      ended d run at none t =
          let last : last_of d.member.performing.kept.runs ≡ Some t.run = ap last_of t.runs_are ∙ last_more t.before t.run in
          let no_ask : option_and_then unless_replied (last_of t.run.asks) ≡ None = sym (ap (option_and_then (λ (r : RunRecord). option_and_then unless_replied (last_of r.asks))) last) ∙ none in
          let same : new_in d ≡ t.new = t.is ∙ ap (λ o. t.new ++ option_map_or (λ ask. as_made m.place (d.member.performing.kept.from + length t.before) t.run.root t.run.path (length t.run.asks - 1) (clock_after t.run.entry t.run.asks) ask ∷ []) o []) no_ask ∙ append-nil t.new in
          subst (λ new. HasOpened new (ended_run d run)) (sym same) (record { asks_are = t.opened.asks_are; calls = more_answers d.effects _ _ ∙ t.opened.calls })
