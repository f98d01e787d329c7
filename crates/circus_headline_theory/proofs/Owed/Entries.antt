-- The asks of a record that pass a test, as runs are entered and go on.
use Rattle.std.proofs.Common.{◌≡◌, ℕ, zero, suc, ◌+◌, ◌-◌, Bool, true, false, ◌&&◌, not, cond, if◌then◌else◌, List, [], ◌∷◌, ◌++◌, length, All, None, refl, sym, ap, ◌∙◌, arith, append_assoc, append-nil, length-append}
use Rattle.std.specs.Prelude.{option_and_then, unwrap_or}
use Rattle.std.specs.Option.{option_map_or}
use Rattle.std.proofs.lemmas.List.Elements.{All-head, All-tail}
use Rattle.circus_value.specs.ValueTree.{ValueTree}
use Rattle.circus_value.specs.declared.outcome.Outcome.{Outcome}
use Rattle.circus_header.specs.declared.answer.Reply.{Reply}
use Rattle.circus_model.specs.Execution.{is_spent}
use Rattle.circus_model.specs.declared.signature.Signature.{Signature}
use Rattle.circus_model.specs.NextTurn.{NextTurn, asks, ends}
use Rattle.circus_model.specs.Behaviour.{IsModule}
use Rattle.circus_record.specs.declared.record.AskRecord.{AskRecord}
use Rattle.circus_record.specs.declared.record.MemberRecord.{MemberRecord}
use Rattle.circus_record.specs.declared.record.RunRecord.{RunRecord}
use Rattle.circus_fanout.specs.Asking.{Asking}
use Rattle.circus_performing.specs.declared.start.RunStart.{RunStart}
use Rattle.circus_performing.specs.Performing.{last_of, unless_replied, clock_after, begin_run, made_ask, answered_ask, refusal, with_ask, with_refusal, turn_run, gone_on, replies_of, state_after, most_turns}
use Rattle.circus_performing.specs.Record.{behaviour, start_of, turns}
use Rattle.circus_performing.proofs.Ends.{last_more, latest_more}
use Rattle.circus_performing.proofs.Records.{with_answer, answered_is}
use Rattle.circus_member_rules.specs.declared.place.Place.{Place}
use Rattle.circus_member_rules.specs.declared.occurrence.AskName.{AskName}
use Rattle.circus_member_rules.specs.MemberState.{Doing}
use Rattle.circus_member_rules.proofs.Entering.{HasValue, with_entered, with_answered}
use Rattle.circus_member_rules.proofs.Starting.{IsSoundNow}
use Rattle.circus_member_rules.proofs.Writing.{one_is_performing}
use Rattle.circus_member_theory.specs.Asks.{as_made, asks_from, asks_of}
use Rattle.circus_headline_theory.proofs.Owed.Going.{behaves}

and_true : (b : Bool) → (b && true) ≡ b
and_true true = refl
and_true false = refl

and_false : (b : Bool) → (b && false) ≡ false
and_false true = refl
and_false false = refl

-- the run has no open ask
abbrev pub HasNoAsk : RunRecord → Type 0
HasNoAsk run = option_and_then unless_replied (last_of run.asks) ≡ None

module _ (place : Place) (test : AskRecord → Bool) where
  -- ---- lists

  from-append : (index root : ℕ) (path : List ℕ) (n : ℕ) (clock : List ℕ) (xs ys : List AskRecord)
      → asks_from place test index root path n clock (xs ++ ys) ≡ asks_from place test index root path n clock xs ++ asks_from place test index root path (n + length xs) (clock_after clock xs) ys
  from-append index root path n clock [] ys = let same : n ≡ n + 0 = omega arith in ap (λ k. asks_from place test index root path k clock ys) same
  from-append index root path n clock (x ∷ xs) ys =
      let rest = from-append index root path (n + 1) (unwrap_or x.after clock) xs ys in
      let head = if test x && not (is_spent clock) then as_made place index root path n clock x ∷ [] else [] in
      let same : (n + 1) + length xs ≡ n + length (x ∷ xs) = omega arith in
      ap (λ l. head ++ l) (rest ∙ ap (λ k. asks_from place test index root path (n + 1) (unwrap_or x.after clock) xs ++ asks_from place test index root path k (clock_after (unwrap_or x.after clock) xs) ys) same)
      ∙ sym (append_assoc head (asks_from place test index root path (n + 1) (unwrap_or x.after clock) xs) (asks_from place test index root path (n + length (x ∷ xs)) (clock_after (unwrap_or x.after clock) xs) ys))

  -- those of one run
  abbrev pub asks_by : ℕ → RunRecord → List (AskName × Asking)
  asks_by index run = asks_from place test index run.root run.path 0 run.entry run.asks

  pub of-append : (index : ℕ) (runs : List RunRecord) (run : RunRecord) → asks_of place test index (runs ++ run ∷ []) ≡ asks_of place test index runs ++ asks_by (index + length runs) run
  of-append index [] run = let same : index ≡ index + 0 = omega arith in append-nil (asks_by index run) ∙ ap (λ k. asks_by k run) same
  of-append index (r ∷ runs) run =
      let same : (index + 1) + length runs ≡ index + length (r ∷ runs) = omega arith in
      ap (λ l. asks_by index r ++ l) (of-append (index + 1) runs run ∙ ap (λ k. asks_of place test (index + 1) runs ++ asks_by k run) same)
      ∙ sym (append_assoc (asks_by index r) (asks_of place test (index + 1) runs) (asks_by (index + length (r ∷ runs)) run))

  -- where none passes
  pub none_from : (index root : ℕ) (path : List ℕ) (n : ℕ) (clock : List ℕ) (xs : List AskRecord) → All (λ (a : AskRecord). test a ≡ false) xs → asks_from place test index root path n clock xs ≡ []
  none_from index root path n clock [] all = refl
  none_from index root path n clock (x ∷ xs) all =
      let P : AskRecord → Type 0 = λ a. test a ≡ false in
      ap (λ b. (if b && not (is_spent clock) then as_made place index root path n clock x ∷ [] else []) ++ asks_from place test index root path (n + 1) (unwrap_or x.after clock) xs) (All-head P x xs all)
      ∙ none_from index root path (n + 1) (unwrap_or x.after clock) xs (All-tail P x xs all)

  pub none_of : (index : ℕ) (runs : List RunRecord) → All (λ (r : RunRecord). All (λ (a : AskRecord). test a ≡ false) r.asks) runs → asks_of place test index runs ≡ []
  none_of index [] all = refl
  none_of index (r ∷ runs) all =
      let P : RunRecord → Type 0 = λ x. All (λ (a : AskRecord). test a ≡ false) x.asks in
      ap (λ l. l ++ asks_of place test (index + 1) runs) (none_from index r.root r.path 0 r.entry r.asks (All-head P r runs all)) ∙ none_of (index + 1) runs (All-tail P r runs all)

  -- the last ask alone passes
  pub last_by : (index : ℕ) (run : RunRecord) (before : List AskRecord) (ask : AskRecord) → run.asks ≡ before ++ ask ∷ [] → All (λ (a : AskRecord). test a ≡ false) before → test ask ≡ true → is_spent (clock_after run.entry before) ≡ false
      → asks_by index run ≡ as_made place index run.root run.path (length before) (clock_after run.entry before) ask ∷ []
  last_by index run before ask are none passes left =
      ap (asks_from place test index run.root run.path 0 run.entry) are
      ∙ from-append index run.root run.path 0 run.entry before (ask ∷ [])
      ∙ (λ j. none_from index run.root run.path 0 run.entry before none j ++ ((if passes j && not (left j) then as_made place index run.root run.path (same j) (clock_after run.entry before) ask ∷ [] else []) ++ []))
    where
      same : 0 + length before ≡ length before
      same = omega arith

  -- ---- a run goes on

  -- its open ask, as it was made
  abbrev pub open_part : ℕ → RunRecord → List (AskName × Asking)
  open_part index run =
      option_map_or (λ ask. as_made place index run.root run.path (length run.asks - 1) (clock_after run.entry run.asks) ask ∷ []) (option_and_then unless_replied (last_of run.asks)) []

  module _ (step : ℕ) (b : Bool) (fresh : (clock : List ℕ) (callee procedure : ℕ) (arguments state : List ValueTree) → test (made_ask step clock callee procedure arguments state) ≡ b) where
    pub gone_asks : (turn : List Outcome → NextTurn) (left index : ℕ) (run : RunRecord) → HasNoAsk run
        → asks_by index (gone_on step turn left run) ≡ asks_by index run ++ (if b then open_part index (gone_on step turn left run) else [])
    unfolding gone_on
    gone_asks turn zero index run none = at_rest index run none
      where
        no_part : (b : Bool) → let l : List (AskName × Asking) = if b then [] else [] in [] ≡ l
        no_part true = refl
        no_part false = refl

        at_rest : (index : ℕ) (run : RunRecord) → HasNoAsk run → asks_by index run ≡ asks_by index run ++ (if b then open_part index run else [])
        at_rest index run none =
            sym (append-nil (asks_by index run)) ∙ ap (λ l. asks_by index run ++ l) (no_part b)
            ∙ ap (λ o. asks_by index run ++ (if b then option_map_or (λ ask. as_made place index run.root run.path (length run.asks - 1) (clock_after run.entry run.asks) ask ∷ []) o [] else [])) (sym none)
    gone_asks turn (suc left) index run none = by_turn (gone_asks turn left index) (turn (replies_of run.asks))
      where
        no_part : (b : Bool) → let l : List (AskName × Asking) = if b then [] else [] in [] ≡ l
        no_part true = refl
        no_part false = refl

        by_turn : ((r : RunRecord) → HasNoAsk r → asks_by index (gone_on step turn left r) ≡ asks_by index r ++ (if b then open_part index (gone_on step turn left r) else [])) → (next : NextTurn)
            → let gone = turn_run step (gone_on step turn left) run next in asks_by index gone ≡ asks_by index run ++ (if b then open_part index gone else [])
        by_turn rest (ends outcome state) =
            sym (append-nil (asks_by index run)) ∙ ap (λ l. asks_by index run ++ l) (no_part b)
            ∙ ap (λ o. asks_by index run ++ (if b then option_map_or (λ ask. as_made place index run.root run.path (length run.asks - 1) (clock_after run.entry run.asks) ask ∷ []) o [] else [])) (sym none)
        by_turn rest (asks callee procedure arguments state) = by_spent (is_spent (clock_after run.entry run.asks)) refl
          where
            same : 0 + length run.asks ≡ length (run.asks ++ made_ask step (clock_after run.entry run.asks) callee procedure arguments state ∷ []) - 1
            same = let long = length-append run.asks (made_ask step (clock_after run.entry run.asks) callee procedure arguments state ∷ []) in omega (arith, long)

            by_spent : (s : Bool) → is_spent (clock_after run.entry run.asks) ≡ s
                → let gone = cond s (gone_on step turn left (with_refusal step callee procedure arguments state run)) (with_ask run (made_ask step (clock_after run.entry run.asks) callee procedure arguments state))
                in asks_by index gone ≡ asks_by index run ++ (if b then open_part index gone else [])
            by_spent true is =
                let entry = run.entry in
                let refused = answered_ask step refusal (clock_after entry run.asks) (made_ask step (clock_after entry run.asks) callee procedure arguments state) in
                let r = with_refusal step callee procedure arguments state run in
                let more : asks_by index r ≡ asks_by index run =
                from-append index run.root run.path 0 entry run.asks (refused ∷ [])
                ∙ (λ j. asks_by index run ++ ((if test refused && not (is j) then as_made place index run.root run.path (0 + length run.asks) (clock_after entry run.asks) refused ∷ [] else []) ++ []))
                ∙ (λ j. asks_by index run ++ ((if and_false (test refused) j then as_made place index run.root run.path (0 + length run.asks) (clock_after entry run.asks) refused ∷ [] else []) ++ []))
                ∙ append-nil (asks_by index run) in
                rest r (ap (option_and_then unless_replied) (last_more run.asks refused))
                ∙ ap (λ l. l ++ (if b then open_part index (gone_on step turn left r) else [])) more
            by_spent false is =
                let entry = run.entry in
                let ask = made_ask step (clock_after entry run.asks) callee procedure arguments state in
                let r = with_ask run ask in
                let part : open_part index r ≡ as_made place index run.root run.path (0 + length run.asks) (clock_after entry run.asks) ask ∷ [] =
                ap (λ o. option_map_or (λ a. as_made place index run.root run.path (length r.asks - 1) (clock_after entry r.asks) a ∷ []) (option_and_then unless_replied o) []) (last_more run.asks ask)
                ∙ (λ j. as_made place index run.root run.path (sym same j) (latest_more (λ (a : AskRecord). a.after) entry run.asks ask j) ask ∷ []) in
                from-append index run.root run.path 0 entry run.asks (ask ∷ [])
                ∙ (λ j. asks_by index run ++ ((if fresh (clock_after entry run.asks) callee procedure arguments state j && not (is j) then as_made place index run.root run.path (0 + length run.asks) (clock_after entry run.asks) ask ∷ [] else []) ++ []))
                ∙ (λ j. asks_by index run ++ ((if and_true b j then as_made place index run.root run.path (0 + length run.asks) (clock_after entry run.asks) ask ∷ [] else []) ++ []))
                ∙ ap (λ l. asks_by index run ++ l) (append-nil (if b then as_made place index run.root run.path (0 + length run.asks) (clock_after entry run.asks) ask ∷ [] else []))
                ∙ ap (λ l. asks_by index run ++ (if b then l else [])) (sym part)

  -- with the reply to its last ask
  pub answered_asks : (index : ℕ) (run : RunRecord) (before : List AskRecord) (ask : AskRecord) (step : ℕ) (reply : Outcome) (clock : List ℕ) → run.asks ≡ before ++ ask ∷ [] → test (answered_ask step reply clock ask) ≡ test ask
      → let answered : RunRecord = record run { asks = before ++ answered_ask step reply clock ask ∷ [] } in asks_by index answered ≡ asks_by index run
  answered_asks index run before ask step reply clock are same =
      from-append index run.root run.path 0 run.entry before (answered_ask step reply clock ask ∷ [])
      ∙ (λ j. asks_from place test index run.root run.path 0 run.entry before
      ++ ((if same j && not (is_spent (clock_after run.entry before)) then as_made place index run.root run.path (0 + length before) (clock_after run.entry before) ask ∷ [] else []) ++ []))
      ∙ sym (from-append index run.root run.path 0 run.entry before (ask ∷ []))
      ∙ ap (asks_from place test index run.root run.path 0 run.entry) (sym are)

-- ---- a record

module _ {M : Type 0} (declared : M → Signature) (turn : M → List ValueTree → ℕ → List ValueTree → List Outcome → NextTurn) (first : M → List ValueTree) (lawful : (hosted : M) → IsModule (behaviour declared turn first hosted)) (step : ℕ) (place : Place) (test : AskRecord → Bool) where
  abbrev pub asks_in : Doing M → List (AskName × Asking)
  asks_in d = asks_of place test d.member.performing.kept.from d.member.performing.kept.runs

  module _ (b : Bool) (fresh : (clock : List ℕ) (callee procedure : ℕ) (arguments state : List ValueTree) → test (made_ask step clock callee procedure arguments state) ≡ b)
      (still : (ask : AskRecord) (reply : Outcome) (clock : List ℕ) → ask.answered ≡ None → test (answered_ask step reply clock ask) ≡ test ask) where
    -- what is behind the turns of the last run, which stands behind so many others
    pub record HasMore (d e : Doing M) : Type 0 where
      pub before : List RunRecord
      pub run : RunRecord
      pub runs_are : e.member.performing.kept.runs ≡ before ++ run ∷ []
      pub is : asks_in e ≡ asks_in d ++ (if b then open_part place test (e.member.performing.kept.from + length before) run else [])

    pub entered_more : (d : Doing M) (start : RunStart) → HasMore d (record d { member = with_entered (behaves declared turn first lawful d) (lawful d.member.performing.hosted) d.member step start })
    entered_more d start =
        let kept = d.member.performing.kept in
        let t = turn d.member.performing.hosted kept.state start.procedure start.arguments in
        let gone = gone_on step t most_turns (begin_run step start) in
        record {
          before = kept.runs;
          run = gone;
          runs_are = refl;
          is = of-append place test kept.from kept.runs gone ∙ ap (λ l. asks_in d ++ l) (gone_asks place test step b fresh t most_turns (kept.from + length kept.runs) (begin_run step start) refl);
        }

    pub answered_more : (d : Doing M) (reply : Reply) → IsSoundNow declared turn first lawful d.member → HasValue (behaves declared turn first lawful d) d.member reply
        → HasMore d (record d { member = with_answered (behaves declared turn first lawful d) (lawful d.member.performing.hosted) d.member step reply })
    answered_more d reply sound value =
        let a = behaves declared turn first lawful d in
        let law = lawful d.member.performing.hosted in
        let kept = d.member.performing.kept in
        let began = d.member.performing.began in
        let p = one_is_performing a began kept sound.kept value.ask value.is_open in
        let made = with_answer a law began kept p step reply.outcome reply.clock in
        let t = turns a (state_after began p.before) (start_of p.run) in
        let gone = gone_on step t most_turns made in
        let index = kept.from + length p.before in
        let same = answered_is a law began kept p step reply.outcome reply.clock in
        let none : HasNoAsk made = ap (option_and_then unless_replied) (last_more p.waiting.before (answered_ask step reply.outcome reply.clock p.waiting.ask)) in
        let from : (with_answered a law d.member step reply).performing.kept.from ≡ kept.from = ap (λ (x : MemberRecord). x.from) same in
        record {
          before = p.before;
          run = gone;
          runs_are = ap (λ (x : MemberRecord). x.runs) same;
          is = ap (λ (x : MemberRecord). asks_of place test x.from x.runs) same
              ∙ of-append place test kept.from p.before gone
              ∙ ap (λ l. asks_of place test kept.from p.before ++ l)
              (gone_asks place test step b fresh t most_turns index made none
              ∙ ap (λ l. l ++ (if b then open_part place test index gone else [])) (answered_asks place test index p.run p.waiting.before p.waiting.ask step reply.outcome reply.clock p.waiting.asks_are (still p.waiting.ask reply.outcome reply.clock p.waiting.waits.not_answered)))
              ∙ sym (append_assoc (asks_of place test kept.from p.before) (asks_by place test index p.run) (if b then open_part place test index gone else []))
              ∙ ap (λ l. l ++ (if b then open_part place test index gone else [])) (sym (of-append place test kept.from p.before p.run) ∙ ap (asks_of place test kept.from) (sym p.runs_are))
              ∙ ap (λ n. asks_in d ++ (if b then open_part place test (n + length p.before) gone else [])) (sym from);
        }
