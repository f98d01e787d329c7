-- The order of a step is the same by a record that has grown.
use Rattle.std.proofs.Common.{◌≡◌, ℕ, suc, ◌+◌, ◌-◌, ◌<◌, Bool, true, false, ◌&&◌, ◌||◌, not, ◌⊎◌, inl, inr, if◌then◌else◌, List, [], ◌∷◌, ◌++◌, filter, Option, Some, None, refl, sym, ap, subst, ◌∙◌, arith, append-nil}
use Rattle.std.specs.Prelude.{slice_get, nat_eq, nat_lt, option_and_then}
use Rattle.std.specs.List.{flat_map}
use Rattle.std.specs.Option.{option_map_or}
use Rattle.std.proofs.lemmas.Bool.{le-ltb, ne_eqb}
use Rattle.std.proofs.lemmas.Bool.Decides.{eqb_tells}
use Rattle.std.proofs.lemmas.List.Elements.{filter_agree}
use Rattle.circus_value.specs.ValueTree.{ValueTree}
use Rattle.circus_value.specs.declared.caller.Caller.{Caller}
use Rattle.circus_value.specs.declared.outcome.Outcome.{Outcome}
use Rattle.circus_header.specs.declared.answer.Reply.{Reply}
use Rattle.circus_collate.specs.declared.view.View.{View}
use Rattle.circus_transfer.specs.declared.joiner.Joiner.{Joiner}
use Rattle.circus_model.specs.declared.signature.Signature.{Signature}
use Rattle.circus_model.specs.NextTurn.{NextTurn}
use Rattle.circus_model.specs.Behaviour.{IsModule}
use Rattle.circus_record.specs.declared.record.AskRecord.{AskRecord}
use Rattle.circus_record.specs.declared.record.MemberRecord.{MemberRecord}
use Rattle.circus_record.specs.declared.record.RunRecord.{RunRecord}
use Rattle.circus_gather.specs.Gathering.{index_of, is_of_index}
use Rattle.circus_gather.specs.declared.held.HeldCall.{HeldCall}
use Rattle.circus_performing.specs.declared.start.RunStart.{RunStart}
use Rattle.circus_performing.specs.Performing.{unless_replied, begin_run, made_ask, answered_ask, gone_on, state_after, most_turns}
use Rattle.circus_performing.specs.Record.{behaviour, start_of, turns}
use Rattle.circus_performing.proofs.Ends.{last_more}
use Rattle.circus_performing.proofs.Records.{with_answer, answered_is}
use Rattle.circus_member_rules.specs.declared.place.Place.{Place}
use Rattle.circus_member_rules.specs.declared.place.Beginning.{Beginning}
use Rattle.circus_member_rules.specs.declared.occurrence.Effect.{Effect}
use Rattle.circus_member_rules.specs.declared.occurrence.Occurrence.{Occurrence}
use Rattle.circus_member_rules.specs.Happening.{IsHome}
use Rattle.circus_member_rules.specs.MemberState.{Doing}
use Rattle.circus_member_rules.proofs.Concerned.{all_of}
use Rattle.circus_member_rules.proofs.Entering.{HasValue, with_entered, with_answered}
use Rattle.circus_member_rules.proofs.Starting.{IsSoundNow}
use Rattle.circus_member_rules.proofs.Writing.{one_is_performing}
use Rattle.circus_member_theory.specs.Past.{Past, followed, now, Rises, required_incarnation}
use Rattle.circus_member_theory.specs.Living.{phase_at_boot, kept_after, MayLive}
use Rattle.circus_member_theory.proofs.Timely.Firsts.{same_first}
use Rattle.circus_member_theory.specs.Asks.{is_new, knows, first_calls}
use Rattle.circus_member_theory.specs.Made.{asks, requests}
use Rattle.circus_member_theory.specs.Order.{if_now, ends_now, is_answered_by_end, returns_now, returns_at_once, made_by_run, made_by_runs, snapshots_now, executed_then}
use Rattle.circus_member_theory.specs.Returns.{run_of, is_stale, is_before, return_at, return_owed}
use Rattle.circus_member_theory.specs.Snapshots.{snapshot_at, snapshot_owed}
use Rattle.circus_headline_theory.proofs.Owed.Entries.{HasNoAsk, asks_by, gone_asks, answered_asks}
use Rattle.circus_headline_theory.proofs.Owed.Going.{behaves, Keeps, executed_keeps}
use Rattle.circus_headline_theory.proofs.Owed.Grown.{EndsAt, HasGone, Grown, AreGrown, got_more}
use Rattle.circus_headline_theory.proofs.Owed.Lives.{handles, IsStepped, step_is, known as known_after}
use Rattle.circus_headline_theory.proofs.Owed.Passing.{same_flat, none_flat, flat_passing}
use Rattle.circus_headline_theory.proofs.Owed.States.{snapshot_same}
use Rattle.circus_headline_theory.proofs.Owed.Status.{run_grown, starts_same, return_same}

and_false : (b : Bool) → (b && false) ≡ false
and_false true = refl
and_false false = refl

none_of_three : (a b : Bool) → (not a && not b && false) ≡ false
none_of_three true b = refl
none_of_three false true = refl
none_of_three false false = refl

nothing : {A : Type 0} (b : Bool) → let l : List A = if b then [] else [] in l ≡ []
nothing true = refl
nothing false = refl

-- ---- the asks of a run

-- what a step made of a run has the asks that pass a test, and one that it started has none
abbrev pub AskedAs : Place → (AskRecord → Bool) → Option RunRecord → Option RunRecord → Type 0
AskedAs place test None None = Unit {0}
AskedAs place test None (Some new) = (i : ℕ) → asks_by place test i new ≡ []
AskedAs place test (Some old) None = ⊥
AskedAs place test (Some old) (Some new) = (i : ℕ) → asks_by place test i old ≡ asks_by place test i new

abbrev pub AreAskedAs : Place → (AskRecord → Bool) → List RunRecord → List RunRecord → Type 0
AreAskedAs place test old new = (n : ℕ) → AskedAs place test (slice_get old n) (slice_get new n)

pub asked_same : (place : Place) (test : AskRecord → Bool) (runs : List RunRecord) → AreAskedAs place test runs runs
asked_same place test runs n = by_run (slice_get runs n)
  where
    by_run : (o : Option RunRecord) → AskedAs place test o o
    by_run None = tt
    by_run (Some run) = λ i. refl

asked_more : (place : Place) (test : AskRecord → Bool) (old runs : List RunRecord) (run : RunRecord) → ((i : ℕ) → asks_by place test i run ≡ []) → AreAskedAs place test old runs → AreAskedAs place test old (runs ++ run ∷ [])
asked_more place test old runs run none h n = by_place (got_more runs n)
  where
    fresh : (o : Option RunRecord) → AskedAs place test o None → AskedAs place test o (Some run)
    fresh None is = none
    fresh (Some q) is = absurd is

    by_place : ((x : RunRecord) → slice_get (runs ++ x ∷ []) n ≡ slice_get runs n) ⊎ ((slice_get runs n ≡ None) × ((x : RunRecord) → slice_get (runs ++ x ∷ []) n ≡ Some x)) → AskedAs place test (slice_get old n) (slice_get (runs ++ run ∷ []) n)
    by_place (inl same) = subst (AskedAs place test (slice_get old n)) (sym (same run)) (h n)
    by_place (inr here) = subst (AskedAs place test (slice_get old n)) (sym (here.1 run)) (fresh (slice_get old n) (subst (AskedAs place test (slice_get old n)) here.0 (h n)))

asked_on : (place : Place) (test : AskRecord → Bool) (old before : List RunRecord) (run gone : RunRecord) → ((i : ℕ) → asks_by place test i run ≡ asks_by place test i gone) → AreAskedAs place test old (before ++ run ∷ []) → AreAskedAs place test old (before ++ gone ∷ [])
asked_on place test old before run gone same h n = by_place (got_more before n)
  where
    further : (o : Option RunRecord) → AskedAs place test o (Some run) → AskedAs place test o (Some gone)
    further None is = λ i. sym (same i) ∙ is i
    further (Some q) is = λ i. is i ∙ same i

    by_place : ((x : RunRecord) → slice_get (before ++ x ∷ []) n ≡ slice_get before n) ⊎ ((slice_get before n ≡ None) × ((x : RunRecord) → slice_get (before ++ x ∷ []) n ≡ Some x)) → AskedAs place test (slice_get old n) (slice_get (before ++ gone ∷ []) n)
    by_place (inl still) = subst (AskedAs place test (slice_get old n)) (still run ∙ sym (still gone)) (h n)
    by_place (inr here) = subst (AskedAs place test (slice_get old n)) (sym (here.1 gone)) (further (slice_get old n) (subst (AskedAs place test (slice_get old n)) (here.1 run) (h n)))

module _ {M : Type 0} (declared : M → Signature) (turn : M → List ValueTree → ℕ → List ValueTree → List Outcome → NextTurn) (first : M → List ValueTree) (lawful : (hosted : M) → IsModule (behaviour declared turn first hosted)) (step : ℕ) (place : Place) (test : AskRecord → Bool)
    (fresh : (clock : List ℕ) (callee procedure : ℕ) (arguments state : List ValueTree) → test (made_ask step clock callee procedure arguments state) ≡ false)
    (still : (ask : AskRecord) (reply : Outcome) (clock : List ℕ) → ask.answered ≡ None → test (answered_ask step reply clock ask) ≡ test ask) (old : List RunRecord) where
  abbrev AreAsked : Doing M → Type 0
  AreAsked d = AreAskedAs place test old d.member.performing.kept.runs

  enters : (d : Doing M) (start : RunStart) → AreAsked d → AreAsked (record d { member = with_entered (behaves declared turn first lawful d) (lawful d.member.performing.hosted) d.member step start })
  enters d start h =
      let kept = d.member.performing.kept in
      let t = turn d.member.performing.hosted kept.state start.procedure start.arguments in
      asked_more place test old kept.runs (gone_on step t most_turns (begin_run step start)) (λ i. gone_asks place test step false fresh t most_turns i (begin_run step start) refl) h

  answers : (d : Doing M) (reply : Reply) → IsSoundNow declared turn first lawful d.member → HasValue (behaves declared turn first lawful d) d.member reply → AreAsked d
      → AreAsked (record d { member = with_answered (behaves declared turn first lawful d) (lawful d.member.performing.hosted) d.member step reply })
  answers d reply sound value h =
      let b = behaves declared turn first lawful d in
      let law = lawful d.member.performing.hosted in
      let kept = d.member.performing.kept in
      let began = d.member.performing.began in
      let p = one_is_performing b began kept sound.kept value.ask value.is_open in
      let made = with_answer b law began kept p step reply.outcome reply.clock in
      let t = turns b (state_after began p.before) (start_of p.run) in
      let gone = gone_on step t most_turns made in
      let none : HasNoAsk made = ap (option_and_then unless_replied) (last_more p.waiting.before (answered_ask step reply.outcome reply.clock p.waiting.ask)) in
      subst (λ (x : MemberRecord). AreAskedAs place test old x.runs) (sym (answered_is b law began kept p step reply.outcome reply.clock))
      (asked_on place test old p.before p.run gone
      (λ i. sym (gone_asks place test step false fresh t most_turns i made none ∙ append-nil (asks_by place test i made)
      ∙ answered_asks place test i p.run p.waiting.before p.waiting.ask step reply.outcome reply.clock p.waiting.asks_are (still p.waiting.ask reply.outcome reply.clock p.waiting.waits.not_answered)))
      (subst (AreAskedAs place test old) p.runs_are h))

  pub asked_keeps : Keeps declared turn first lawful step AreAsked AreAsked
  asked_keeps =
      record {
        gives = λ d sound idle h. h;
        enters = λ d start sound may none h. enters d start h;
        answers = answers;
        opens = λ d run ask view turned at is there h. h;
        ends = λ d run turned at none h. h;
      }

-- ---- what is made

module _ (place : Place) (boot : List View) (begins : Joiner) (first : List ValueTree) (old new : MemberRecord) (step : ℕ) (grown : AreGrown step old.runs new.runs) (start : (new.from ≡ old.from) ⊎ (old.runs ≡ []))
    (r : Past) (rise : Rises r) (below : now r < step) (asked : AreAskedAs place (is_new r) old.runs new.runs) where
  owed_same : (x : ℕ × HeldCall) → return_owed place.troupe begins old x.0 x.1 r ≡ return_owed place.troupe begins new x.0 x.1 r
  owed_same x =
      same_first (return_at place.troupe begins old x.0 x.1) (return_at place.troupe begins new x.0 x.1) (now r) r rise (omega arith)
      (λ y low. return_same step old new grown start place.troupe begins x.0 x.1 y (omega (arith, low, below)))

  -- ---- the end of a run

  abbrev ends : MemberRecord → ℕ → Bool
  ends kept i = ends_now place boot begins first kept r i

  not_yet : (run : RunRecord) → EndsAt step run → option_map_or (nat_eq (now r)) run.ended false ≡ false
  not_yet run (inl none) = ap (λ o. option_map_or (nat_eq (now r)) o false) none
  not_yet run (inr some) = ap (λ o. option_map_or (nat_eq (now r)) o false) some ∙ ne_eqb (now r) step (λ eq. absurd (omega (arith, below, eq)))

  ends_same : (i : ℕ) → ends old i ≡ ends new i
  ends_same i = by_runs (run_of old i) (run_of new i) (run_grown step old new grown start i)
    where
      by_runs : (o n : Option RunRecord) → Grown step o n → option_map_or (λ (run : RunRecord). option_map_or (nat_eq (now r)) run.ended false) o false ≡ option_map_or (λ (run : RunRecord). option_map_or (nat_eq (now r)) run.ended false) n false
      by_runs None None g = refl
      by_runs None (Some n) g = sym (not_yet n g.ends)
      by_runs (Some o) None g = absurd g
      by_runs (Some o) (Some n) (inl same) = ap (λ (run : RunRecord). option_map_or (nat_eq (now r)) run.ended false) same
      by_runs (Some o) (Some n) (inr gone) = ap (λ y. option_map_or (nat_eq (now r)) y false) gone.was_open ∙ sym (not_yet n gone.ends)

  abbrev by_end : MemberRecord → ℕ × HeldCall → Bool
  by_end kept x = is_answered_by_end place boot begins first kept r x

  by_end_same : (x : ℕ × HeldCall) → by_end old x ≡ by_end new x
  by_end_same x =
      let i = index_of place.troupe x.1.header in
      let starts = starts_same step old new grown start i (now r) (omega (arith, below)) in
      (λ j. not (nat_lt x.1.header.server_incarnation (required_incarnation r) && (nat_eq x.0 (now r) || not (starts j))) && not (is_before place.troupe begins old x.1 r) && ends_same i j)

  returns_same : (test other : ℕ × HeldCall → Bool) → ((x : ℕ × HeldCall) → test x ≡ other x) → returns_now place boot begins first old r test ≡ returns_now place boot begins first new r other
  returns_same test other same =
      let f : ℕ × HeldCall → List Effect = λ x. if_now r x.1.sender (return_owed place.troupe begins old x.0 x.1 r) in
      let g : ℕ × HeldCall → List Effect = λ x. if_now r x.1.sender (return_owed place.troupe begins new x.0 x.1 r) in
      ap (flat_map f) (filter_agree test other same (asks r))
      ∙ same_flat f g (filter other (asks r)) (all_of (λ x. f x ≡ g x) (filter other (asks r)) (λ x. ap (if_now r x.1.sender) (owed_same x)))

  pub at_once_same : returns_at_once place boot begins first old r ≡ returns_at_once place boot begins first new r
  at_once_same = returns_same (λ x. not (by_end old x)) (λ x. not (by_end new x)) (λ x. ap not (by_end_same x))

  -- ---- each run

  abbrev ended_by : MemberRecord → ℕ → List Effect
  ended_by kept i = returns_now place boot begins first kept r (λ x. by_end kept x && is_of_index place.troupe i x.1)

  ended_same : (i : ℕ) → ended_by old i ≡ ended_by new i
  ended_same i =
      returns_same (λ x. by_end old x && is_of_index place.troupe i x.1) (λ x. by_end new x && is_of_index place.troupe i x.1) (λ x. ap (λ b. b && is_of_index place.troupe i x.1) (by_end_same x))

  -- an index of which no run ends
  none_ended : (i : ℕ) → ends new i ≡ false → ended_by new i ≡ []
  none_ended i none =
      let f : ℕ × HeldCall → List Effect = λ x. if_now r x.1.sender (return_owed place.troupe begins new x.0 x.1 r) in
      let test : ℕ × HeldCall → Bool = λ x. by_end new x && is_of_index place.troupe i x.1 in
      flat_passing test f (asks r)
      ∙ none_flat (λ x. if test x then f x else []) (asks r) (all_of (λ x. (if test x then f x else []) ≡ []) (asks r) (λ x. ap (λ b. if b then f x else []) (never x (eqb_tells (index_of place.troupe x.1.header) i))))
    where
      never : (x : ℕ × HeldCall) → ((nat_eq (index_of place.troupe x.1.header) i ≡ true) × (index_of place.troupe x.1.header ≡ i)) ⊎ ((nat_eq (index_of place.troupe x.1.header) i ≡ false) × ((index_of place.troupe x.1.header ≡ i) → ⊥))
          → (by_end new x && nat_eq (index_of place.troupe x.1.header) i) ≡ false
      never x (inr other) = ap (λ b. by_end new x && b) other.0 ∙ and_false (by_end new x)
      never x (inl same) =
          let stale = is_stale place.troupe begins new x.0 x.1 r in
          let before = is_before place.troupe begins new x.1 r in
          let no_end : by_end new x ≡ false =
          ap (λ b. not stale && not before && b) (ap (ends new) same.1 ∙ none) ∙ none_of_three stale before in
          ap (λ b. b && nat_eq (index_of place.troupe x.1.header) i) no_end

  -- behind the first of them
  later : (i : ℕ) (ys : List RunRecord) (y : RunRecord) → ((n : ℕ) (run : RunRecord) → slice_get (y ∷ ys) n ≡ Some run → EndsAt step run → ended_by new (i + n) ≡ [])
      → (n : ℕ) (run : RunRecord) → slice_get ys n ≡ Some run → EndsAt step run → ended_by new ((i + 1) + n) ≡ []
  later i ys y late n run there last = let same : (i + 1) + n ≡ i + suc n = omega arith in ap (ended_by new) same ∙ late (suc n) run there last

  module _ (pass : RunRecord → Bool) (passes : (o n : RunRecord) → n.started ≡ o.started → pass o ≡ pass n) where
    runs_same : (i : ℕ) (xs ys : List RunRecord) → ((n : ℕ) → Grown step (slice_get xs n) (slice_get ys n)) → ((n : ℕ) → AskedAs place (is_new r) (slice_get xs n) (slice_get ys n))
        → ((n : ℕ) (run : RunRecord) → slice_get ys n ≡ Some run → EndsAt step run → ended_by new (i + n) ≡ [])
        → made_by_runs place boot begins first old pass r i xs ≡ made_by_runs place boot begins first new pass r i ys
    runs_same i [] [] grows asks_as late = refl
    runs_same i [] (y ∷ ys) grows asks_as late =
        let none : i + 0 ≡ i = omega arith in
        let one : made_by_run place boot begins first new r i y ≡ [] =
        (λ j. flat_map (first_calls place boot (knows place boot r)) (asks_as 0 i j) ++ (ap (ended_by new) (sym none) ∙ late 0 y refl (grows 0).ends) j) in
        sym ((λ j. (if pass y then one j else []) ++ sym (runs_same (i + 1) [] ys (λ n. grows (suc n)) (λ n. asks_as (suc n)) (later i ys y late)) j) ∙ ap (λ l. l ++ []) (nothing (pass y)))
    runs_same i (x ∷ xs) [] grows asks_as late = absurd (grows 0)
    runs_same i (x ∷ xs) (y ∷ ys) grows asks_as late =
        (λ j. (if same_pass (grows 0) j then flat_map (first_calls place boot (knows place boot r)) (asks_as 0 i j) ++ ended_same i j else [])
        ++ runs_same (i + 1) xs ys (λ n. grows (suc n)) (λ n. asks_as (suc n)) (later i ys y late) j)
      where
        same_pass : (x ≡ y) ⊎ HasGone step x y → pass x ≡ pass y
        same_pass (inl same) = ap pass same
        same_pass (inr gone) = passes x y gone.started

    made_same : made_by_runs place boot begins first old pass r old.from old.runs ≡ made_by_runs place boot begins first new pass r new.from new.runs
    made_same = by_start start ∙ runs_same new.from old.runs new.runs grown asked (λ n run there last. none_ended (new.from + n) (run_ends n run there last))
      where
        by_start : (new.from ≡ old.from) ⊎ (old.runs ≡ []) → made_by_runs place boot begins first old pass r old.from old.runs ≡ made_by_runs place boot begins first old pass r new.from old.runs
        by_start (inl same) = ap (λ i. made_by_runs place boot begins first old pass r i old.runs) (sym same)
        by_start (inr none) = ap (made_by_runs place boot begins first old pass r old.from) none ∙ sym (ap (made_by_runs place boot begins first old pass r new.from) none)

        run_ends : (n : ℕ) (run : RunRecord) → slice_get new.runs n ≡ Some run → EndsAt step run → ends new (new.from + n) ≡ false
        run_ends n run there last =
            let less : (new.from + n) - new.from ≡ n = omega arith in
            let here : run_of new (new.from + n) ≡ Some run =
            ap (λ b. if b then None else slice_get new.runs ((new.from + n) - new.from)) (le-ltb (new.from + n) new.from (omega arith)) ∙ ap (slice_get new.runs) less ∙ there in
            ap (λ o. option_map_or (λ (x : RunRecord). option_map_or (nat_eq (now r)) x.ended false) o false) here ∙ not_yet run last

  snapshots_same : snapshots_now place boot begins first old r ≡ snapshots_now place boot begins first new r
  snapshots_same =
      let f : ℕ × Caller → List Effect = λ x. if_now r x.1 (snapshot_owed begins first old x.0 r) in
      let g : ℕ × Caller → List Effect = λ x. if_now r x.1 (snapshot_owed begins first new x.0 r) in
      same_flat f g (requests r)
      (all_of (λ x. f x ≡ g x) (requests r)
      (λ x. ap (if_now r x.1) (same_first (snapshot_at begins first old x.0) (snapshot_at begins first new x.0) (now r) r rise (omega arith) (λ y low. snapshot_same begins first step old new grown x.0 y (omega (arith, low, below))))))

  pub executed_same : executed_then place boot begins first old r ≡ executed_then place boot begins first new r
  executed_same =
      let early : RunRecord → Bool = λ run. nat_lt run.started (now r) in
      let late : RunRecord → Bool = λ run. not (nat_lt run.started (now r)) in
      (λ j. (made_same early (λ o n same. ap (λ k. nat_lt k (now r)) (sym same)) j ++ snapshots_same j) ++ made_same late (λ o n same. ap (λ k. not (nat_lt k (now r))) (sym same)) j)

-- ---- a step

module _ {M : Type 0} (declared : M → Signature) (turn : M → List ValueTree → ℕ → List ValueTree → List Outcome → NextTurn) (first : M → List ValueTree) (lawful : (hosted : M) → IsModule (behaviour declared turn first hosted)) (place : Place) (views : List View) (beginning : Beginning) (hosted : M) (home : IsHome (declared hosted) place views)
    (p : Past) (at : ℕ) (o : Occurrence) (may : MayLive declared turn first place views beginning hosted (followed p at o)) where
  abbrev kept_at : Past → MemberRecord
  kept_at x = kept_after declared turn first place views beginning hosted x

  pub record SaysInOrder (r : Past) : Type 0 where
    pub at_once : returns_at_once place views (phase_at_boot beginning) (first hosted) (kept_at p) r ≡ returns_at_once place views (phase_at_boot beginning) (first hosted) (kept_at (followed p at o)) r
    pub executed : executed_then place views (phase_at_boot beginning) (first hosted) (kept_at p) r ≡ executed_then place views (phase_at_boot beginning) (first hosted) (kept_at (followed p at o)) r

  -- what was made before stands in the same order, by the record behind it
  pub order_same : (r : Past) → Rises r → now r < at → SaysInOrder r
  order_same r rise below =
      let s : IsStepped declared turn first lawful place views beginning hosted p at o =
      step_is declared turn first lawful place views beginning hosted home p at o may (known_after declared turn first lawful place views beginning hosted home p may.0) in
      let old = (kept_at p).runs in
      let start : ((kept_at (followed p at o)).from ≡ (kept_at p).from) ⊎ ((kept_at p).runs ≡ []) = elim s.carried.start [ inl same ↦ inl (s.same.start ∙ same) | inr none ↦ inr none ] in
      let fresh : (clock : List ℕ) (callee procedure : ℕ) (arguments state : List ValueTree) → is_new r (made_ask at clock callee procedure arguments state) ≡ false =
      λ clock callee procedure arguments state. ne_eqb at (now r) (λ eq. absurd (omega (arith, below, eq))) in
      let still : (ask : AskRecord) (reply : Outcome) (clock : List ℕ) → ask.answered ≡ None → is_new r (answered_ask at reply clock ask) ≡ is_new r ask = λ ask reply clock none. refl in
      let asked = executed_keeps declared turn first lawful at (AreAsked declared turn first lawful at place (is_new r) fresh still old) (AreAsked declared turn first lawful at place (is_new r) fresh still old)
      (asked_keeps declared turn first lawful at place (is_new r) fresh still old) (handles declared turn first lawful place views beginning hosted p at o) s.sound
      (subst (AreAskedAs place (is_new r) old) (sym s.carried.runs) (asked_same place (is_new r) old)) in
      record {
        at_once = at_once_same place views (phase_at_boot beginning) (first hosted) (kept_at p) (kept_at (followed p at o)) at s.grown start r rise below asked;
        executed = executed_same place views (phase_at_boot beginning) (first hosted) (kept_at p) (kept_at (followed p at o)) at s.grown start r rise below asked;
      }
