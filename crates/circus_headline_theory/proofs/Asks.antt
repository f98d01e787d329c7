-- What the asks of a record call stays as it is while the record grows.
use Rattle.std.proofs.Common.{◌≡◌, ℕ, zero, suc, ◌-◌, ◌⊎◌, Bool, true, false, inl, inr, cond, List, [], ◌∷◌, ◌++◌, Option, Some, None, sym, ap, subst, ◌∙◌}
use Rattle.std.specs.Prelude.{slice_get, option_map, option_and_then}
use Rattle.std.proofs.lemmas.Option.{same_Some}
use Rattle.circus_value.specs.ValueTree.{ValueTree}
use Rattle.circus_value.specs.declared.outcome.Outcome.{Outcome}
use Rattle.circus_header.specs.declared.answer.Reply.{Reply}
use Rattle.circus_collate.specs.declared.view.View.{View}
use Rattle.circus_model.specs.Behaviour.{IsModule}
use Rattle.circus_model.specs.Execution.{is_spent}
use Rattle.circus_model.specs.NextTurn.{NextTurn, asks, ends}
use Rattle.circus_model.specs.declared.signature.Signature.{Signature}
use Rattle.circus_record.specs.declared.record.AskRecord.{AskRecord}
use Rattle.circus_record.specs.declared.record.MemberRecord.{MemberRecord}
use Rattle.circus_record.specs.declared.record.RunRecord.{RunRecord}
use Rattle.circus_performing.specs.declared.start.RunStart.{RunStart}
use Rattle.circus_performing.specs.Performing.{clock_after, begin_run, made_ask, answered_ask, refusal, with_ask, with_refusal, turn_run, gone_on, replies_of, state_after, most_turns}
use Rattle.circus_performing.specs.Record.{behaviour, start_of, turns}
use Rattle.circus_performing.proofs.Records.{with_answer, answered_is}
use Rattle.circus_member_rules.specs.declared.place.Beginning.{Beginning}
use Rattle.circus_member_rules.specs.declared.place.Place.{Place}
use Rattle.circus_member_rules.specs.declared.occurrence.AskName.{AskName}
use Rattle.circus_member_rules.specs.declared.occurrence.Occurrence.{Occurrence}
use Rattle.circus_member_rules.specs.Happening.{IsHome}
use Rattle.circus_member_rules.specs.MemberState.{Doing}
use Rattle.circus_member_rules.proofs.Entering.{HasValue, with_entered, with_answered}
use Rattle.circus_member_rules.proofs.Starting.{IsSoundNow}
use Rattle.circus_member_rules.proofs.Writing.{one_is_performing}
use Rattle.circus_node.specs.Accepting.{imported_procedure, recorded_ask}
use Rattle.circus_member_theory.proofs.Accepting.Taken.{imported_as}
use Rattle.circus_member_theory.specs.Past.{Past, followed}
use Rattle.circus_member_theory.specs.Living.{MayLive, kept_after}
use Rattle.circus_headline_theory.proofs.Owed.Going.{behaves, Keeps, executed_keeps}
use Rattle.circus_headline_theory.proofs.Owed.Lives.{handles, IsStepped, step_is, known}

-- what an ask calls: whose procedure, and which
abbrev pub Callee : Type 0
Callee = ℕ × ℕ

abbrev pub callee_of : AskRecord → Callee
callee_of ask = (ask.callee, ask.procedure)

abbrev called_in : List AskRecord → ℕ → Option Callee
called_in made n = option_map callee_of (slice_get made n)

no_callee : (c : Callee) → ◌≡◌ {A = Option Callee} None (Some c) → ⊥
no_callee c is = cc

-- ---- the asks of a run

abbrev Stay : List AskRecord → List AskRecord → Type 0
Stay old new = (n : ℕ) (c : Callee) → called_in old n ≡ Some c → called_in new n ≡ Some c

stay_more : (xs ys : List AskRecord) → Stay xs (xs ++ ys)
stay_more [] ys n c is = absurd (no_callee c is)
stay_more (x ∷ xs) ys zero c is = is
stay_more (x ∷ xs) ys (suc n) c is = stay_more xs ys n c is

stay_answered : (before : List AskRecord) (ask : AskRecord) (step : ℕ) (reply : Outcome) (clock : List ℕ) → Stay (before ++ ask ∷ []) (before ++ answered_ask step reply clock ask ∷ [])
stay_answered [] ask step reply clock zero c is = is
stay_answered [] ask step reply clock (suc n) c is = is
stay_answered (x ∷ xs) ask step reply clock zero c is = is
stay_answered (x ∷ xs) ask step reply clock (suc n) c is = stay_answered xs ask step reply clock n c is

stay_gone : (step : ℕ) (turn : List Outcome → NextTurn) (left : ℕ) (run : RunRecord) → Stay run.asks (gone_on step turn left run).asks
unfolding gone_on
stay_gone step turn zero run = λ n c is. is
stay_gone step turn (suc left) run = by_turn (stay_gone step turn left) (turn (replies_of run.asks))
  where
    by_turn : ((r : RunRecord) → Stay r.asks (gone_on step turn left r).asks) → (next : NextTurn) → Stay run.asks (turn_run step (gone_on step turn left) run next).asks
    by_turn rest (ends outcome state) = λ n c is. is
    by_turn rest (asks callee procedure arguments state) = by_test (is_spent (clock_after run.entry run.asks))
      where
        by_test : (t : Bool) → let r = cond t (gone_on step turn left (with_refusal step callee procedure arguments state run)) (with_ask run (made_ask step (clock_after run.entry run.asks) callee procedure arguments state)) in Stay run.asks r.asks
        by_test true =
            λ n c is. rest (with_refusal step callee procedure arguments state run) n c
            (stay_more run.asks (answered_ask step refusal (clock_after run.entry run.asks) (made_ask step (clock_after run.entry run.asks) callee procedure arguments state) ∷ []) n c is)
        by_test false = stay_more run.asks (made_ask step (clock_after run.entry run.asks) callee procedure arguments state ∷ [])

-- ---- the asks of all runs

abbrev called_by_runs : List RunRecord → ℕ → ℕ → Option Callee
called_by_runs runs number n = option_map callee_of (option_and_then (λ (r : RunRecord). slice_get r.asks n) (slice_get runs number))

abbrev RunsStay : List RunRecord → List RunRecord → Type 0
RunsStay old new = (number n : ℕ) (c : Callee) → called_by_runs old number n ≡ Some c → called_by_runs new number n ≡ Some c

runs_more : (xs : List RunRecord) (run : RunRecord) → RunsStay xs (xs ++ run ∷ [])
runs_more [] run number n c is = absurd (no_callee c is)
runs_more (x ∷ xs) run zero n c is = is
runs_more (x ∷ xs) run (suc number) n c is = runs_more xs run number n c is

runs_changed : (before : List RunRecord) (run gone : RunRecord) → Stay run.asks gone.asks → RunsStay (before ++ run ∷ []) (before ++ gone ∷ [])
runs_changed [] run gone stay zero n c is = stay n c is
runs_changed [] run gone stay (suc number) n c is = is
runs_changed (x ∷ xs) run gone stay zero n c is = is
runs_changed (x ∷ xs) run gone stay (suc number) n c is = runs_changed xs run gone stay number n c is

-- what the ask of a name calls, by a record
abbrev pub recorded : MemberRecord → AskName → Option Callee
recorded kept name = called_by_runs kept.runs (name.run - kept.from) name.ask

-- so does what is accepted
pub imported_recorded : (declared : Signature) (kept : MemberRecord) (name : AskName) (c : Callee) → recorded kept name ≡ Some c → option_and_then (imported_procedure declared) (recorded_ask kept name) ≡ imported_as declared c.0 c.1
imported_recorded declared kept name c is = by_ask (option_and_then (λ (r : RunRecord). slice_get r.asks name.ask) (slice_get kept.runs (name.run - kept.from))) is
  where
    by_ask : (o : Option AskRecord) → option_map callee_of o ≡ Some c
        → option_and_then (imported_procedure declared) (option_map (λ (a : AskRecord). record { troupe = a.callee; procedure = a.procedure }) o) ≡ imported_as declared c.0 c.1
    by_ask None there = absurd (no_callee c there)
    by_ask (Some a) there = ap (λ (x : Callee). imported_as declared x.0 x.1) (same_Some (callee_of a) c there)

-- an ask of a name is there
pub recorded_at : (kept : MemberRecord) (name : AskName) (run : RunRecord) (ask : AskRecord) (number : ℕ) → name.run - kept.from ≡ number → slice_get kept.runs number ≡ Some run → slice_get run.asks name.ask ≡ Some ask
    → recorded kept name ≡ Some (callee_of ask)
recorded_at kept name run ask number index run_is ask_is =
    (λ j. called_by_runs kept.runs (index j) name.ask)
    ∙ ap (λ (o : Option RunRecord). option_map callee_of (option_and_then (λ (r : RunRecord). slice_get r.asks name.ask) o)) run_is
    ∙ ap (option_map callee_of) ask_is

module _ {M : Type 0} (declared : M → Signature) (turn : M → List ValueTree → ℕ → List ValueTree → List Outcome → NextTurn) (first : M → List ValueTree) (lawful : (hosted : M) → IsModule (behaviour declared turn first hosted)) where
  module _ (step : ℕ) (old : List RunRecord) where
    abbrev StaysIn : Doing M → Type 0
    StaysIn d = RunsStay old d.member.performing.kept.runs

    enters : (d : Doing M) (start : RunStart) → StaysIn d → StaysIn (record d { member = with_entered (behaves declared turn first lawful d) (lawful d.member.performing.hosted) d.member step start })
    enters d start h =
        let kept = d.member.performing.kept in
        let t = turn d.member.performing.hosted kept.state start.procedure start.arguments in
        λ number n c is. runs_more kept.runs (gone_on step t most_turns (begin_run step start)) number n c (h number n c is)

    answers : (d : Doing M) (reply : Reply) → IsSoundNow declared turn first lawful d.member → HasValue (behaves declared turn first lawful d) d.member reply → StaysIn d
        → StaysIn (record d { member = with_answered (behaves declared turn first lawful d) (lawful d.member.performing.hosted) d.member step reply })
    answers d reply sound value h =
        let b = behaves declared turn first lawful d in
        let law = lawful d.member.performing.hosted in
        let kept = d.member.performing.kept in
        let began = d.member.performing.began in
        let p = one_is_performing b began kept sound.kept value.ask value.is_open in
        let made = with_answer b law began kept p step reply.outcome reply.clock in
        let t = turns b (state_after began p.before) (start_of p.run) in
        let gone = gone_on step t most_turns made in
        let before : RunsStay old (p.before ++ p.run ∷ []) = subst (RunsStay old) p.runs_are h in
        let stay : Stay p.run.asks gone.asks =
        λ n c is. stay_gone step t most_turns made n c (stay_answered p.waiting.before p.waiting.ask step reply.outcome reply.clock n c (subst (λ l. called_in l n ≡ Some c) p.waiting.asks_are is)) in
        subst (λ (x : MemberRecord). RunsStay old x.runs) (sym (answered_is b law began kept p step reply.outcome reply.clock))
        (λ number n c is. runs_changed p.before p.run gone stay number n c (before number n c is))

    stays_keep : Keeps declared turn first lawful step StaysIn StaysIn
    stays_keep =
        record {
          gives = λ d sound idle h. h;
          enters = λ d start sound may none h. enters d start h;
          answers = answers;
          opens = λ d run ask view turn_run at is there h. h;
          ends = λ d run turn_run at none h. h;
        }

  -- ---- a step

  module _ (place : Place) (views : List View) (beginning : Beginning) (hosted : M) (home : IsHome (declared hosted) place views) where
    pub recorded_stays : (p : Past) (at : ℕ) (o : Occurrence) → MayLive declared turn first place views beginning hosted (followed p at o) → (name : AskName) (c : Callee)
        → recorded (kept_after declared turn first place views beginning hosted p) name ≡ Some c
        → recorded (kept_after declared turn first place views beginning hosted (followed p at o)) name ≡ Some c
    recorded_stays p at o may name c is = by_start s.carried.start
      where
        old : MemberRecord
        old = kept_after declared turn first place views beginning hosted p

        new : MemberRecord
        new = kept_after declared turn first place views beginning hosted (followed p at o)

        d : Doing M
        d = handles declared turn first lawful place views beginning hosted p at o

        s : IsStepped declared turn first lawful place views beginning hosted p at o
        s = step_is declared turn first lawful place views beginning hosted home p at o may (known declared turn first lawful place views beginning hosted home p may.0)

        stays : RunsStay old.runs new.runs
        stays =
            executed_keeps declared turn first lawful at (StaysIn at old.runs) (StaysIn at old.runs) (stays_keep at old.runs) d s.sound
            (subst (RunsStay old.runs) (sym s.carried.runs) (λ number n x there. there))

        by_start : (d.member.performing.kept.from ≡ old.from) ⊎ (old.runs ≡ []) → recorded new name ≡ Some c
        by_start (inl same) = subst (λ from. called_by_runs new.runs (name.run - from) name.ask ≡ Some c) (sym (s.same.start ∙ same)) (stays (name.run - old.from) name.ask c is)
        by_start (inr none) = absurd (no_callee c (sym (ap (λ runs. called_by_runs runs (name.run - old.from) name.ask) none) ∙ is))
