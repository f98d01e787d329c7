-- What a step makes of the runs in a record: the last one may go on, others may start, and those that have ended stay.
use Rattle.std.proofs.Common.{◌≡◌, ℕ, zero, suc, Bool, true, false, ◌⊎◌, inl, inr, cond, List, [], ◌∷◌, ◌++◌, Option, Some, None, refl, sym, ap, subst, ◌∙◌}
use Rattle.std.specs.Prelude.{slice_get}
use Rattle.circus_value.specs.ValueTree.{ValueTree}
use Rattle.circus_value.specs.declared.outcome.Outcome.{Outcome}
use Rattle.circus_header.specs.declared.answer.Reply.{Reply}
use Rattle.circus_model.specs.Execution.{is_spent}
use Rattle.circus_model.specs.declared.signature.Signature.{Signature}
use Rattle.circus_model.specs.NextTurn.{NextTurn, asks, ends}
use Rattle.circus_model.specs.Behaviour.{IsModule}
use Rattle.circus_record.specs.declared.record.MemberRecord.{MemberRecord}
use Rattle.circus_record.specs.declared.record.RunRecord.{RunRecord}
use Rattle.circus_performing.specs.declared.start.RunStart.{RunStart}
use Rattle.circus_performing.specs.Performing.{gone_on, turn_run, begin_run, clock_after, replies_of, state_after, made_ask, with_ask, with_refusal, most_turns}
use Rattle.circus_performing.specs.Record.{behaviour, start_of, turns}
use Rattle.circus_performing.proofs.Records.{with_answer, answered_is}
use Rattle.circus_member_rules.specs.MemberState.{Doing}
use Rattle.circus_member_rules.specs.Seen.Sound.{MayStart}
use Rattle.circus_member_rules.proofs.Entering.{HasValue, with_entered, with_answered}
use Rattle.circus_member_rules.proofs.Starting.{IsSoundNow}
use Rattle.circus_member_rules.proofs.Writing.{one_is_performing}
use Rattle.circus_headline_theory.proofs.Owed.Going.{behaves, Keeps}

-- it has not ended, or in this step
abbrev pub EndsAt : ℕ → RunRecord → Type 0
EndsAt step run = (run.ended ≡ None) ⊎ (run.ended ≡ Some step)

-- it was open and went on
pub record HasGone (step : ℕ) (old new : RunRecord) : Type 0 where
  pub was_open : old.ended ≡ None
  pub started : new.started ≡ old.started
  pub ends : EndsAt step new

-- it was started in this step
pub record HasStarted (step : ℕ) (new : RunRecord) : Type 0 where
  pub started : new.started ≡ step
  pub ends : EndsAt step new

-- what a step made of what stood at a place
abbrev pub Grown : ℕ → Option RunRecord → Option RunRecord → Type 0
Grown step None None = Unit {0}
Grown step None (Some new) = HasStarted step new
Grown step (Some old) None = ⊥
Grown step (Some old) (Some new) = (old ≡ new) ⊎ HasGone step old new

abbrev pub AreGrown : ℕ → List RunRecord → List RunRecord → Type 0
AreGrown step old new = (n : ℕ) → Grown step (slice_get old n) (slice_get new n)

pub grown_same : (step : ℕ) (runs : List RunRecord) → AreGrown step runs runs
grown_same step runs n = by_run (slice_get runs n)
  where
    by_run : (o : Option RunRecord) → Grown step o o
    by_run None = tt
    by_run (Some run) = inl refl

-- ---- a run goes on

pub gone_started : (step : ℕ) (turn : List Outcome → NextTurn) (left : ℕ) (run : RunRecord) → (gone_on step turn left run).started ≡ run.started
unfolding gone_on
gone_started step turn zero run = refl
gone_started step turn (suc left) run = by_turn (gone_started step turn left) (turn (replies_of run.asks))
  where
    by_turn : ((r : RunRecord) → (gone_on step turn left r).started ≡ r.started) → (next : NextTurn) → (turn_run step (gone_on step turn left) run next).started ≡ run.started
    by_turn rest (ends outcome state) = refl
    by_turn rest (asks callee procedure arguments state) = by_test (is_spent (clock_after run.entry run.asks))
      where
        by_test : (b : Bool) → let r = cond b (gone_on step turn left (with_refusal step callee procedure arguments state run)) (with_ask run (made_ask step (clock_after run.entry run.asks) callee procedure arguments state)) in r.started ≡ run.started
        by_test true = rest (with_refusal step callee procedure arguments state run)
        by_test false = refl

pub gone_ends : (step : ℕ) (turn : List Outcome → NextTurn) (left : ℕ) (run : RunRecord) → run.ended ≡ None → EndsAt step (gone_on step turn left run)
unfolding gone_on
gone_ends step turn zero run is = inl is
gone_ends step turn (suc left) run is = by_turn (gone_ends step turn left) (turn (replies_of run.asks))
  where
    by_turn : ((r : RunRecord) → r.ended ≡ None → EndsAt step (gone_on step turn left r)) → (next : NextTurn) → EndsAt step (turn_run step (gone_on step turn left) run next)
    by_turn rest (ends outcome state) = inr refl
    by_turn rest (asks callee procedure arguments state) = by_test (is_spent (clock_after run.entry run.asks))
      where
        by_test : (b : Bool) → EndsAt step (cond b (gone_on step turn left (with_refusal step callee procedure arguments state run)) (with_ask run (made_ask step (clock_after run.entry run.asks) callee procedure arguments state)))
        by_test true = rest (with_refusal step callee procedure arguments state run) is
        by_test false = inl is

-- ---- what stands at a place behind another run

pub got_more : {X : Type 0} (xs : List X) (n : ℕ) → ((x : X) → slice_get (xs ++ x ∷ []) n ≡ slice_get xs n) ⊎ ((slice_get xs n ≡ None) × ((x : X) → slice_get (xs ++ x ∷ []) n ≡ Some x))
got_more [] zero = inr (refl, λ x. refl)
got_more [] (suc n) = inl (λ x. refl)
got_more (y ∷ xs) zero = inl (λ x. refl)
got_more (y ∷ xs) (suc n) = got_more xs n

-- a run that starts
grown_more : (step : ℕ) (old runs : List RunRecord) (run : RunRecord) → HasStarted step run → AreGrown step old runs → AreGrown step old (runs ++ run ∷ [])
grown_more step old runs run started h n = by_place (got_more runs n)
  where
    fresh : (o : Option RunRecord) → Grown step o None → Grown step o (Some run)
    fresh None is = started
    fresh (Some q) is = absurd is

    by_place : ((x : RunRecord) → slice_get (runs ++ x ∷ []) n ≡ slice_get runs n) ⊎ ((slice_get runs n ≡ None) × ((x : RunRecord) → slice_get (runs ++ x ∷ []) n ≡ Some x)) → Grown step (slice_get old n) (slice_get (runs ++ run ∷ []) n)
    by_place (inl same) = subst (Grown step (slice_get old n)) (sym (same run)) (h n)
    by_place (inr here) = subst (Grown step (slice_get old n)) (sym (here.1 run)) (fresh (slice_get old n) (subst (Grown step (slice_get old n)) here.0 (h n)))

-- one that goes on
grown_on : (step : ℕ) (old before : List RunRecord) (run gone : RunRecord) → HasGone step run gone → AreGrown step old (before ++ run ∷ []) → AreGrown step old (before ++ gone ∷ [])
grown_on step old before run gone goes h n = by_place (got_more before n)
  where
    further : (o : Option RunRecord) → Grown step o (Some run) → Grown step o (Some gone)
    further None is = record { started = goes.started ∙ is.started; ends = goes.ends }
    further (Some q) (inl same) =
        inr (record { was_open = ap (λ (r : RunRecord). r.ended) same ∙ goes.was_open; started = goes.started ∙ sym (ap (λ (r : RunRecord). r.started) same); ends = goes.ends })
    further (Some q) (inr is) = inr (record { was_open = is.was_open; started = goes.started ∙ is.started; ends = goes.ends })

    by_place : ((x : RunRecord) → slice_get (before ++ x ∷ []) n ≡ slice_get before n) ⊎ ((slice_get before n ≡ None) × ((x : RunRecord) → slice_get (before ++ x ∷ []) n ≡ Some x)) → Grown step (slice_get old n) (slice_get (before ++ gone ∷ []) n)
    by_place (inl same) = subst (Grown step (slice_get old n)) (same run ∙ sym (same gone)) (h n)
    by_place (inr here) = subst (Grown step (slice_get old n)) (sym (here.1 gone)) (further (slice_get old n) (subst (Grown step (slice_get old n)) (here.1 run) (h n)))

module _ {M : Type 0} (declared : M → Signature) (turn : M → List ValueTree → ℕ → List ValueTree → List Outcome → NextTurn) (first : M → List ValueTree) (lawful : (hosted : M) → IsModule (behaviour declared turn first hosted)) (step : ℕ) (old : List RunRecord) where
  abbrev pub IsGrown : Doing M → Type 0
  IsGrown d = AreGrown step old d.member.performing.kept.runs

  enters : (d : Doing M) (start : RunStart) → IsSoundNow declared turn first lawful d.member → MayStart (declared d.member.performing.hosted) d.member start → IsGrown d
      → IsGrown (record d { member = with_entered (behaves declared turn first lawful d) (lawful d.member.performing.hosted) d.member step start })
  enters d start sound may h =
      let kept = d.member.performing.kept in
      let t = turn d.member.performing.hosted kept.state start.procedure start.arguments in
      grown_more step old kept.runs (gone_on step t most_turns (begin_run step start))
      (record { started = gone_started step t most_turns (begin_run step start); ends = gone_ends step t most_turns (begin_run step start) refl })
      h

  answers : (d : Doing M) (reply : Reply) → IsSoundNow declared turn first lawful d.member → HasValue (behaves declared turn first lawful d) d.member reply → IsGrown d
      → IsGrown (record d { member = with_answered (behaves declared turn first lawful d) (lawful d.member.performing.hosted) d.member step reply })
  answers d reply sound value h =
      let b = behaves declared turn first lawful d in
      let law = lawful d.member.performing.hosted in
      let kept = d.member.performing.kept in
      let began = d.member.performing.began in
      let p = one_is_performing b began kept sound.kept value.ask value.is_open in
      let made = with_answer b law began kept p step reply.outcome reply.clock in
      let t = turns b (state_after began p.before) (start_of p.run) in
      let gone = gone_on step t most_turns made in
      subst (λ (x : MemberRecord). AreGrown step old x.runs) (sym (answered_is b law began kept p step reply.outcome reply.clock))
      (grown_on step old p.before p.run gone
      (record { was_open = p.waiting.not_ended; started = gone_started step t most_turns made; ends = gone_ends step t most_turns made p.waiting.not_ended })
      (subst (AreGrown step old) p.runs_are h))

  pub grown_keeps : Keeps declared turn first lawful step IsGrown IsGrown
  grown_keeps =
      record {
        gives = λ d sound idle h. h;
        enters = λ d start sound may none h. enters d start sound may h;
        answers = answers;
        opens = λ d run ask view turn_run at is there h. h;
        ends = λ d run turn_run at none h. h;
      }
