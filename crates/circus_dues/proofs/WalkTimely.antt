-- A record is timely where it is in each step, and what it says came in the steps that there were.
use Rattle.std.proofs.Common.{◌≡◌, ℕ, ◌<◌, ◌≤◌, false, List, length, Option, None, Some, refl, sym, ap, subst, ◌∙◌}
use Rattle.std.specs.Prelude.{IsSomeAnd, slice_get}
use Rattle.std.proofs.lemmas.Option.{same_Some}
use Rattle.circus_value.specs.ValueTree.{ValueTree}
use Rattle.circus_header.specs.declared.answer.Reply.{Reply}
use Rattle.circus_collate.specs.declared.view.View.{View}
use Rattle.circus_transfer.specs.declared.joiner.Joiner.{Joiner}
use Rattle.circus_model.specs.declared.signature.ProcedureShape.{ProcedureShape}
use Rattle.circus_record.specs.declared.record.AskRecord.{AskRecord}
use Rattle.circus_record.specs.declared.record.MemberRecord.{MemberRecord}
use Rattle.circus_record.specs.declared.record.RunRecord.{RunRecord}
use Rattle.circus_gather.specs.declared.held.HeldCall.{HeldCall}
use Rattle.circus_performing.specs.Performing.{is_active}
use Rattle.circus_performing.specs.Record.{start_of}
use Rattle.circus_member_rules.specs.declared.place.Place.{Place}
use Rattle.circus_member_rules.specs.declared.occurrence.AskName.{AskName}
use Rattle.circus_member_rules.specs.Step.{start_by_call}
use Rattle.circus_member_theory.specs.First.{first_given}
use Rattle.circus_member_theory.specs.Past.{Past, now, Rises, phase, snapshot_fetched}
use Rattle.circus_member_theory.specs.Timely.{ShowsAnswer, IsMain, may_start, may_answer, name_of, HasCallsLeft, IsStartedInTime, IsAnsweredInTime, IsTimely}
use Rattle.circus_dues.specs.Walk.{Always, IsStepOf, IsLater, StartsInStep, IsAnsweredInStep, IsTimelyStep, IsAnsweredWithin, IsWithin}
use Rattle.circus_dues.proofs.WalkSteps.{always_at, always_of, none_each, none_ever, IsGivenAt, given_each, given_first}
use Rattle.circus_headline_theory.proofs.One.{none_is_some}

module _ (place : Place) (boot : List View) (begins : Joiner) (procedures : List ProcedureShape) (at_boot : ℕ) (kept : MemberRecord) where
  -- ---- a run

  abbrev IsCalled : RunRecord → HeldCall → Type 0
  IsCalled run call = start_of run ≡ start_by_call place.troupe procedures call

  -- it was started in time where it was in a step that there was, and in each step might start as it says
  pub start_each : (p : Past) → Rises p → (number : ℕ) (run : RunRecord) → IsStartedInTime place boot begins procedures at_boot kept p number run
      → IsStepOf run.started p × Always (λ q. StartsInStep place boot begins procedures at_boot kept q number run) p
  start_each p rises number run in_time =
      let e = given_each (may_start place boot begins kept number) run.started (IsCalled run) p rises in_time in (
        e.0,
        always_of (λ q. StartsInStep place boot begins procedures at_boot kept q number run) p
            (λ q was. let g = always_at (IsGivenAt (may_start place boot begins kept number) run.started (IsCalled run)) p q e.1 was in record { starts_now = g.then_given; not_yet = g.before }),
      )

  pub start_first : (p : Past) → Rises p → (number : ℕ) (run : RunRecord) → IsStepOf run.started p
      → Always (λ q. StartsInStep place boot begins procedures at_boot kept q number run) p → IsStartedInTime place boot begins procedures at_boot kept p number run
  start_first p rises number run is all =
      given_first (may_start place boot begins kept number) run.started (IsCalled run) p rises is
      (always_of (IsGivenAt (may_start place boot begins kept number) run.started (IsCalled run)) p
      (λ q was. let s = always_at (λ q. StartsInStep place boot begins procedures at_boot kept q number run) p q all was in record { before = s.not_yet; then_given = s.starts_now }))

  -- ---- an ask

  abbrev IsReplied : AskRecord → Reply → Type 0
  IsReplied ask reply = (ask.reply ≡ Some reply.outcome) × (ask.after ≡ Some reply.clock)

  pub record AnswersEach (p : Past) (name : AskName) (ask : AskRecord) : Type 0 where
    pub within : IsAnsweredWithin p ask
    pub each : Always (λ q. IsAnsweredInStep place boot begins procedures at_boot kept q name ask) p

  pub answer_each : (p : Past) → Rises p → (name : AskName) (ask : AskRecord) → IsAnsweredInTime place boot begins procedures at_boot kept p name ask → AnswersEach p name ask
  answer_each p rises name ask in_time = by_given (first_given (may_answer place boot begins name ask) p) refl in_time
    where
      gives : Past → Option Reply
      gives = may_answer place boot begins name ask

      shown : (q : Past) (n : ℕ) → ask.answered ≡ Some n → n ≡ now q → (o : Option Reply) → IsSomeAnd o (IsReplied ask) → IsSomeAnd o (λ reply. ShowsAnswer ask (Some (now q, reply)))
      shown q n is at None h = absurd h
      shown q n is at (Some reply) h = (is ∙ ap (λ k. Some k) at, h.0, h.1)

      by_given : (o : Option (ℕ × Reply)) → first_given (may_answer place boot begins name ask) p ≡ o → ShowsAnswer ask o → AnswersEach p name ask
      by_given None none shows =
          record {
            within = record { answered = λ step is. absurd (none_is_some ask.answered step shows.0 is); waits = λ is. shows };
            each = always_of (λ q. IsAnsweredInStep place boot begins procedures at_boot kept q name ask) p
                (λ q was.
                record {
                  answered_now = λ is. absurd (none_is_some ask.answered (now q) shows.0 is);
                  not_yet = λ later. always_at (λ r. may_answer place boot begins name ask r ≡ None) p q (none_each (may_answer place boot begins name ask) p none) was;
                });
          }
      by_given (Some given) some shows =
          let e = given_each (may_answer place boot begins name ask) given.0 (IsReplied ask) p rises
          (subst (λ o. IsSomeAnd o (λ (g : ℕ × Reply). (given.0 ≡ g.0) × IsReplied ask g.1)) (sym some) (refl, (shows.1, shows.2))) in
          record {
            within = record {
              answered = λ step is. subst (λ n. IsStepOf n p) (same_Some given.0 step (sym shows.0 ∙ is)) e.0;
              waits = λ is. absurd (none_is_some ask.answered given.0 is shows.0);
            };
            each = always_of (λ q. IsAnsweredInStep place boot begins procedures at_boot kept q name ask) p
                (λ q was.
                let g = always_at (IsGivenAt (may_answer place boot begins name ask) given.0 (IsReplied ask)) p q e.1 was in
                record {
                  answered_now = λ is. let at : given.0 ≡ now q = same_Some given.0 (now q) (sym shows.0 ∙ is) in shown q given.0 shows.0 at (may_answer place boot begins name ask q) (g.then_given at);
                  not_yet = λ later. g.before (subst (IsLater (now q)) shows.0 later);
                });
          }

  pub answer_first : (p : Past) → Rises p → (name : AskName) (ask : AskRecord) → IsAnsweredWithin p ask
      → Always (λ q. IsAnsweredInStep place boot begins procedures at_boot kept q name ask) p → IsAnsweredInTime place boot begins procedures at_boot kept p name ask
  answer_first p rises name ask within all = by_answer ask.answered refl
    where
      replied : (q : Past) (o : Option Reply) → IsSomeAnd o (λ reply. ShowsAnswer ask (Some (now q, reply))) → IsSomeAnd o (IsReplied ask)
      replied q None h = absurd h
      replied q (Some reply) h = (h.1, h.2)

      shown : (n : ℕ) → ask.answered ≡ Some n → (o : Option (ℕ × Reply)) → IsSomeAnd o (λ (g : ℕ × Reply). (n ≡ g.0) × IsReplied ask g.1) → ShowsAnswer ask o
      shown n is None h = absurd h
      shown n is (Some given) h = (is ∙ ap (λ k. Some k) h.0, h.1.0, h.1.1)

      by_answer : (o : Option ℕ) → ask.answered ≡ o → ShowsAnswer ask (first_given (may_answer place boot begins name ask) p)
      by_answer None is =
          subst (ShowsAnswer ask)
          (sym (none_ever (may_answer place boot begins name ask) p
          (always_of (λ r. may_answer place boot begins name ask r ≡ None) p
          (λ q was. (always_at (λ r. IsAnsweredInStep place boot begins procedures at_boot kept r name ask) p q all was).not_yet (subst (IsLater (now q)) (sym is) tt)))))
          (within.waits is)
      by_answer (Some n) is =
          shown n is (first_given (may_answer place boot begins name ask) p)
          (given_first (may_answer place boot begins name ask) n (IsReplied ask) p rises (within.answered n is)
          (always_of (IsGivenAt (may_answer place boot begins name ask) n (IsReplied ask)) p
          (λ q was.
          let s = always_at (λ r. IsAnsweredInStep place boot begins procedures at_boot kept r name ask) p q all was in
          record {
            before = λ below. s.not_yet (subst (IsLater (now q)) (sym is) below);
            then_given = λ at. replied q (may_answer place boot begins name ask q) (s.answered_now (is ∙ ap (λ k. Some k) at));
          })))

  -- ---- the record

  -- what IsTimely says of starts and answers
  pub record IsInTime (p : Past) : Type 0 where
    pub starts : (number : ℕ) (run : RunRecord) → at_boot ≤ number → slice_get kept.runs number ≡ Some run → IsStartedInTime place boot begins procedures at_boot kept p number run
    pub no_more : at_boot ≤ length kept.runs → first_given (may_start place boot begins kept (length kept.runs)) p ≡ None
    pub answers : (number place_of : ℕ) (run : RunRecord) (ask : AskRecord)
        → slice_get kept.runs number ≡ Some run → slice_get run.asks place_of ≡ Some ask
        → HasCallsLeft place boot begins procedures at_boot kept p run place_of → IsAnsweredInTime place boot begins procedures at_boot kept p (name_of place boot begins procedures at_boot kept p number place_of) ask

  pub in_time_of : (p : Past) → IsTimely place boot begins procedures at_boot kept p → IsInTime p
  in_time_of p t = record { starts = t.starts; no_more = t.no_more; answers = t.answers }

  pub steps_in_time : (p : Past) → Rises p → IsInTime p → Always (IsTimelyStep place boot begins procedures at_boot kept) p
  steps_in_time p rises t =
      always_of (IsTimelyStep place boot begins procedures at_boot kept) p
      (λ q was.
      record {
        starts = λ number run enough there. always_at (λ r. StartsInStep place boot begins procedures at_boot kept r number run) p q (start_each p rises number run (t.starts number run enough there)).1 was;
        no_more = λ enough. always_at (λ r. may_start place boot begins kept (length kept.runs) r ≡ None) p q (none_each (may_start place boot begins kept (length kept.runs)) p (t.no_more enough)) was;
        answers = λ number place_of run ask there here left.
            let name = name_of place boot begins procedures at_boot kept p number place_of in
            always_at (λ r. IsAnsweredInStep place boot begins procedures at_boot kept r name ask) p q
            (answer_each p rises name ask (t.answers number place_of run ask there here left)).each was;
      })

  pub within_in_time : (p : Past) → Rises p → IsInTime p → IsWithin place boot begins procedures at_boot kept p
  within_in_time p rises t =
      record {
        starts = λ number run enough there. (start_each p rises number run (t.starts number run enough there)).0;
        answers = λ number place_of run ask there here left.
            (answer_each p rises (name_of place boot begins procedures at_boot kept p number place_of) ask (t.answers number place_of run ask there here left)).within;
      }

  pub in_time_by_steps : (p : Past) → Rises p → Always (IsTimelyStep place boot begins procedures at_boot kept) p → IsWithin place boot begins procedures at_boot kept p → IsInTime p
  in_time_by_steps p rises all within =
      record {
        starts = λ number run enough there.
            start_first p rises number run (within.starts number run enough there)
            (always_of (λ r. StartsInStep place boot begins procedures at_boot kept r number run) p
            (λ q was. (always_at (IsTimelyStep place boot begins procedures at_boot kept) p q all was).starts number run enough there));
        no_more = λ enough.
            none_ever (may_start place boot begins kept (length kept.runs)) p
            (always_of (λ r. may_start place boot begins kept (length kept.runs) r ≡ None) p
            (λ q was. (always_at (IsTimelyStep place boot begins procedures at_boot kept) p q all was).no_more enough));
        answers = λ number place_of run ask there here left.
            let name = name_of place boot begins procedures at_boot kept p number place_of in
            answer_first p rises name ask (within.answers number place_of run ask there here left)
            (always_of (λ r. IsAnsweredInStep place boot begins procedures at_boot kept r name ask) p
            (λ q was. (always_at (IsTimelyStep place boot begins procedures at_boot kept) p q all was).answers number place_of run ask there here left));
      }

  -- with what it says of boot and of the phase
  pub timely_by_steps : (p : Past) → Rises p
      → ((number : ℕ) → number < at_boot → IsSomeAnd (slice_get kept.runs number) (IsMain place.troupe boot))
      → kept.phase ≡ phase begins p
      → (is_active begins ≡ false → (step : ℕ) (state : List ValueTree) (count : ℕ)
      → first_given (snapshot_fetched begins) p ≡ Some (step, (state, count)) → (kept.active_at ≡ step) × (kept.from ≡ count))
      → Always (IsTimelyStep place boot begins procedures at_boot kept) p → IsWithin place boot begins procedures at_boot kept p
      → IsTimely place boot begins procedures at_boot kept p
  timely_by_steps p rises boots phase_is active all within =
      let t = in_time_by_steps p rises all within in
      record { boots = boots; starts = t.starts; no_more = t.no_more; answers = t.answers; phase_is = phase_is; active = active }
