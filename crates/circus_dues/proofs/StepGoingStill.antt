-- Where no run is under way none goes on, and what is not in time stays so.
use Rattle.std.proofs.Common.{◌≡◌, ℕ, ◌-◌, ◌<◌, Bool, true, false, not, ◌&&◌, if◌then◌else◌, [], Option, None, Some, refl, ap, ◌∙◌, arith}
use Rattle.std.specs.Prelude.{slice_get, nat_eq, option_map, option_and_then}
use Rattle.std.specs.Option.{option_map_or}
use Rattle.std.specs.Cmp.Lexicographic.{pointwise}
use Rattle.std.proofs.lemmas.Bool.{le-leb, ne_eqb}
use Rattle.circus_value.specs.OutcomeEquality.{outcome_eq}
use Rattle.circus_header.specs.declared.answer.Reply.{Reply}
use Rattle.circus_record.specs.declared.record.AskRecord.{AskRecord}
use Rattle.circus_record.specs.declared.record.MemberRecord.{MemberRecord}
use Rattle.circus_record.specs.declared.record.RunRecord.{RunRecord}
use Rattle.circus_member_rules.specs.declared.place.Place.{Place}
use Rattle.circus_dues.specs.declared.owing.Owing.{Owing}
use Rattle.circus_dues.specs.declared.walk.Walk.{Walk}
use Rattle.circus_dues.specs.Seen.Owing.{Underway, agrees, untimely, is_idle, given_states, underway, value_of, passed, gone_on_with, made_going_on_with, gone_on, made_going_on}
use Rattle.circus_dues.specs.Seen.Steps.{is_by, shows_answer}
use Rattle.circus_dues.proofs.StepPassing.{pass_untimely}

-- ---- state requests

pub give_timely : (d : Owing) → (given_states d).is_timely ≡ d.is_timely
give_timely d = by_idle (is_idle d)
  where
    by_idle : (b : Bool) → (if b then record d { calls = record d.calls { requests = [] } } else d).is_timely ≡ d.is_timely
    by_idle true = refl
    by_idle false = refl

pub give_walk : (d : Owing) → (given_states d).walk ≡ d.walk
give_walk d = by_idle (is_idle d)
  where
    by_idle : (b : Bool) → (if b then record d { calls = record d.calls { requests = [] } } else d).walk ≡ d.walk
    by_idle true = refl
    by_idle false = refl

pub give_untimely : (d : Owing) → d.is_timely ≡ false → (given_states d).is_timely ≡ false
give_untimely d late = give_timely d ∙ late

-- ---- the run that is under way

abbrev pub under : RunRecord → ℕ → AskRecord → Underway
under run count ask = record { run = run; asked = count; ask = ask }

-- by the walk, the record and the run
pub underway_at : (kept : MemberRecord) (d : Owing) (number : ℕ) (run : RunRecord) (count : ℕ) (ask : AskRecord)
    → slice_get kept.runs number ≡ Some run → d.walk ≡ record { ended = number; asked = Some count } → slice_get run.asks (count - 1) ≡ Some ask
    → underway kept d ≡ Some (under run count ask)
underway_at kept d number run count ask there walk here =
    ap (λ (w : Walk). option_and_then (λ (r : RunRecord). option_and_then (λ (c : ℕ). option_map (λ (a : AskRecord). under r c a) (slice_get r.asks (c - 1))) w.asked) (slice_get kept.runs w.ended)) walk
    ∙ ap (option_and_then (λ (r : RunRecord). option_map (λ (a : AskRecord). under r count a) (slice_get r.asks (count - 1)))) there
    ∙ ap (option_map (λ (a : AskRecord). under run count a)) here

module _ (place : Place) (kept : MemberRecord) (at : ℕ) where
  none_underway : (d : Owing) → d.walk.asked ≡ None → underway kept d ≡ None
  none_underway d none = by_run (slice_get kept.runs d.walk.ended)
    where
      by_run : (x : Option RunRecord) → option_and_then (λ (r : RunRecord). option_and_then (λ (c : ℕ). option_map (λ (a : AskRecord). under r c a) (slice_get r.asks (c - 1))) d.walk.asked) x ≡ None
      by_run None = refl
      by_run (Some r) = ap (option_and_then (λ (c : ℕ). option_map (λ (a : AskRecord). under r c a) (slice_get r.asks (c - 1)))) none

  pub goes_none : (d : Owing) → d.walk.asked ≡ None → (gone_on place kept at d ≡ d) × (made_going_on place kept at d ≡ [])
  goes_none d none = (ap (λ u. option_map_or (gone_on_with place kept at d) u d) (none_underway d none), ap (λ u. option_map_or (made_going_on_with place kept at d) u []) (none_underway d none))

  pub go_untimely : (d : Owing) → d.is_timely ≡ false → (gone_on place kept at d).is_timely ≡ false
  go_untimely d late = by_run (underway kept d)
    where
      by_given : (u : Underway) (x : Option Reply) (b : Bool) → (if b then option_map_or (λ _. passed place kept at d u.run u.asked) x d else untimely d).is_timely ≡ false
      by_given u x false = refl
      by_given u None true = late
      by_given u (Some reply) true = pass_untimely place kept at d u.run u.asked late

      by_run : (x : Option Underway) → (option_map_or (gone_on_with place kept at d) x d).is_timely ≡ false
      by_run None = late
      by_run (Some u) = by_given u (value_of kept d (u.asked - 1)) (agrees at u.ask (value_of kept d (u.asked - 1)))

  -- its ask was answered in an earlier step
  pub answered_between : (number count : ℕ) (run : RunRecord) (ask : AskRecord) (n : ℕ) (d : Owing) → slice_get kept.runs number ≡ Some run → d.walk ≡ record { ended = number; asked = Some count }
      → slice_get run.asks (count - 1) ≡ Some ask → ask.answered ≡ Some n → n < at → (gone_on place kept at d).is_timely ≡ false
  answered_between number count run ask n d there walk here answered low =
      ap (λ u. (option_map_or (gone_on_with place kept at d) u d).is_timely) (underway_at kept d number run count ask there walk here)
      ∙ by_given (value_of kept d (count - 1))
    where
      by : not (is_by ask.answered at) ≡ false
      by = ap (λ x. not (is_by x at)) answered ∙ ap not (le-leb n at (omega (arith, low)))

      another : (reply : Reply) → shows_answer ask at reply ≡ false
      another reply =
          let same : Bool = option_map_or (λ r. outcome_eq r reply.outcome) ask.reply false && option_map_or (λ c. pointwise nat_eq c reply.clock) ask.after false in
          ap (λ x. option_map_or (λ k. nat_eq k at) x false && same) answered
          ∙ ap (λ b. b && same) (ne_eqb n at (λ is. absurd (omega (arith, is, low))))

      by_given : (x : Option Reply) → (if agrees at ask x then option_map_or (λ _. passed place kept at d run count) x d else untimely d).is_timely ≡ false
      by_given None = ap (λ b. (if b then d else untimely d).is_timely) by
      by_given (Some reply) = ap (λ b. (if b then passed place kept at d run count else untimely d).is_timely) (another reply)
