-- The record of a member is timely behind every past that it may live.
use Rattle.std.proofs.Common.{◌≡◌, ℕ, ◌+◌, ◌<◌, ◌≤◌, ◌&&◌, nat_le, Bool, true, false, if◌then◌else◌, List, [], length, Option, None, Some, refl, ap, sym, subst, ◌∙◌, arith}
use Rattle.std.specs.Prelude.{slice_get, option_and_then}
use Rattle.circus_value.specs.ValueTree.{ValueTree}
use Rattle.circus_value.specs.declared.outcome.Outcome.{Outcome}
use Rattle.circus_header.specs.ReplyEquality.{reply_eq}
use Rattle.circus_collate.specs.declared.view.View.{View}
use Rattle.circus_collate.specs.Expecting.{expected_nodes}
use Rattle.circus_collate.specs.Collating.{answer as collated_answer, dispute, collate}
use Rattle.circus_transfer.specs.declared.joiner.Joiner.{Joiner}
use Rattle.circus_model.specs.declared.signature.Signature.{Signature}
use Rattle.circus_model.specs.NextTurn.{NextTurn}
use Rattle.circus_model.specs.Behaviour.{Behaviour, IsModule}
use Rattle.circus_record.specs.declared.record.AskRecord.{AskRecord}
use Rattle.circus_record.specs.declared.record.RunRecord.{RunRecord}
use Rattle.circus_gather.specs.declared.held.HeldCall.{HeldCall}
use Rattle.circus_gather.specs.Gathering.{is_same_call, expected_callers, given_call}
use Rattle.circus_performing.specs.Performing.{Performing, is_active, last_count}
use Rattle.circus_performing.specs.Performing as performing
use Rattle.circus_performing.specs.Record.{behaviour}
use Rattle.circus_performing.proofs.Records.{none_is_some}
use Rattle.circus_member_rules.specs.declared.place.Place.{Place}
use Rattle.circus_member_rules.specs.declared.place.Beginning.{Beginning}
use Rattle.circus_member_rules.specs.declared.place.Beginning.TheVariants.{Founder, Spare}
use Rattle.circus_member_rules.specs.declared.occurrence.AskName.{AskName}
use Rattle.circus_member_rules.specs.declared.occurrence.Occurrence.{Occurrence}
use Rattle.circus_member_rules.specs.MemberState.{MemberState, Doing}
use Rattle.circus_member_rules.specs.Step.{before_any, main_start, handle, enter_run_of, execute, step_member, starts_at_boot}
use Rattle.circus_member_rules.specs.Happening.{IsHome, CanHappen}
use Rattle.circus_member_rules.specs.Seen.Sound.{IsRested}
use Rattle.circus_member_rules.proofs.Enough.{none_given}
use Rattle.circus_member_theory.specs.Ranges.{InRange}
use Rattle.circus_member_theory.proofs.Resting.{sound_once_handled, step_rests, boot_rests, at_boot, sound_at_boot, may_begin}
use Rattle.circus_member_theory.specs.Past.{Past, booted, followed, now, Rises, snapshot_fetched}
use Rattle.circus_member_theory.specs.Timely.{given_value, collated_call, collated_reply, is_free_for, may_answer, IsTimely}
use Rattle.circus_member_theory.specs.Living.{phase_at_boot, runs_at_boot, after, MayLive}
use Rattle.circus_member_theory.proofs.Timely.Firsts.{first_is}
use Rattle.circus_member_theory.proofs.Timely.Known.{ActiveSo}
use Rattle.circus_member_theory.proofs.Timely.Runs.{may_by, kept_of, named}
use Rattle.circus_member_theory.proofs.Timely.Going.{goes_entered, goes_executed}
use Rattle.circus_member_theory.proofs.Timely.Rests.{GoesBy, IsAtRest, timely_at_rest, rest_by_going, goes_closed, goes_handled}

-- ---- nothing is given where nothing has come

module _ (place : Place) (boot : List View) (begins : Joiner) where
  no_call : (index : ℕ) → collated_call place boot begins index booted ≡ None
  unfolding given_call
  no_call index = rw (none_given is_same_call (expected_callers boot) place.calls []) refl

  none_may_yet : (from : ℕ) (runs : List RunRecord) (number : ℕ) → may_by place boot begins from runs number booted ≡ None
  none_may_yet from runs number =
      rw (no_call (from + number)) (neither (is_active begins && is_free_for place boot begins (kept_of from runs) number booted && nat_le (from + number) last_count))
    where
      neither : (t : Bool) → ◌≡◌ {A = Option HeldCall} (if t then None else None) None
      neither true = refl
      neither false = refl

  no_reply : (name : AskName) (ask : AskRecord) → may_answer place boot begins name ask booted ≡ None
  no_reply name ask = by_test (nat_le ask.asked 0)
    where
      by_answer : (other : Option ℕ) → given_value [] (collated_answer None other) ≡ None
      by_answer None = refl
      by_answer (Some at) = refl

      by_view : (o : Option View) → option_and_then (λ (view : View). given_value [] (collate reply_eq (expected_nodes view ask.index) [] [] place.replies)) o ≡ None
      by_view None = refl
      by_view (Some view) =
          let nodes = expected_nodes view ask.index in
          ap (λ o. given_value [] (collated_answer o (dispute reply_eq nodes [] [] place.replies))) (none_given reply_eq (λ _. nodes) place.replies []) ∙ by_answer
          (dispute reply_eq nodes [] [] place.replies)

      by_test : (t : Bool) → (if t then collated_reply place boot begins name ask booted else None) ≡ None
      by_test true = by_view (slice_get boot ask.callee)
      by_test false = refl

module _ {M : Type 0} (declared : M → Signature) (turn : M → List ValueTree → ℕ → List ValueTree → List Outcome → NextTurn) (first : M → List ValueTree)
    (lawful : (hosted : M) → IsModule (behaviour declared turn first hosted)) (place : Place) (views : List View) (hosted : M) (home : IsHome (declared hosted) place views) where
  abbrev now_of : M → Behaviour
  now_of h = behaviour declared turn first h

  -- what is known of the member behind a past
  pub record LivesSo (beginning : Beginning) (p : Past) (m : MemberState M) : Type 0 where
    pub rises : Rises p
    pub rested : IsRested (now_of m.performing.hosted) m
    pub rest : IsAtRest declared turn first lawful place views (phase_at_boot beginning) hosted (runs_at_boot declared beginning hosted) p m

  -- ---- boot

  abbrev Begins : Beginning → MemberState M → Type 0
  Begins beginning m = GoesBy declared turn first lawful place views (phase_at_boot beginning) hosted (runs_at_boot declared beginning hosted) booted m

  -- one that has performed nothing
  goes_none : (phase : Joiner) (many : ℕ) → many ≤ 0 → let performer : Performing M = record { hosted = hosted; began = first hosted; kept = performing.before_any phase (first hosted) } in
      GoesBy declared turn first lawful place views phase hosted many booted (before_any declared turn place views performer)
  goes_none phase many none =
      record {
        well = record {
          place_is = refl;
          hosted_is = refl;
          views_are = refl;
          gone_are = refl;
          holds = record { least = refl; left = record { same = λ index required from fresh later. refl } };
          from_is = refl;
          unreplied = λ index below. refl;
          way = record {
            phase_is = refl;
            outside = λ _. refl;
            active = subst (ActiveSo (performing.before_any phase (first hosted))) (sym (first_is (snapshot_fetched phase) booted)) tt;
            few = omega arith;
          };
          enough = none;
          runs = λ number run there. absurd (none_is_some there);
          next = refl;
          few = omega arith;
          ended = λ none run last. absurd (none_is_some last);
        };
        replied = λ none run last. absurd (none_is_some last);
        waiting = tt;
      }

  goes_before : (beginning : Beginning) → starts_at_boot declared turn beginning hosted ≡ false → Begins beginning (at_boot declared turn first lawful place views hosted home beginning)
  goes_before Founder is = goes_none (phase_at_boot Founder) (runs_at_boot declared Founder hosted) (rw is (omega arith))
  goes_before Spare is = goes_none (phase_at_boot Spare) 0 (omega arith)

  goes_main : (beginning : Beginning) → starts_at_boot declared turn beginning hosted ≡ true → let d : Doing M =
      record { member = at_boot declared turn first lawful place views hosted home beginning; effects = [] } in
      let e = enter_run_of turn 0 d (main_start place.troupe views) in Begins beginning e.member
  goes_main Founder is =
      let d : Doing M = record { member = at_boot declared turn first lawful place views hosted home Founder; effects = [] } in
      let many : runs_at_boot declared Founder hosted ≡ 1 = rw is refl in
      goes_entered declared turn first lawful place views (phase_at_boot Founder) hosted (runs_at_boot declared Founder hosted) booted tt d (main_start place.troupe views) 0
      (sound_at_boot declared turn first lawful place views hosted home Founder) (may_begin declared turn first lawful place views hosted home Founder is)
      (goes_none (phase_at_boot Founder) 0 (omega arith)) (λ number run there. absurd (none_is_some there)) (omega (arith, many)) (λ _. (refl, refl))
      (λ below. absurd (omega (arith, many, below))) (omega arith)
  goes_main Spare is = cc

  goes_at_boot : (beginning : Beginning) → Begins beginning (after declared turn first place views beginning hosted booted)
  goes_at_boot beginning = by_test (starts_at_boot declared turn beginning hosted) refl
    where
      by_test : (t : Bool) → starts_at_boot declared turn beginning hosted ≡ t → let d : Doing M =
          record { member = at_boot declared turn first lawful place views hosted home beginning; effects = [] } in
          let e = if t then enter_run_of turn 0 d (main_start place.troupe views) else d in Begins beginning e.member
      by_test false is = goes_before beginning is
      by_test true is = goes_main beginning is

  lived_at_boot : (beginning : Beginning) → LivesSo beginning booted (after declared turn first place views beginning hosted booted)
  lived_at_boot beginning =
      let m = after declared turn first place views beginning hosted booted in
      let b = boot_rests declared turn first lawful place views beginning hosted home in
      record {
        rises = tt;
        rested = subst (λ x. IsRested (now_of x) m) (sym b.hosted) b.rested;
        rest = record {
          goes = goes_at_boot beginning;
          no_more = none_may_yet place views (phase_at_boot beginning) m.performing.kept.from m.performing.kept.runs (length m.performing.kept.runs);
          no_answer = λ number n run ask there at waits. no_reply place views (phase_at_boot beginning) (named m.performing.kept.from number n) ask;
        };
      }

  -- ---- a step

  lived_step : (beginning : Beginning) (p : Past) (m : MemberState M) (at : ℕ) (o : Occurrence) → LivesSo beginning p m → now p < at → CanHappen (declared hosted) m o → InRange o
      → LivesSo beginning (followed p at o) (step_member declared turn at o m).member
  lived_step beginning p m at o h later can within =
      let begins = phase_at_boot beginning in
      let many = runs_at_boot declared beginning hosted in
      let may : CanHappen (declared m.performing.hosted) m o = subst (λ x. CanHappen (declared x) m o) (sym h.rest.goes.well.hosted_is) can in
      let q = followed p at o in
      let rises : Rises q = (h.rises, later) in
      let sound = h.rested.sound in
      let n = (step_member declared turn at o m).member in
      let s = step_rests declared turn first lawful at o m h.rested may within in
      let d = handle at o m in
      let goes = goes_handled declared turn first lawful place views begins hosted many p at o m rises sound h.rest within in
      let went = goes_executed declared turn first lawful place views begins hosted many q rises d (sound_once_handled declared turn first lawful at o m sound may within) goes in
      let ended = goes_closed declared turn first lawful place views begins hosted many q (execute declared turn at d) went in
      let rested : IsRested (now_of n.performing.hosted) n = subst (λ x. IsRested (now_of x) n) (sym s.hosted) s.rested in
      record { rises = rises; rested = rested; rest = rest_by_going declared turn first lawful place views begins hosted many q rises n rested.sound ended s.gone_on }

  pub lived : (beginning : Beginning) (p : Past) → MayLive declared turn first place views beginning hosted p
      → LivesSo beginning p (after declared turn first place views beginning hosted p)
  lived beginning booted may = lived_at_boot beginning
  lived beginning (followed p at o) may = lived_step beginning p (after declared turn first place views beginning hosted p) at o (lived beginning p may.0) may.1 may.2
      may.3

  -- nothing came late or early
  pub timely : (beginning : Beginning) (p : Past) → MayLive declared turn first place views beginning hosted p
      → IsTimely place views (phase_at_boot beginning) (declared hosted).procedures (runs_at_boot declared beginning hosted)
      (after declared turn first place views beginning hosted p).performing.kept p
  timely beginning p may =
      timely_at_rest declared turn first lawful place views (phase_at_boot beginning) hosted (runs_at_boot declared beginning hosted) p
      (after declared turn first place views beginning hosted p)
      (lived beginning p may).rest
