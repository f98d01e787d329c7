-- A member at boot is at rest, and has gone on as far as it can.
use Rattle.std.proofs.Common.{◌≡◌, ℕ, ◌<◌, Bool, true, false, List, [], length, refl, arith}
use Rattle.std.specs.List.{IsDistinct}
use Rattle.std.proofs.lemmas.List.{length-map}
use Rattle.std.proofs.lemmas.List.Elements.{All-nil, All-weaker}
use Rattle.circus_value.specs.ValueTree.{ValueTree}
use Rattle.circus_value.specs.declared.outcome.Outcome.{Outcome}
use Rattle.circus_header.specs.declared.answer.Reply.{Reply}
use Rattle.circus_collate.specs.declared.view.View.{View}
use Rattle.circus_transfer.specs.declared.joiner.Joiner.{Joiner}
use Rattle.circus_model.specs.declared.signature.Signature.{Signature}
use Rattle.circus_model.specs.NextTurn.{NextTurn}
use Rattle.circus_model.specs.Behaviour.{IsModule}
use Rattle.circus_fanout.specs.Asking.{Asking}
use Rattle.circus_performing.specs.Performing.{Performing}
use Rattle.circus_performing.specs.Performing as performing
use Rattle.circus_performing.specs.Acts.{as_founder, as_spare}
use Rattle.circus_performing.specs.Record.{behaviour, IsRecord}
use Rattle.circus_performing.proofs.Records.{acts_keep}
use Rattle.circus_gather.specs.Gathering as gathering
use Rattle.circus_member_rules.specs.declared.place.Place.{Place}
use Rattle.circus_member_rules.specs.declared.place.Beginning.{Beginning}
use Rattle.circus_member_rules.specs.declared.place.Beginning.TheVariants.{Founder, Spare}
use Rattle.circus_member_rules.specs.declared.occurrence.AskName.{AskName}
use Rattle.circus_member_rules.specs.MemberState.{MemberState, Doing}
use Rattle.circus_member_rules.specs.Callable.{IsReply}
use Rattle.circus_member_rules.specs.Rules.{is_settled, stays_open}
use Rattle.circus_member_rules.specs.Step.{waits, performer_at_boot, enter_run_of, main_start, before_any, starts_at_boot}
use Rattle.circus_member_rules.specs.Happening.{IsHome}
use Rattle.circus_member_rules.specs.GoneOn.{HasGoneOn}
use Rattle.circus_member_rules.specs.Seen.Sound.{IsHeld, IsOpenAsk, AreNamed, IsSound, MayStart, IsRested}
use Rattle.circus_member_rules.proofs.Starting.{sound_entered}
use Rattle.circus_member_rules.proofs.Done.{none_held, entered_done}
use Rattle.circus_member_rules.proofs.Unsettled.{entered_left}

none_named : AreNamed []
unfolding IsDistinct
none_named = tt

module _ {M : Type 0} (declared : M → Signature) (turn : M → List ValueTree → ℕ → List ValueTree → List Outcome → NextTurn) (first : M → List ValueTree) (lawful : (hosted : M) → IsModule (behaviour declared turn first hosted)) (place : Place) (views : List View) (hosted : M) (home : IsHome (declared hosted) place views) where
  -- one that has performed nothing is sound
  sound_before : (phase : Joiner) → IsRecord (behaviour declared turn first hosted) (first hosted) (performing.before_any phase (first hosted)) → let p : Performing M = record { hosted = hosted; began = first hosted; kept = performing.before_any phase (first hosted) } in IsSound (behaviour declared turn first hosted) (before_any declared turn place views p)
  sound_before phase kept =
      record {
        home = home;
        own = refl;
        held = All-nil (IsHeld (declared hosted) place.troupe (length views) (gathering.before_any place.troupe 0));
        replies = All-nil (λ (r : ℕ × Reply). IsReply r.1);
        asks = All-nil (λ (e : AskName × Asking). IsOpenAsk (declared hosted) place.troupe (length views) e.1);
        names = none_named;
        run = tt;
        running = tt;
        kept = kept;
      }

  abbrev pub at_boot : Beginning → MemberState M
  at_boot beginning = before_any declared turn place views (performer_at_boot first beginning hosted)

  pub sound_at_boot : (beginning : Beginning) → IsSound (behaviour declared turn first (at_boot beginning).performing.hosted) (at_boot beginning)
  sound_at_boot Founder = sound_before (performing.founder hosted (first hosted)).kept.phase (acts_keep (behaviour declared turn first hosted) as_founder (lawful hosted) tt)
  sound_at_boot Spare = sound_before (performing.spare hosted (first hosted)).kept.phase (acts_keep (behaviour declared turn first hosted) as_spare (lawful hosted) tt)

  -- a founder of a root may enter its MAIN
  pub may_begin : (beginning : Beginning) → starts_at_boot declared turn beginning hosted ≡ true → MayStart (declared (at_boot beginning).performing.hosted) (at_boot beginning) (main_start place.troupe views)
  may_begin Founder is =
      record {
        can = record { active = refl; idle = refl; fit = home.main is; within = omega arith };
        thread = record { begins = home.own; numbers = All-nil (λ n. n < 65535); short = omega (arith, home.own); counts = length-map views (λ (v : View). 0) };
        fresh = refl;
      }
  may_begin Spare is = cc

  pub rested_before : (beginning : Beginning) → IsRested (behaviour declared turn first (at_boot beginning).performing.hosted) (at_boot beginning)
  rested_before beginning =
      record {
        sound = sound_at_boot beginning;
        closed = All-nil (λ (e : AskName × Asking). stays_open (at_boot beginning).known (waits (at_boot beginning).performing.kept) e ≡ true);
      }

  pub rested_entered : (beginning : Beginning) → starts_at_boot declared turn beginning hosted ≡ true → let d : Doing M = record { member = at_boot beginning; effects = [] } in let e = enter_run_of turn 0 d (main_start place.troupe views) in IsRested (behaviour declared turn first e.member.performing.hosted) e.member
  rested_entered beginning is =
      let d : Doing M = record { member = at_boot beginning; effects = [] } in
      let start = main_start place.troupe views in
      let e = enter_run_of turn 0 d start in
      let none : AskName → Bool = λ _. false in
      let left = entered_left none declared turn 0 d start (All-nil (λ (x : AskName × Asking). none x.0 ≡ false → is_settled (at_boot beginning).known x.1 ≡ false)) in
      record {
        sound = sound_entered declared turn first lawful 0 d start (sound_at_boot beginning) (may_begin beginning is);
        closed = All-weaker (λ (x : AskName × Asking). false ≡ false → stays_open e.member.known (waits e.member.performing.kept) x ≡ true) (λ (x : AskName × Asking). stays_open e.member.known (waits e.member.performing.kept) x ≡ true) (λ x h. h refl) e.member.asks left.stay;
      }

  pub gone_before : (beginning : Beginning) → HasGoneOn (at_boot beginning)
  gone_before Founder = record { no_value = refl; none_starts = none_held (at_boot Founder) refl }
  gone_before Spare = record { no_value = refl; none_starts = none_held (at_boot Spare) refl }

  pub gone_entered : (beginning : Beginning) → starts_at_boot declared turn beginning hosted ≡ true → let d : Doing M = record { member = at_boot beginning; effects = [] } in HasGoneOn (enter_run_of turn 0 d (main_start place.troupe views)).member
  gone_entered beginning is =
      let d : Doing M = record { member = at_boot beginning; effects = [] } in
      entered_done declared turn first lawful 0 d (main_start place.troupe views) (sound_at_boot beginning) (may_begin beginning is) refl
