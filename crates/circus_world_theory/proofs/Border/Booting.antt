-- What holds of a member before anything has happened holds of it at boot.
use Rattle.std.proofs.Common.{◌≡◌, ℕ, Bool, true, false, if◌then◌else◌, List, refl}
use Rattle.circus_value.specs.ValueTree.{ValueTree}
use Rattle.circus_value.specs.declared.outcome.Outcome.{Outcome}
use Rattle.circus_collate.specs.declared.view.View.{View}
use Rattle.circus_model.specs.declared.signature.Signature.{Signature}
use Rattle.circus_model.specs.NextTurn.{NextTurn}
use Rattle.circus_model.specs.Behaviour.{IsModule}
use Rattle.circus_performing.specs.declared.start.RunStart.{RunStart}
use Rattle.circus_performing.specs.Record.{behaviour}
use Rattle.circus_member_rules.specs.declared.place.Place.{Place}
use Rattle.circus_member_rules.specs.declared.place.Beginning.{Beginning}
use Rattle.circus_member_rules.specs.Happening.{IsHome}
use Rattle.circus_member_rules.specs.MemberState.{MemberState, Doing}
use Rattle.circus_member_rules.specs.Step.{main_start, enter_run_of, starts_at_boot, boot_member}
use Rattle.circus_member_rules.proofs.Starting.{IsSoundNow, sound_entered}
use Rattle.circus_member_theory.proofs.Resting.{at_boot, sound_at_boot, may_begin}
use Rattle.circus_world_theory.proofs.Border.Going.{begun, Keeps, entered_keeps}

module _ {M : Type 0} (declared : M → Signature) (turn : M → List ValueTree → ℕ → List ValueTree → List Outcome → NextTurn) (first : M → List ValueTree)
    (lawful : (hosted : M) → IsModule (behaviour declared turn first hosted)) (place : Place) (views : List View) (hosted : M) (home : IsHome (declared hosted) place views) where
  -- a member before anything has happened
  abbrev pub before_all : Beginning → MemberState M
  before_all beginning = at_boot declared turn first lawful place views hosted home beginning

  -- it is sound
  before_sound : (beginning : Beginning) → IsSoundNow declared turn first lawful (before_all beginning)
  before_sound beginning = sound_at_boot declared turn first lawful place views hosted home beginning

  -- the run of a root's MAIN
  abbrev first_run : RunStart
  first_run = main_start place.troupe views

  pub booted_keeps : (I : Doing M → Type 0) → Keeps declared turn first lawful 0 I → (beginning : Beginning) → I (begun (before_all beginning))
      → I (boot_member declared turn first place views beginning hosted)
  booted_keeps I keeps beginning holds = by_test (starts_at_boot declared turn beginning hosted) refl
    where
      by_test : (t : Bool) → starts_at_boot declared turn beginning hosted ≡ t
          → I (if t then enter_run_of turn 0 (begun (before_all beginning)) first_run else begun (before_all beginning))
      by_test false is = holds
      by_test true is =
          entered_keeps declared turn first lawful 0 I keeps (begun (before_all beginning)) first_run (before_sound beginning)
          (may_begin declared turn first lawful place views hosted home beginning is) holds

  -- so it is sound then
  pub booted_sound : (beginning : Beginning) → IsSoundNow declared turn first lawful (boot_member declared turn first place views beginning hosted).member
  booted_sound beginning = by_test (starts_at_boot declared turn beginning hosted) refl
    where
      by_test : (t : Bool) → starts_at_boot declared turn beginning hosted ≡ t → let d : Doing M =
          if t then enter_run_of turn 0 (begun (before_all beginning)) first_run else begun (before_all beginning) in IsSoundNow declared turn first lawful d.member
      by_test false is = before_sound beginning
      by_test true is =
          sound_entered declared turn first lawful 0 (begun (before_all beginning)) first_run (before_sound beginning) (may_begin declared turn first lawful place views hosted home beginning is)
