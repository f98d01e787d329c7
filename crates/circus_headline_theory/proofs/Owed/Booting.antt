-- What holds of a member before anything has happened holds of it at boot.
use Rattle.std.proofs.Common.{◌≡◌, Bool, true, false, if◌then◌else◌, ℕ, List, refl, sym, subst}
use Rattle.circus_value.specs.ValueTree.{ValueTree}
use Rattle.circus_value.specs.declared.outcome.Outcome.{Outcome}
use Rattle.circus_collate.specs.declared.view.View.{View}
use Rattle.circus_model.specs.declared.signature.Signature.{Signature}
use Rattle.circus_model.specs.NextTurn.{NextTurn}
use Rattle.circus_model.specs.Behaviour.{IsModule}
use Rattle.circus_performing.specs.Record.{behaviour}
use Rattle.circus_member_rules.specs.declared.place.Place.{Place}
use Rattle.circus_member_rules.specs.declared.place.Beginning.{Beginning}
use Rattle.circus_member_rules.specs.Happening.{IsHome}
use Rattle.circus_member_rules.specs.MemberState.{Doing}
use Rattle.circus_member_rules.specs.Seen.Sound.{IsSound}
use Rattle.circus_member_rules.specs.Step.{main_start, enter_run_of, starts_at_boot, boot_member}
use Rattle.circus_member_rules.proofs.Starting.{IsSoundNow}
use Rattle.circus_member_theory.proofs.Resting.{at_boot, sound_at_boot, may_begin, boot_rests}
use Rattle.circus_world_theory.proofs.Border.Going.{begun}
use Rattle.circus_headline_theory.proofs.Owed.Going.{Keeps, entered_keeps}

module _ {M : Type 0} (declared : M → Signature) (turn : M → List ValueTree → ℕ → List ValueTree → List Outcome → NextTurn) (first : M → List ValueTree) (lawful : (hosted : M) → IsModule (behaviour declared turn first hosted)) (place : Place) (views : List View) (hosted : M) (home : IsHome (declared hosted) place views) where
  pub booted_keeps : (I T : Doing M → Type 0) → Keeps declared turn first lawful 0 I T → (beginning : Beginning) → I (begun (at_boot declared turn first lawful place views hosted home beginning)) → I (boot_member declared turn first place views beginning hosted)
  booted_keeps I T keeps beginning holds = by_test (starts_at_boot declared turn beginning hosted) refl
    where
      by_test : (t : Bool) → starts_at_boot declared turn beginning hosted ≡ t
          → let d : Doing M = begun (at_boot declared turn first lawful place views hosted home beginning) in I (if t then enter_run_of turn 0 d (main_start place.troupe views) else d)
      by_test false is = holds
      by_test true is =
          entered_keeps declared turn first lawful 0 I T keeps (begun (at_boot declared turn first lawful place views hosted home beginning)) (main_start place.troupe views)
          (sound_at_boot declared turn first lawful place views hosted home beginning) (may_begin declared turn first lawful place views hosted home beginning is) refl holds

  -- at boot the member is sound
  pub sound_booted : (beginning : Beginning) → IsSoundNow declared turn first lawful (boot_member declared turn first place views beginning hosted).member
  sound_booted beginning =
      let m = (boot_member declared turn first place views beginning hosted).member in
      let b = boot_rests declared turn first lawful place views beginning hosted home in
      subst (λ x. IsSound (behaviour declared turn first x) m) (sym b.hosted) b.rested.sound
