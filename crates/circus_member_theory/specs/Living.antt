-- A member as it is behind a past, and which pasts it lives.
use Rattle.std.specs.Prelude.{ℕ, ◌<◌, if◌then◌else◌, List}
use Rattle.circus_value.specs.ValueTree.{ValueTree}
use Rattle.circus_value.specs.declared.outcome.Outcome.{Outcome}
use Rattle.circus_collate.specs.declared.view.View.{View}
use Rattle.circus_transfer.specs.declared.joiner.Joiner.{Joiner}
use Rattle.circus_transfer.specs.declared.joiner.Joiner.TheVariants.{Outside, Active}
use Rattle.circus_model.specs.declared.signature.Signature.{Signature}
use Rattle.circus_model.specs.NextTurn.{NextTurn}
use Rattle.circus_record.specs.declared.record.MemberRecord.{MemberRecord}
use Rattle.circus_member_rules.specs.declared.place.Place.{Place}
use Rattle.circus_member_rules.specs.declared.place.Beginning.{Beginning}
use Rattle.circus_member_rules.specs.declared.place.Beginning.TheVariants.{Founder, Spare}
use Rattle.circus_member_rules.specs.MemberState.{MemberState}
use Rattle.circus_member_rules.specs.Step as step
use Rattle.circus_member_rules.specs.Happening.{IsHome, CanHappen}
use Rattle.circus_member_theory.specs.Ranges.{InRange}
use Rattle.circus_member_theory.specs.Past.{Past, booted, followed, now}

-- the phase at boot
abbrev pub phase_at_boot : Beginning → Joiner
phase_at_boot Founder = Active 0
phase_at_boot Spare = Outside

-- how many runs are entered at boot: the MAIN of a root's founder
abbrev pub runs_at_boot : {M : Type 0} → (M → Signature) → Beginning → M → ℕ
runs_at_boot declared Founder hosted = if (declared hosted).root then 1 else 0
runs_at_boot declared Spare hosted = 0

module _ {M : Type 0} (declared : M → Signature)
    (turn : M → List ValueTree → ℕ → List ValueTree → List Outcome → NextTurn) where
  module _ (first : M → List ValueTree) (place : Place) (views : List View)
      (beginning : Beginning) (hosted : M) where
    -- the member behind what happened to it
    abbrev pub after : Past → MemberState M
    after booted = (step.boot_member declared turn first place views beginning hosted).member
    after (followed p at o) = (step.step_member declared turn at o (after p)).member

    -- its record then
    abbrev pub kept_after : Past → MemberRecord
    kept_after p = (after p).performing.kept

    -- each occurrence can happen to the member as it was then, and comes in a later step
    abbrev pub MayLive : Past → Type 0
    MayLive booted = Unit {0}
    MayLive (followed p at o) =
        MayLive p × (now p < at) × CanHappen (declared hosted) (after p) o × InRange o

    -- a member of a troupe of the program lives this
    pub record HasLived (p : Past) : Type 0 where
      pub home : IsHome (declared hosted) place views
      pub may : MayLive p
