-- What a member has made, and told, by the end of a past.
use Rattle.std.specs.Prelude.{ℕ, List, [], ◌++◌, map}
use Rattle.std.specs.Option.{option_to_list}
use Rattle.circus_value.specs.ValueTree.{ValueTree}
use Rattle.circus_value.specs.declared.outcome.Outcome.{Outcome}
use Rattle.circus_collate.specs.declared.view.View.{View}
use Rattle.circus_model.specs.declared.signature.Signature.{Signature}
use Rattle.circus_model.specs.NextTurn.{NextTurn}
use Rattle.circus_member_rules.specs.declared.place.Place.{Place}
use Rattle.circus_member_rules.specs.declared.place.Beginning.{Beginning}
use Rattle.circus_member_rules.specs.declared.occurrence.Difference.{Difference}
use Rattle.circus_member_rules.specs.declared.occurrence.Effect.{Effect}
use Rattle.circus_member_rules.specs.declared.occurrence.Occurrence.{Occurrence}
use Rattle.circus_member_rules.specs.MemberState.{Doing}
use Rattle.circus_member_rules.specs.Step as step
use Rattle.circus_member_theory.specs.Past.{Past, booted, followed}
use Rattle.circus_member_theory.specs.Living.{after}

-- what was made by effects in a step
abbrev pub made_in : ℕ → List Effect → List (ℕ × Effect)
made_in at effects = map (λ (e : Effect). (at, e)) effects

-- what was told in a step
abbrev pub told_in : ℕ → List Difference → List (ℕ × Difference)
told_in at differences = map (λ (d : Difference). (at, d)) differences

module _ {M : Type 0} (declared : M → Signature)
    (turn : M → List ValueTree → ℕ → List ValueTree → List Outcome → NextTurn)
    (first : M → List ValueTree) (place : Place) (views : List View) (beginning : Beginning)
    (hosted : M) where
  -- what it does at boot
  abbrev pub boots : Doing M
  boots = step.boot_member declared turn first place views beginning hosted

  -- what it makes of what comes in a step behind a past
  abbrev pub makes_in : Past → ℕ → Occurrence → List Effect
  makes_in p at o =
      (step.step_member declared turn at o
      (after declared turn first place views beginning hosted p)).effects

  -- all that it has made by then, each with its step
  abbrev pub made_by : Past → List (ℕ × Effect)
  made_by booted = made_in 0 boots.effects
  made_by (followed p at o) = made_by p ++ made_in at (makes_in p at o)

  -- all differences that it has told by then, each with its step
  abbrev pub told_by : Past → List (ℕ × Difference)
  told_by booted = []
  told_by (followed p at o) =
      told_by p
      ++ told_in at
      (option_to_list
      (step.difference o (after declared turn first place views beginning hosted p)))
