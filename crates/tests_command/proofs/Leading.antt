-- Where lines lead that are stepped one by one behind a boot.
use Rattle.std.proofs.Common.{◌≡◌, List, [], ◌∷◌, ◌++◌, ℕ, length, Ok, refl, subst}
use Rattle.circus_value.specs.ValueTree.{ValueTree}
use Rattle.circus_value.specs.declared.outcome.Outcome.{Outcome}
use Rattle.circus_collate.specs.declared.deployment.Deployment.{Deployment}
use Rattle.circus_model.specs.NextTurn.{NextTurn}
use Rattle.circus_model.specs.declared.signature.Signature.{Signature}
use Rattle.circus_schedule.specs.declared.line.Line.{Line}
use Rattle.circus_world.specs.WorldState.{WorldState}
use Rattle.circus_world.specs.Answers.{IsBooted}
use Rattle.circus_world.specs.Lines.{Leads, Lead}
use Rattle.circus_world.proofs.LineLemmas.{steps_counted}

module _ {M : Type 0} (declared : M → Signature) (turn : M → List ValueTree → ℕ → List ValueTree → List Outcome → NextTurn) where
  pub one_more : (lines : List Line) (line : Line) (w before last : WorldState M) → Lead declared turn lines w before → Leads declared turn line before last
      → Lead declared turn (lines ++ line ∷ []) w last
  one_more [] line w before last lead leads = (last, subst (λ (v : WorldState M). Leads declared turn line v last) lead leads, refl)
  one_more (first ∷ lines) line w before last lead leads = (lead.0, lead.1, one_more lines line lead.0 before last lead.2 leads)

module _ {M : Type 0} (declared : M → Signature) (turn : M → List ValueTree → ℕ → List ValueTree → List Outcome → NextTurn) (first : M → List ValueTree) where
  pub steps_led : (d : Deployment) (modules : List M) (lines : List Line) (world same last : WorldState M) → IsBooted declared turn first d modules (Ok world)
      → same ≡ world → Lead declared turn lines same last → last.steps ≡ length lines
  steps_led d modules lines world same last booted is lead =
      steps_counted declared turn first d modules lines world last booted (subst (λ (v : WorldState M). Lead declared turn lines v last) is lead)
