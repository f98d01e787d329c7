-- A world that has just booted is untouched.
use Rattle.std.proofs.Common.{◌≡◌, ℕ, false, List, [], ◌∷◌, length, Option, None, Ok, Err, refl, subst}
use Rattle.std.proofs.lemmas.List.Elements.{All-nil, All-push, All-weaker}
use Rattle.circus_value.specs.ValueTree.{ValueTree}
use Rattle.circus_value.specs.declared.outcome.Outcome.{Outcome}
use Rattle.circus_collate.specs.declared.deployment.Deployment.{Deployment}
use Rattle.circus_model.specs.NextTurn.{NextTurn}
use Rattle.circus_model.specs.declared.signature.Signature.{Signature}
use Rattle.circus_node.specs.Booting.{boot_node}
use Rattle.circus_node.specs.Step as node_step
use Rattle.circus_world.specs.WorldState.{WorldState, Standing}
use Rattle.circus_world.specs.Course.{Stepped}
use Rattle.circus_world.specs.Boot.{before_any, joined_by, then_others, all_booted}
use Rattle.circus_world.specs.Answers.{IsBooted}
use Rattle.circus_simulation.specs.Sampled.{IsUntouched}
use Rattle.circus_simulation.specs.Seen.Stepping.{NoneCrashed}

module _ {M : Type 0} where
  pub none_crashed : (w : WorldState M) → IsUntouched w → NoneCrashed w
  none_crashed w untouched =
      All-weaker (λ (s : Standing M). (s.crashed ≡ None) × (s.joins ≡ false)) (λ (s : Standing M). s.crashed ≡ None) (λ s is. is.0) w.nodes untouched

  -- no node is touched, and no line was stepped
  pub record IsNew (w : WorldState M) : Type 0 where
    pub untouched : IsUntouched w
    pub steps : w.steps ≡ 0

  abbrev IsNewIfOk : Stepped M → Type 0
  IsNewIfOk (Ok w) = IsNew w
  IsNewIfOk (Err nodes) = Unit {0}

  new_joined : (w : WorldState M) (end : node_step.Ended M) → IsNew w → IsNewIfOk (joined_by w end)
  new_joined w (Ok started) new =
      record {
        untouched = All-push (λ (s : Standing M). (s.crashed ≡ None) × (s.joins ≡ false)) w.nodes (record { node = started.0; crashed = None; joins = false }) new.untouched (refl, refl);
        steps = new.steps;
      }
  new_joined w (Err peer) new = tt

  then_new : (others : WorldState M → Stepped M) → ((w : WorldState M) → IsNew w → IsNewIfOk (others w)) → (e : Stepped M) → IsNewIfOk e → IsNewIfOk (then_others others e)
  then_new others leave (Ok w) new = leave w new
  then_new others leave (Err nodes) new = tt

module _ {M : Type 0} (declared : M → Signature) (turn : M → List ValueTree → ℕ → List ValueTree → List Outcome → NextTurn) (first : M → List ValueTree) where
  all_new : (hosted : List (Option M)) (w : WorldState M) → IsNew w → IsNewIfOk (all_booted declared turn first hosted w)
  all_new [] w new = new
  all_new (own ∷ others) w new =
      let end = boot_node declared turn first w.deployment own (length w.nodes) in
      then_new (all_booted declared turn first others) (all_new others) (joined_by w end) (new_joined w end new)

  pub booted_new : (d : Deployment) (modules : List M) (w : WorldState M) → IsBooted declared turn first d modules (Ok w) → IsNew w
  booted_new d modules w is =
      subst (λ (e : Stepped M). IsNewIfOk e) is.2
      (all_new is.0 (before_any d modules) (record { untouched = All-nil (λ (s : Standing M). (s.crashed ≡ None) × (s.joins ≡ false)); steps = refl }))
