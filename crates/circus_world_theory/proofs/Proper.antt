-- The modules of a world's troupes, by what they do: each is one of its troupe, and its shapes and numbers are proper.
use Rattle.std.proofs.Common.{◌≡◌, ℕ, List, Option, None, Some, map, refl, sym, subst, ap, ◌∙◌}
use Rattle.std.specs.Prelude.{slice_get, option_map}
use Rattle.std.proofs.lemmas.Option.{none-some, same_Some, slice_get-map}
use Rattle.circus_value.specs.ValueTree.{ValueTree}
use Rattle.circus_value.specs.declared.outcome.Outcome.{Outcome}
use Rattle.circus_collate.specs.declared.deployment.Deployment.{Deployment}
use Rattle.circus_model.specs.NextTurn.{NextTurn}
use Rattle.circus_model.specs.Behaviour.{Behaviour, behaviours}
use Rattle.circus_model.specs.Agree.{IsAt}
use Rattle.circus_model.specs.declared.signature.Signature.{Signature}
use Rattle.circus_performing.specs.Record.{behaviour}
use Rattle.circus_member_rules.specs.Proper.{AreProper}
use Rattle.circus_node.specs.Booting.{IsOfTroupe, AreOfTroupes}

module _ {M : Type 0} (declared : M → Signature) (turn : M → List ValueTree → ℕ → List ValueTree → List Outcome → NextTurn) (first : M → List ValueTree)
    (d : Deployment) (modules : List M) (troupes : AreOfTroupes d (map declared modules)) where
  abbrev program : List Behaviour
  program = behaviours declared turn first modules

  pub fits : (number : ℕ) (b : Behaviour) → IsAt program number b → IsOfTroupe d number b.declared
  fits number b at = by_module (slice_get modules number) refl
    where
      seen : (o : Option M) → slice_get modules number ≡ o → option_map (behaviour declared turn first) o ≡ Some b
      seen o is = sym (slice_get-map (behaviour declared turn first) modules number ∙ ap (option_map (behaviour declared turn first)) is) ∙ at

      by_module : (o : Option M) → slice_get modules number ≡ o → IsOfTroupe d number b.declared
      by_module None is = absurd (none-some b (seen None is))
      by_module (Some m) is =
          subst (λ (x : Behaviour). IsOfTroupe d number x.declared) (same_Some (behaviour declared turn first m) b (seen (Some m) is))
          (troupes.each number (declared m) (slice_get-map declared modules number ∙ ap (option_map declared) is))

  pub are_proper : AreProper program
  are_proper place b at = (fits place b at).proper
