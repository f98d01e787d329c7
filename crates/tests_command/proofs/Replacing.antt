-- Modules of troupes, of which one is replaced.
use Rattle.std.proofs.Common.{◌≡◌, ◌⊎◌, ℕ, List, Some, inl, inr, sym, subst, ◌∙◌, length-set}
use Rattle.std.specs.Prelude.{slice_get}
use Rattle.std.proofs.Math.ListN.{set}
use Rattle.circus_collate.specs.declared.deployment.Deployment.{Deployment}
use Rattle.circus_model.specs.declared.signature.Signature.{Signature}
use Rattle.circus_node.specs.Booting.{IsOfTroupe, AreOfTroupes}
use Rattle.circus_world.proofs.SlotLemmas.{get_set}

pub replaced : (d : Deployment) (declared : List Signature) (place : ℕ) (s : Signature) → AreOfTroupes d declared → IsOfTroupe d place s → AreOfTroupes d (set declared place s)
replaced d declared place s are is =
    record { one_each = length-set declared place s ∙ are.one_each; each = λ number other at. by_place number other (get_set declared place number s other at) }
  where
    by_place : (number : ℕ) (other : Signature) → ((number ≡ place) × (other ≡ s)) ⊎ (slice_get declared number ≡ Some other) → IsOfTroupe d number other
    by_place number other (inl same) = subst (λ (k : ℕ). IsOfTroupe d k other) (sym same.0) (subst (λ (o : Signature). IsOfTroupe d place o) (sym same.1) is)
    by_place number other (inr at) = are.each number other at
