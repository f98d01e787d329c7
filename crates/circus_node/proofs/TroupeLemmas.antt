-- Where each troupe has a module, nodes may boot with it.
use Rattle.std.proofs.Common.{◌≡◌, ℕ, zero, suc, ◌<◌, ◌↔◌, true, List, [], ◌∷◌, length, map, Option, None, Some, refl, sym, ◌∙◌, ap, subst, arith}
use Rattle.std.specs.Prelude.{IsSome, is_some, slice_get, option_map, option_and_then}
use Rattle.std.proofs.lemmas.Option.{slice_get-map}
use Rattle.circus_value.specs.ValueTree.{ValueTree}
use Rattle.circus_value.specs.declared.outcome.Outcome.{Outcome}
use Rattle.circus_collate.specs.Deployment.{IsDeployment}
use Rattle.circus_collate.specs.declared.deployment.Deployment.{Deployment}
use Rattle.circus_collate.specs.declared.deployment.Host.{Host}
use Rattle.circus_model.specs.NextTurn.{NextTurn}
use Rattle.circus_model.specs.Behaviour.{Behaviour}
use Rattle.circus_model.specs.declared.signature.Signature.{Signature}
use Rattle.circus_performing.specs.Record.{behaviour}
use Rattle.circus_node.specs.Accepting.{troupe_at}
use Rattle.circus_node.specs.Booting.{CanBoot, AreOfTroupes, IsHosted, declared_at}

is_there : {X : Type 0} (xs : List X) (i : ℕ) → i < length xs → is_some (slice_get xs i) ≡ true
is_there [] i within = absurd (omega (arith, within))
is_there (x ∷ xs) zero within = refl
is_there (x ∷ xs) (suc i) within = is_there xs i (omega (arith, within))

-- the node of a troupe
host_of : (o : Option Host) (number : ℕ) → option_and_then (λ (h : Host). h.module) o ≡ Some number → (host : Host) × (o ≡ Some host) × (host.module ≡ Some number)
host_of None number is = absurd (cc)
host_of (Some host) number is = (host, refl, is)

module _ (d : Deployment) (declared : List Signature) (node : ℕ) (good : IsDeployment d) (are : AreOfTroupes d declared) where
  has_one : (number : ℕ) → troupe_at d node ≡ Some number → is_some (slice_get declared number) ≡ true
  has_one number is =
      let (host, at, own) = host_of (slice_get d.nodes node) number is in
      is_there declared number (omega (arith, (good.nodes node host at).hosted number own, are.one_each))

  hosted_so : (o : Option ℕ) → troupe_at d node ≡ o → IsSome (option_and_then (slice_get declared) o) ↔ IsSome o
  hosted_so None is = (λ some. some, λ some. some)
  hosted_so (Some number) is = (λ some. refl, λ some. has_one number is)

  pub can_boot : node < length d.nodes → CanBoot d node (declared_at d declared node)
  can_boot within = record {
    deployment = good;
    within = within;
    hosted = hosted_so (troupe_at d node) refl;
    fits = λ number signature of found. are.each number signature (sym (ap (option_and_then (slice_get declared)) of) ∙ found);
  }

-- with a module that does what the one of the node's troupe does
module _ {M : Type 0} (declared : M → Signature) (turn : M → List ValueTree → ℕ → List ValueTree → List Outcome → NextTurn) (first : M → List ValueTree) where
  declared_as : (o : Option M) → option_map declared o ≡ option_map (λ (b : Behaviour). b.declared) (option_map (behaviour declared turn first) o)
  declared_as None = refl
  declared_as (Some m) = refl

  declared_there : (modules : List M) (o : Option ℕ) → option_and_then (slice_get (map declared modules)) o ≡ option_map declared (option_and_then (slice_get modules) o)
  declared_there modules None = refl
  declared_there modules (Some number) = slice_get-map declared modules number

  pub hosted_can_boot : (d : Deployment) (modules : List M) (node : ℕ) (hosted : Option M) → IsDeployment d → AreOfTroupes d (map declared modules) → node < length d.nodes
      → IsHosted declared turn first d modules node hosted → CanBoot d node (option_map declared hosted)
  hosted_can_boot d modules node hosted good are within alike =
      subst (CanBoot d node) (
      declared_there modules (troupe_at d node)
      ∙ declared_as (option_and_then (slice_get modules) (troupe_at d node))
      ∙ sym (declared_as hosted ∙ ap (option_map (λ (b : Behaviour). b.declared)) alike))
      (can_boot d (map declared modules) node good are within)
