-- What the module of a node's member declares.
use Rattle.std.proofs.Common.{◌≡◌, ◌∙◌, ℕ, List, [], ◌∷◌, map, slice_get, Option, Some, None, option_map, option_and_then, refl, ap}
use Rattle.std.proofs.lemmas.Option.{slice_get-map}
use Rattle.circus_limits.specs.Limits.{limit_of}
use Rattle.circus_model.specs.declared.signature.Signature.{Signature}
use Rattle.circus_check.specs.declared.checked.ResolvedModule.{ResolvedModule}
use Rattle.circus_check.specs.Resolved.{module_as}
use Rattle.circus_modules.specs.Signatures.{interface_numbers, signature_of}
use Rattle.circus_node.specs.Accepting.{troupe_at}
use Rattle.circus_config.specs.declared.plan.Plan.{Plan}
use Rattle.circus_audit.specs.Possible.{declared_by}
use Rattle.circus_audit.specs.Seen.Reading.{hosted_as, hosted_by}

numbers_are : (modules : List ResolvedModule) → interface_numbers (map module_as modules) ≡ map (λ (m : ResolvedModule). m.interface) modules
numbers_are [] = refl
numbers_are (m ∷ modules) = ap (λ ns. m.interface ∷ ns) (numbers_are modules)

-- what a module declares, where modules implement interfaces of these numbers
abbrev pub signature_in : Plan → ResolvedModule → Signature
signature_in plan m = signature_of (limit_of plan.deployment.format) plan.checked.interfaces (map (λ (x : ResolvedModule). x.interface) plan.checked.modules) (module_as m)

declared_is : (plan : Plan) (number : ℕ) (o : Option ResolvedModule) → slice_get plan.checked.modules number ≡ o → declared_by plan number ≡ option_map (signature_in plan) o
declared_is plan number o is =
    (λ i. option_map (signature_of (limit_of plan.deployment.format) plan.checked.interfaces (numbers_are plan.checked.modules i)) (slice_get-map module_as plan.checked.modules number i))
    ∙ ap (λ x. option_map (signature_of (limit_of plan.deployment.format) plan.checked.interfaces (map (λ (y : ResolvedModule). y.interface) plan.checked.modules)) (option_map module_as x)) is
    ∙ twice o
  where
    twice : (x : Option ResolvedModule) → option_map (signature_of (limit_of plan.deployment.format) plan.checked.interfaces (map (λ (y : ResolvedModule). y.interface) plan.checked.modules)) (option_map module_as x) ≡ option_map (signature_in plan) x
    twice (Some m) = refl
    twice None = refl

hosted_at : (plan : Plan) (own : ℕ) (t : Option ℕ) → troupe_at plan.deployment own ≡ t → hosted_by plan own ≡ option_and_then (λ «module». option_map (hosted_as plan «module») (declared_by plan «module»)) t
hosted_at plan own t is = ap (option_and_then (λ «module». option_map (hosted_as plan «module») (declared_by plan «module»))) is

pub hosted_some : (plan : Plan) (own number : ℕ) (m : ResolvedModule) → troupe_at plan.deployment own ≡ Some number → slice_get plan.checked.modules number ≡ Some m → hosted_by plan own ≡ Some (hosted_as plan number (signature_in plan m))
hosted_some plan own number m is found = hosted_at plan own (Some number) is ∙ ap (option_map (hosted_as plan number)) (declared_is plan number (Some m) found)
