-- A file means one plan.
use Rattle.std.proofs.Common.{◌≡◌, ℕ, List, [], ◌∷◌, map, refl, sym, ap, subst, ◌∙◌}
use Rattle.std.specs.List.{AllByRecursion}
use Rattle.std.proofs.Math.Logic.{∥∥₁_prop}
use Rattle.circus_idl.specs.declared.interface.Interface.{Interface}
use Rattle.circus_idl.specs.Obeys.{Obeys}
use Rattle.circus_check.specs.declared.checked.CheckedBody.{CheckedBody}
use Rattle.circus_check.specs.declared.checked.Checked.{Checked}
use Rattle.circus_check.specs.declared.checked.ResolvedModule.{ResolvedModule}
use Rattle.circus_check.specs.Meaning.{BodyMeant, ModuleMeant}
use Rattle.circus_check.specs.Resolved.{body_as, module_as}
use Rattle.circus_check.specs.WellFormed.{AreWellFormed}
use Rattle.circus_config.specs.declared.plan.Plan.{Plan}
use Rattle.circus_config.specs.Program.{IsProgramOf, SaysSame}
use Rattle.circus_config.proofs.OneAnswer.{plan_one}

-- ---- modules that mean the same are the same

body_of : BodyMeant → CheckedBody
body_of b = record { locals = b.locals; statements = b.statements }

module_of : ModuleMeant → ResolvedModule
module_of m = record { name = m.name; root = m.root; interface = m.interface; imports = m.imports; variables = m.variables; bodies = map body_of m.bodies }

bodies_of : (bs : List CheckedBody) → map body_of (map body_as bs) ≡ bs
unfolding body_of
bodies_of [] = refl
bodies_of (b ∷ bs) = ap (λ l. b ∷ l) (bodies_of bs)

modules_of : (ms : List ResolvedModule) → map module_of (map module_as ms) ≡ ms
unfolding module_of
modules_of [] = refl
modules_of (m ∷ ms) = λ i. record { name = m.name; root = m.root; interface = m.interface; imports = m.imports; variables = m.variables; bodies = bodies_of m.bodies i } ∷ modules_of ms i

modules_same : (ms ns : List ResolvedModule) → map module_as ms ≡ map module_as ns → ms ≡ ns
modules_same ms ns same = sym (modules_of ms) ∙ ap (map module_of) same ∙ modules_of ns

abbrev Obeying : List Interface → Type 0
Obeying is = ∥ AllByRecursion Obeys is ∥₁

abbrev WellFormed : List Interface → List ResolvedModule → Type 0
WellFormed is ms = ∥ AreWellFormed is (map module_as ms) ∥₁

-- what is known of them is one fact
checked_same : (a b : Checked) → a.interfaces ≡ b.interfaces → a.modules ≡ b.modules → a ≡ b
checked_same a b interfaces modules =
    subst (λ (is : List Interface). (obey : Obeying is) (formed : WellFormed is b.modules) → a ≡ record { interfaces = is; modules = b.modules; obey = obey; well_formed = formed }) interfaces
    (subst (λ (ms : List ResolvedModule). (obey : Obeying a.interfaces) (formed : WellFormed a.interfaces ms) → a ≡ record { interfaces = a.interfaces; modules = ms; obey = obey; well_formed = formed }) modules
    (λ obey formed i. record { interfaces = a.interfaces; modules = a.modules; obey = ∥∥₁_prop a.obey obey i; well_formed = ∥∥₁_prop a.well_formed formed i }))
    b.obey b.well_formed

pub plan_is_one : (text : List ℕ) (plan other : Plan) → IsProgramOf text plan → IsProgramOf text other → plan ≡ other
plan_is_one text plan other means also = by_parts (plan_one text plan other means also)
  where
    by_parts : SaysSame plan other → plan ≡ other
    by_parts same = λ i. record {
      deployment = same.deployment i;
      names = same.names i;
      checked = checked_same plan.checked other.checked same.interfaces (modules_same plan.checked.modules other.checked.modules same.modules) i;
    }
