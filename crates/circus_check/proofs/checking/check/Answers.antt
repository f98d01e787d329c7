use Rattle.std.proofs.Common.{◌≡◌, ◌∙◌, List, ap, sym, subst, map, []}
use Rattle.std.specs.List.{AllByRecursion}
use Rattle.circus_idl.specs.declared.interface.Interface.{Interface}
use Rattle.circus_idl.specs.Obeys.{Obeys}
use Rattle.circus_lang.specs.ModuleTree.{ModuleTree, module_of}
use Rattle.circus_check.specs.Faults.{faults}
use Rattle.circus_check.specs.Meaning.{ModuleMeant, modules_meant}
use Rattle.circus_check.specs.Read.{IsRead}
use Rattle.circus_check.specs.WellFormed.{AreWellFormed}
use Rattle.circus_check.proofs.WholeModules.{well_formed}
use Rattle.circus_check.proofs.checking.check.Goals as goal

-- modules without a fault, which are read from slices
sound : (interfaces seen : List Interface) (modules seen_modules : List ModuleTree) (made : List ModuleMeant) → seen ≡ interfaces → seen_modules ≡ modules → AllByRecursion Obeys interfaces → AllByRecursion IsRead modules
    → faults seen seen_modules ≡ [] → made ≡ modules_meant seen seen_modules 0 seen_modules → AreWellFormed interfaces made
sound interfaces seen modules seen_modules made is same obey read faultless meant =
    subst (AreWellFormed interfaces) (sym (meant ∙ (λ i. modules_meant (is i) (same i) 0 (same i)))) (well_formed interfaces modules obey read ((λ i. faults (sym is i) (sym same i)) ∙ faultless))

pub invariant_of-result : goal.invariant_of-result
invariant_of-result c = record {
  obey = ∣ c.requires.obey ∣₁;
  well_formed = ∣ sound c.args.interfaces _ (map module_of c.args.modules) _ _ c.as_slice.ensures (ap (map module_of) c.as_slice-2.ensures) c.requires.obey c.requires.read c.in_ok-resolved.ensures.faultless c.in_ok-resolved.ensures.meant ∣₁;
}

pub returns-clause-well_formed : goal.returns-clause-well_formed
returns-clause-well_formed c =
    sound c.args.interfaces _ (map module_of c.args.modules) _ _ c.as_slice.ensures (ap (map module_of) c.as_slice-2.ensures) c.requires.obey c.requires.read c.in_ok-resolved.ensures.faultless c.in_ok-resolved.ensures.meant
