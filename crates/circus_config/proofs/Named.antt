-- The names of modules that have no fault.
use Rattle.std.proofs.Common.{◌≡◌, ℕ, suc, ◌≤◌, ◌⊎◌, inl, inr, List, [], ◌∷◌, length, map, refl, ap, subst, arith}
use Rattle.std.proofs.lemmas.List.{length-map}
use Rattle.circus_type.specs.Distinct.{AreDistinct}
use Rattle.circus_idl.specs.declared.interface.Interface.{Interface}
use Rattle.circus_file.specs.declared.program_text.Format.{Format}
use Rattle.circus_file.specs.declared.program_text.Format.TheVariants.{One, Two}
use Rattle.circus_lang.specs.declared.module_text.ModuleText.{ModuleText}
use Rattle.circus_lang.specs.ModuleTree.{ModuleTree, module_of}
use Rattle.circus_check.specs.Meaning.{ModuleMeant, modules_meant}
use Rattle.circus_check.specs.WellFormed.{AreWellFormed}
use Rattle.circus_config.specs.Told.{module_names}
use Rattle.circus_config.specs.Program.{format_number}

module _ (interfaces : List Interface) (modules : List ModuleTree) where
  meant_names : (i : ℕ) (ms : List ModuleTree) → map (λ (m : ModuleMeant). m.name) (modules_meant interfaces modules i ms) ≡ module_names ms
  meant_names i [] = refl
  meant_names i (m ∷ ms) = ap (λ l. m.name.name ∷ l) (meant_names (suc i) ms)

  as_many : (i : ℕ) (ms : List ModuleTree) → length (modules_meant interfaces modules i ms) ≡ length ms
  as_many i [] = refl
  as_many i (m ∷ ms) = ap suc (as_many (suc i) ms)

  pub roots_meant : (i : ℕ) (ms : List ModuleTree) → map (λ (m : ModuleMeant). m.root) (modules_meant interfaces modules i ms) ≡ map (λ (m : ModuleTree). m.root) ms
  roots_meant i [] = refl
  roots_meant i (m ∷ ms) = ap (λ l. m.root ∷ l) (roots_meant (suc i) ms)

  pub distinct_names : AreWellFormed interfaces (modules_meant interfaces modules 0 modules) → AreDistinct (module_names modules)
  distinct_names W = subst AreDistinct (meant_names 0 modules) W.names

  pub few_modules : AreWellFormed interfaces (modules_meant interfaces modules 0 modules) → length modules ≤ 32
  few_modules W = omega (arith, W.few, as_many 0 modules)

-- those that a deployment is checked over are few
pub few_of : (interfaces : List Interface) (list slice : List ModuleText) → slice ≡ list → AreWellFormed interfaces (modules_meant interfaces (map module_of list) 0 (map module_of list)) → length slice ≤ 32
few_of interfaces list slice same W = omega (arith, few_modules interfaces (map module_of list) W, length-map list module_of, ap length same)

-- the numbers of the formats
pub numbered : (f : Format) → (format_number f ≡ 1) ⊎ (format_number f ≡ 2)
numbered One = inl refl
numbered Two = inr refl
