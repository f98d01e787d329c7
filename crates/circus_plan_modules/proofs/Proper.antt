-- The shapes and numbers of modules that obey the rules are proper.
use Rattle.std.proofs.Common.{◌≡◌, ℕ, ◌<◌, ◌≤◌, ◌⊎◌, inl, inr, Bool, true, false, cond, List, [], ◌∷◌, ◌++◌, length, Option, Some, None, arith, lt-ltb, refl, sym, subst, ap, ◌∙◌}
use Rattle.std.specs.Prelude.{Contains, find, map, nat_lt, option_to_list, slice_get}
use Rattle.std.specs.List.{AllByRecursion, list_any}
use Rattle.circus_value.specs.declared.shape.Label.{Label}
use Rattle.circus_value.specs.ShapeTree.{ShapeTree, FieldTrees, ArmTrees, FieldTree, boolean, cardinal, long_cardinal, integer, long_integer, text, enumeration, array, sequence, «record», choice, no_fields, more_fields, no_arms, more_arms}
use Rattle.circus_value.specs.ShapeOf.{tree_of, shape_in}
use Rattle.circus_external.specs.Refusal.{is_proper, are_proper, arms_are_proper, has_arm}
use Rattle.circus_transfer.specs.Snapshot as snapshot
use Rattle.circus_fault.proofs.Items.{of_each}
use Rattle.circus_type.specs.Obeys.{ObeysInside, ObeyFields, ObeyArmTypes, ObeyLabels, ObeysWhole, arm_names, arm_numbers}
use Rattle.circus_type.specs.Together.{shapes_of}
use Rattle.circus_idl.specs.Shown.{has_number}
use Rattle.circus_idl.specs.Obeys.{Obeys}
use Rattle.circus_idl.specs.declared.interface.DeclaredError.{DeclaredError}
use Rattle.circus_idl.specs.declared.interface.Procedure.{Procedure}
use Rattle.circus_idl.specs.declared.interface.Interface.{Interface}
use Rattle.circus_idl.proofs.ObeysParts.{ErrorObeys, ProcedureObeys, parts_obey}
use Rattle.circus_model.specs.LanguageError.{number_of}
use Rattle.circus_model.specs.Behaviour.{Behaviour}
use Rattle.circus_model.specs.declared.language_error.LanguageError.TheVariants.{Range}
use Rattle.circus_model.specs.declared.signature.ErrorShape.{ErrorShape}
use Rattle.circus_modules.specs.InterfaceSignatures.{shapes_in, error_of, errors_numbered, procedure_of}
use Rattle.circus_check.specs.Meaning.{ModuleMeant}
use Rattle.circus_check.specs.WellFormed.{AreWellFormed}
use Rattle.circus_modules.specs.Signatures.{procedures_offered, procedures_if, signature_of, interface_numbers}
use Rattle.circus_modules.specs.Behaviours.{behaviour_of, program_of}
use Rattle.circus_member_rules.specs.Proper.{IsProperProcedure, IsProperModule, AreProper}
use Rattle.circus_plan_modules.proofs.Places.{at_place, of_map}
use Rattle.circus_modules.proofs.Found.{contains_none}
use Rattle.circus_modules.proofs.Trees.{shape_forth}
use Rattle.circus_modules.proofs.ZeroFits.{both}

-- ---- shapes

some_label : (labels : List Label) → ObeyLabels labels → list_any (λ (l : Label). nat_lt l.number 65536) labels ≡ true
some_label [] obey = absurd (omega (arith, obey.some))
some_label (l ∷ labels) obey = rw (lt-ltb l.number 65536 (omega (arith, obey.in_range.0))) refl

some_arm : (arms : ArmTrees) → 0 < length (arm_names arms) → AllByRecursion (λ n. n ≤ 65535) (arm_numbers arms) → has_arm arms ≡ true
some_arm no_arms some fit = absurd (omega arith)
some_arm (more_arms _ n _ arms) some fit = rw (lt-ltb n 65536 (omega (arith, fit.0))) refl

-- the type of an arm is a record without fields or obeys
arm_proper : (s : ShapeTree) → (s ≡ «record» no_fields) ⊎ ObeysInside s → (ObeysInside s → is_proper s ≡ true) → is_proper s ≡ true
arm_proper s (inl bare) own = rw bare refl
arm_proper s (inr obeys) own = own obeys

mutual
  proper : (s : ShapeTree) → ObeysInside s → is_proper s ≡ true
  proper boolean obeys = refl
  proper cardinal obeys = refl
  proper long_cardinal obeys = refl
  proper integer obeys = refl
  proper long_integer obeys = refl
  proper text obeys = refl
  proper (enumeration labels) obeys = some_label labels obeys
  proper (array n s) obeys = proper s obeys.2
  proper (sequence n s) obeys = rw (lt-ltb n 65536 (omega (arith, obeys.0))) (proper s obeys.1)
  proper («record» fields) obeys = fields_proper fields obeys.2
  proper (choice arms) obeys = rw (some_arm arms obeys.0.some obeys.0.in_range) (arms_proper arms obeys.1)

  fields_proper : (fields : FieldTrees) → ObeyFields fields → are_proper fields ≡ true
  fields_proper no_fields obey = refl
  fields_proper (more_fields _ s fields) obey = rw (proper s obey.0) (fields_proper fields obey.1)

  arms_proper : (arms : ArmTrees) → ObeyArmTypes arms → arms_are_proper arms ≡ true
  arms_proper no_arms obey = refl
  arms_proper (more_arms _ _ s arms) obey = rw (arm_proper s obey.0 (λ obeys. proper s obeys)) (arms_proper arms obey.1)

-- those of fields, without their names
shapes_proper : (fields : List FieldTree) → AllByRecursion ObeysWhole (shapes_of fields) → are_proper (snapshot.fields_of (shapes_in fields)) ≡ true
shapes_proper [] whole = refl
shapes_proper (f ∷ fs) whole =
    both (is_proper (tree_of (shape_in f.shape))) (are_proper (snapshot.fields_of (shapes_in fs)))
    (ap is_proper (shape_forth f.shape) ∙ proper f.shape whole.0.inside) (shapes_proper fs whole.1)

-- ---- errors and procedures

record IsProperError (e : ErrorShape) : Type 0 where
  arguments : are_proper (snapshot.fields_of e.arguments) ≡ true
  number : e.number < number_of Range

error_proper : (d : DeclaredError) → ErrorObeys d → IsProperError (error_of d)
error_proper d obeys = record { arguments = shapes_proper d.arguments obeys.arguments.whole; number = omega (arith, obeys.in_range) }

-- the first error of a number, before others
error_before : (declared : List DeclaredError) (n : ℕ) (rest : List ErrorShape) → AllByRecursion ErrorObeys declared → AllByRecursion IsProperError rest
    → AllByRecursion IsProperError (map error_of (option_to_list (find (has_number n) declared)) ++ rest)
error_before [] n rest obey others = others
error_before (d ∷ declared) n rest obey others = by_test (has_number n d) (error_before declared n rest obey.1 others)
  where
    by_test : (b : Bool) → AllByRecursion IsProperError (map error_of (option_to_list (find (has_number n) declared)) ++ rest)
        → AllByRecursion IsProperError (map error_of (option_to_list (cond b (Some d) (find (has_number n) declared))) ++ rest)
    by_test true later = (error_proper d obey.0, others)
    by_test false later = later

errors_proper : (declared : List DeclaredError) (numbers : List ℕ) → AllByRecursion ErrorObeys declared → AllByRecursion IsProperError (errors_numbered declared numbers)
errors_proper declared [] obey = tt
errors_proper declared (n ∷ numbers) obey = error_before declared n (errors_numbered declared numbers) obey (errors_proper declared numbers obey)

-- one among those that are reported
reported_proper : (declared : List DeclaredError) (numbers : List ℕ) (e : ErrorShape) → AllByRecursion ErrorObeys declared → Contains (errors_numbered declared numbers) e → IsProperError e
reported_proper declared numbers e obey among = of_each IsProperError (errors_numbered declared numbers) e (errors_proper declared numbers obey) among

procedures_proper : (declared : List DeclaredError) (ps : List Procedure) → AllByRecursion ErrorObeys declared → AllByRecursion (ProcedureObeys declared) ps
    → AllByRecursion IsProperProcedure (map (procedure_of declared) ps)
procedures_proper declared [] errors obey = tt
procedures_proper declared (p ∷ ps) errors obey = (
  record {
    number = omega (arith, obey.0.in_range);
    arguments = shapes_proper p.arguments obey.0.arguments.whole;
    results = shapes_proper p.results obey.0.results.whole;
    errors = λ e among. (reported_proper declared p.reports e errors among).arguments;
    numbers = λ e among. (reported_proper declared p.reports e errors among).number;
  },
  procedures_proper declared ps errors obey.1,
)

-- ---- modules

module _ (interfaces : List Interface) (obey : AllByRecursion Obeys interfaces) where
  of_interface : (n : ℕ) (o : Option Interface) → slice_get interfaces n ≡ o → AllByRecursion IsProperProcedure (procedures_if o)
  of_interface n None is = tt
  of_interface n (Some i) is = let parts = parts_obey i (at_place Obeys interfaces obey n i is) in procedures_proper i.errors i.procedures parts.errors parts.procedures

  offered_proper : (number : Option ℕ) → AllByRecursion IsProperProcedure (procedures_offered interfaces number)
  offered_proper None = (
    record { number = omega arith; arguments = refl; results = refl; errors = λ e among. absurd (contains_none e among); numbers = λ e among. absurd (contains_none e among) },
    tt,
  )
  offered_proper (Some n) = of_interface n (slice_get interfaces n) refl

  module_proper : (limit : ℕ) (numbers : List (Option ℕ)) (m : ModuleMeant) → AllByRecursion ObeysWhole (shapes_of m.variables) → IsProperModule (signature_of limit interfaces numbers m)
  module_proper limit numbers m types = record {
    variables = shapes_proper m.variables types;
    procedures = λ p among. of_each IsProperProcedure (procedures_offered interfaces m.interface) p (offered_proper m.interface) among;
  }

  module _ (limit : ℕ) (modules : List ModuleMeant) (good : AreWellFormed interfaces modules) where
    pub modules_proper : AreProper (program_of limit interfaces modules)
    modules_proper place b at =
        let o = of_map (behaviour_of limit interfaces (interface_numbers modules)) modules place b at in
        subst (λ (x : Behaviour). IsProperModule x.declared) (sym o.is)
        (module_proper limit (interface_numbers modules) o.item (good.each place o.item o.there).types)
