-- Modules in which nothing is wrong: their faults, each by itself.
use Rattle.std.proofs.Common.{◌≡◌, ℕ, zero, suc, ◌+◌, ◌<◌, ◌≤◌, Bool, true, false, List, [], ◌∷◌, ◌++◌, length, get_or, take, refl, sym, ◌∙◌, ap, subst, arith, Some, ◌⊎◌, inl, inr}
use Rattle.std.specs.Prelude.{slice_get, is_some, is_none, not, ◌==◌}
use Rattle.std.proofs.lemmas.Bool.{cases_lt}
use Rattle.std.proofs.lemmas.List.{take_all, length-take}
use Rattle.std.proofs.lemmas.Option.{same_Some, slice_get-get_or}
use Rattle.circus_statement.specs.StatementTree.{StatementTree, statement_trees}
use Rattle.circus_fault.proofs.Items.{none_in}
use Rattle.circus_type.specs.Inside.{no_name, also_name, repeated_name}
use Rattle.circus_type.specs.Scale.{written_out}
use Rattle.circus_fault.proofs.NoFaults.{no_fault}
use Rattle.circus_resolve.specs.Causes.{of_type}
use Rattle.circus_resolve.specs.Faults.{Faults}
use Rattle.circus_body.specs.Ending.{all_end}
use Rattle.circus_idl.specs.declared.interface.Interface.{Interface}
use Rattle.circus_lang.specs.ModuleTree.{ModuleTree, ProcedureOf}
use Rattle.circus_limits.specs.Limits.{most_modules}
use Rattle.circus_check.specs.Naming.{module_named}
use Rattle.circus_check.specs.Reach.{shared_at}
use Rattle.circus_check.specs.Faults.{is_later, name_faults, interface_faults, imports_faults, first_missing, missing_faults, also_fields, also_variables, parameters_of, arguments_of, variables_faults, variables_parts, state_faults, interface, unknown_place, forms, offer_of, body_faults, unless_behind, procedure_faults, whole_procedure, procedures_faults, head_faults, module_faults, modules_faults, faults}
use Rattle.circus_check.proofs.CleanVariables.{both_none}

looked_into : (found own : Faults) → found ≡ [] → unless_behind found own ≡ own
looked_into [] own nothing = refl
looked_into (f ∷ fs) own nothing = absurd (cc)

module _ (interfaces : List Interface) (modules : List ModuleTree) where
  module _ (i : ℕ) (m : ModuleTree) where
    -- a procedure behind so many parts and earlier procedures
    pub record CleanProcedure (before : ℕ) (earlier : List ℕ → Bool) (p : ProcedureOf StatementTree) : Type 0 where
      pub known : is_none (offer_of interfaces modules i m p) ≡ false
      pub ends : all_end (statement_trees p.body.statements) ≡ true
      pub locals : variables_faults written_out (unknown_place interfaces modules i m) (forms interfaces modules i m) before (also_fields (arguments_of (offer_of interfaces modules i m p)) (also_variables m.variables no_name)) p.body.variables ≡ []
      pub body : body_faults interfaces modules i m p ≡ []

    abbrev pub CleanProcedures : ℕ → (List ℕ → Bool) → List (ProcedureOf StatementTree) → Type 0
    CleanProcedures before earlier [] = Unit {0}
    CleanProcedures before earlier (p ∷ ps) =
        CleanProcedure before earlier p × CleanProcedures (variables_parts written_out (forms interfaces modules i m) before p.body.variables) (also_name p.name.name earlier) ps

    is_not : (b : Bool) → not b ≡ false → b ≡ true
    is_not true is = refl
    is_not false is = absurd (cc)

    procedures_clean : (found : Faults) (before : ℕ) (earlier : List ℕ → Bool) (ps : List (ProcedureOf StatementTree)) → found ≡ [] → procedures_faults interfaces modules i m found before earlier ps ≡ [] → CleanProcedures before earlier ps
    procedures_clean found before earlier [] nothing none = tt
    procedures_clean found before earlier (p ∷ ps) nothing none =
        let head = procedure_faults interfaces modules i m before earlier p in
        let whole = whole_procedure interfaces modules i m found before earlier p in
        let (own, rest) = none_in whole _ none in
        let (front, body) = none_in head (unless_behind (found ++ head) (body_faults interfaces modules i m p)) own in
        let (three, locals) = none_in _ (variables_faults written_out (unknown_place interfaces modules i m) (forms interfaces modules i m) before (also_fields (arguments_of (offer_of interfaces modules i m p)) (also_variables m.variables no_name)) p.body.variables) front in
        let (two, ending) = none_in _ _ three in
        let (known, repeated) = none_in _ (repeated_name of_type earlier p.name) two in
        let clean : CleanProcedure before earlier p = record { known = no_fault _ _ _ known; ends = is_not _ (no_fault _ _ _ ending); locals = locals; body = sym (looked_into (found ++ head) _ (both_none found head nothing front)) ∙ body } in
        (clean, procedures_clean (found ++ whole) _ _ ps (both_none found whole nothing own) rest)

    pub record CleanModule : Type 0 where
      pub first : is_later (module_named modules m.name.name) i ≡ false
      pub few : (i == most_modules) ≡ false
      pub alone : is_some (shared_at modules i) ≡ false
      pub implements : interface_faults interfaces m.interface ≡ []
      pub imports : imports_faults modules i m.imports ≡ []
      pub complete : is_some (first_missing (interface interfaces modules i m) m.procedures) ≡ false
      pub state : variables_faults written_out (unknown_place interfaces modules i m) (forms interfaces modules i m) 0 (parameters_of (interface interfaces modules i m)) m.variables ≡ []
      pub small : state_faults (unknown_place interfaces modules i m) (forms interfaces modules i m) (parameters_of (interface interfaces modules i m)) m ≡ []
      pub procedures : CleanProcedures (variables_parts written_out (forms interfaces modules i m) 0 m.variables) no_name m.procedures

    pub module_clean : (found : Faults) → found ≡ [] → module_faults interfaces modules i m found ≡ [] → CleanModule
    module_clean found nothing none =
        let head = head_faults interfaces modules i m in
        let (front, rest) = none_in head _ none in
        let (to_state, small) = none_in _ (state_faults (unknown_place interfaces modules i m) (forms interfaces modules i m) (parameters_of (interface interfaces modules i m)) m) front in
        let (to_missing, state) = none_in _ (variables_faults written_out (unknown_place interfaces modules i m) (forms interfaces modules i m) 0 (parameters_of (interface interfaces modules i m)) m.variables) to_state in
        let (to_imports, missing) = none_in _ (missing_faults (interface interfaces modules i m) m) to_missing in
        let (to_interface, imports) = none_in _ (imports_faults modules i m.imports) to_imports in
        let (names, known) = none_in (name_faults modules i m) (interface_faults interfaces m.interface) to_interface in
        let (two, shared) = none_in _ _ names in
        let (later, many) = none_in _ _ two in
        record {
          first = no_fault _ _ _ later;
          few = no_fault _ _ _ many;
          alone = no_fault _ _ _ shared;
          implements = known;
          imports = imports;
          complete = no_fault _ _ _ missing;
          state = state;
          small = small;
          procedures = procedures_clean (found ++ head) _ _ m.procedures (both_none found head nothing front) rest;
        }

  modules_clean : (found : Faults) (i : ℕ) (ms : List ModuleTree) → found ≡ [] → modules_faults interfaces modules found i ms ≡ [] → (n : ℕ) (m : ModuleTree) → slice_get ms n ≡ Some m → CleanModule (i + n) m
  modules_clean found i [] nothing none n m is = absurd (cc)
  modules_clean found i (x ∷ ms) nothing none n m is =
      let own = module_faults interfaces modules i x found in
      let (first, rest) = none_in own _ none in
      by n is (module_clean i x found nothing first) (modules_clean (found ++ own) (suc i) ms (both_none found own nothing first) rest)
    where
      by : (n : ℕ) → slice_get (x ∷ ms) n ≡ Some m → CleanModule i x → ((k : ℕ) (y : ModuleTree) → slice_get ms k ≡ Some y → CleanModule (suc i + k) y) → CleanModule (i + n) m
      by zero is here later = let same : x ≡ m = same_Some x m is in subst (λ (y : ModuleTree). CleanModule (i + 0) y) same (let e : i ≡ i + 0 = omega arith in subst (λ k. CleanModule k x) e here)
      by (suc k) is here later = let e : suc i + k ≡ i + suc k = omega arith in subst (λ j. CleanModule j m) e (later k m is)

  -- there are no more modules than there may be, so each of them is tested
  pub all_clean : faults interfaces modules ≡ [] → (length modules ≤ 32) × ((n : ℕ) (m : ModuleTree) → slice_get modules n ≡ Some m → CleanModule n m)
  all_clean none = by (cases_lt 32 (length modules))
    where
      each : (n : ℕ) (m : ModuleTree) → slice_get (take (suc most_modules) modules) n ≡ Some m → CleanModule n m
      each n m is = let e : 0 + n ≡ n = omega arith in subst (λ k. CleanModule k m) e (modules_clean [] 0 (take (suc most_modules) modules) refl none n m is)

      beyond : (xs : List ModuleTree) → 32 < length xs → (m : ModuleTree) × (slice_get (take (suc most_modules) xs) 32 ≡ Some m)
      beyond [] above = absurd (omega arith)
      beyond (x ∷ xs) above =
          let ys = take (suc most_modules) (x ∷ xs) in
          (get_or ys 32 x, slice_get-get_or ys 32 x (omega (arith, length-take (suc most_modules) (x ∷ xs), above)))

      by : (32 < length modules) ⊎ (length modules ≤ 32) → (length modules ≤ 32) × ((n : ℕ) (m : ModuleTree) → slice_get modules n ≡ Some m → CleanModule n m)
      by (inl above) = let (m, is) = beyond modules above in let few = (each 32 m is).few in absurd (cc)
      by (inr within) = (within, λ n m is. each n m (ap (λ xs. slice_get xs n) (take_all (suc most_modules) modules (omega (arith, within))) ∙ is))
