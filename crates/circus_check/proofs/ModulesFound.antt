-- The modules up to the first that is one too many, one by one.
use Rattle.std.proofs.Common.{◌≡◌, ℕ, zero, suc, ◌+◌, ◌<◌, ◌≤◌, false, List, [], ◌∷◌, ◌++◌, take, drop, refl, sym, ◌∙◌, ap, arith, append_assoc, Option, Some, None}
use Rattle.std.proofs.lemmas.List.{append-nil}
use Rattle.std.specs.Prelude.{slice_get, IfNone, ◌==◌}
use Rattle.std.proofs.lemmas.Option.{same_Some}
use Rattle.circus_fault.specs.declared.fault.Fault.{Fault}
use Rattle.circus_fault.specs.Least.{least_from}
use Rattle.circus_fault.proofs.Items.{none_in}
use Rattle.circus_fault.proofs.LeastIs.{never_lost, no_least}
use Rattle.circus_fault.proofs.LeastMore.{least_more}
use Rattle.circus_type.specs.Limits.{most_parts}
use Rattle.circus_type.specs.Scale.{written_out}
use Rattle.circus_resolve.specs.declared.cause.CheckCause.{CheckCause}
use Rattle.circus_resolve.specs.Causes.{rank}
use Rattle.circus_resolve.specs.Faults.{Faults}
use Rattle.circus_idl.specs.declared.interface.Interface.{Interface}
use Rattle.circus_lang.specs.ModuleTree.{ModuleTree}
use Rattle.circus_check.specs.InRange.{AreVariablesInRange}
use Rattle.circus_check.specs.Faults.{parameters_of, variables_faults, variables_parts, state_faults, interface, unknown_place, forms, head_faults, module_faults, modules_faults, faults}
use Rattle.circus_limits.specs.Limits.{most_modules}
use Rattle.circus_check.specs.Meaning.{ModuleMeant, module_meant, modules_meant}
use Rattle.circus_check.specs.Seen.Progress.{Found}
use Rattle.circus_check.proofs.CleanModules.{module_clean}
use Rattle.circus_check.proofs.CleanVariables.{variables_in_range, variables_few}

-- of the first few items, those from one on
pub drop_taken : {X : Type 0} (xs : List X) (n i : ℕ) (x : X) → i < n → slice_get xs i ≡ Some x → drop i (take n xs) ≡ x ∷ drop (i + 1) (take n xs)
drop_taken [] n i x below is = absurd (cc)
drop_taken (y ∷ ys) zero i x below is = absurd (omega arith)
drop_taken (y ∷ ys) (suc n) zero x below is = ap (λ z. z ∷ take n ys) (same_Some y x is)
drop_taken (y ∷ ys) (suc n) (suc i) x below is = let e : suc (i + 1) ≡ suc i + 1 = omega arith in drop_taken ys n i x (omega (arith, below)) is ∙ ap (λ k. x ∷ drop k (y ∷ take n ys)) e

pub drop_whole : {X : Type 0} (xs : List X) (i : ℕ) (x : X) → slice_get xs i ≡ Some x → drop i xs ≡ x ∷ drop (i + 1) xs
drop_whole [] i x is = absurd (cc)
drop_whole (y ∷ ys) zero x is = ap (λ z. z ∷ ys) (same_Some y x is)
drop_whole (y ∷ ys) (suc i) x is = let e : suc (i + 1) ≡ suc i + 1 = omega arith in drop_whole ys i x is ∙ ap (λ k. x ∷ drop k (y ∷ ys)) e

-- ---- least faults

-- nothing is found before and now
pub nothing_found : (best : Option (Fault CheckCause)) (fs : Faults) → least_from rank best fs ≡ None → (best ≡ None) × (fs ≡ [])
nothing_found None fs is = (refl, no_least rank fs is)
nothing_found (Some b) fs is = absurd (never_lost rank b fs is)

-- the head of a module, and what stands behind it by what is found before
pub head_then : (best mid new : Option (Fault CheckCause)) (found head : Faults) (rest : Faults → Faults) → mid ≡ least_from rank best head → ((fs : Faults) → mid ≡ least_from rank None fs → new ≡ least_from rank mid (rest fs))
    → best ≡ least_from rank None found → new ≡ least_from rank best (head ++ rest (found ++ head))
head_then best mid new found head rest head_is rest_is before =
    rest_is (found ++ head) (head_is ∙ ap (λ b. least_from rank b head) before ∙ sym (least_more rank None found head))
    ∙ ap (λ b. least_from rank b (rest (found ++ head))) head_is ∙ sym (least_more rank best head (rest (found ++ head)))

-- faults of which this is the least
pub as_found : (best : Option (Fault CheckCause)) → (fs : Faults) × (best ≡ least_from rank None fs)
as_found None = ([], refl)
as_found (Some f) = (f ∷ [], refl)

-- what holds where nothing is found
pub where_none : (o : Option (Fault CheckCause)) (P : Type 0) → IfNone o P → o ≡ None → P
where_none None P holds is = holds
where_none (Some f) P holds is = absurd (cc)

pub if_none : (o : Option (Fault CheckCause)) (P : Type 0) → (o ≡ None → P) → IfNone o P
if_none None P holds = holds refl
if_none (Some f) P holds = tt

module _ (interfaces : List Interface) (modules : List ModuleTree) where
  pub found_more : (best new : Option (Fault CheckCause)) (i : ℕ) (m : ModuleTree) (left : List ModuleTree) → (before : Found interfaces modules best i (m ∷ left))
      → new ≡ least_from rank best (module_faults interfaces modules i m before.all) → Found interfaces modules new (i + 1) left
  found_more best new i m left before is =
      let own = module_faults interfaces modules i m before.all in
      let e : i + 1 ≡ suc i = omega arith in
      record {
        all = before.all ++ own;
        least = is ∙ ap (λ b. least_from rank b own) before.least ∙ sym (least_more rank None before.all own);
        whole = ap (λ k. before.all ++ own ++ modules_faults interfaces modules (before.all ++ own) k left) e ∙ append_assoc before.all own (modules_faults interfaces modules (before.all ++ own) (suc i) left) ∙ before.whole;
      }

  pub found_whole : (best : Option (Fault CheckCause)) (i : ℕ) → Found interfaces modules best i [] → best ≡ least_from rank None (faults interfaces modules)
  found_whole best i found = found.least ∙ ap (least_from rank None) (sym (append-nil found.all) ∙ found.whole)

  -- the state of a module in whose head nothing is wrong
  pub state_in_range : (i : ℕ) (m : ModuleTree) → head_faults interfaces modules i m ≡ [] → AreVariablesInRange m.variables
  state_in_range i m clean =
      let types = unknown_place interfaces modules i m in
      let shapes = forms interfaces modules i m in
      let outer = parameters_of (interface interfaces modules i m) in
      variables_in_range written_out types shapes 0 outer m.variables
      (none_in _ (variables_faults written_out types shapes 0 outer m.variables) (none_in _ (state_faults types shapes outer m) clean).0).1

  -- and few variables
  pub state_few : (i : ℕ) (m : ModuleTree) → head_faults interfaces modules i m ≡ [] → variables_parts written_out (forms interfaces modules i m) 0 m.variables ≤ most_parts
  state_few i m clean =
      let types = unknown_place interfaces modules i m in
      let shapes = forms interfaces modules i m in
      let outer = parameters_of (interface interfaces modules i m) in
      variables_few types shapes 0 outer m.variables (none_in _ (variables_faults written_out types shapes 0 outer m.variables) (none_in _ (state_faults types shapes outer m) clean).0).1 (omega arith)

  -- a module without a fault isn't one too many
  pub not_too_many : (best new : Option (Fault CheckCause)) (i : ℕ) (m : ModuleTree) (left : List ModuleTree) → (before : Found interfaces modules best i left) → new ≡ least_from rank best (module_faults interfaces modules i m before.all) → new ≡ None → (i == most_modules) ≡ false
  not_too_many best new i m left before is none =
      let (earlier, own) = nothing_found best (module_faults interfaces modules i m before.all) (sym is ∙ none) in
      (module_clean interfaces modules i m before.all (no_least rank before.all (sym before.least ∙ earlier)) own).few

-- one module more that is meant
pub meant_more : (interfaces : List Interface) (modules : List ModuleTree) (i : ℕ) (m : ModuleTree) (left : List ModuleTree) (made : List ModuleMeant) (one : ModuleMeant) (whole : List ModuleMeant)
    → one ≡ module_meant interfaces modules i m → made ++ modules_meant interfaces modules i (m ∷ left) ≡ whole → (made ++ one ∷ []) ++ modules_meant interfaces modules (i + 1) left ≡ whole
meant_more interfaces modules i m left made one whole is before =
    let e : i + 1 ≡ suc i = omega arith in
    append_assoc made (one ∷ []) (modules_meant interfaces modules (i + 1) left)
    ∙ ap (λ x. made ++ x ∷ modules_meant interfaces modules (i + 1) left) is
    ∙ ap (λ k. made ++ module_meant interfaces modules i m ∷ modules_meant interfaces modules k left) e ∙ before
