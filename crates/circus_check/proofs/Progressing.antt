-- What stands of the modules so far, with one module more.
use Rattle.std.proofs.Common.{◌≡◌, ℕ, suc, ◌+◌, ◌<◌, ◌≤◌, Bool, true, false, List, [], ◌∷◌, ◌++◌, length, map, take, drop, refl, sym, ◌∙◌, ap, subst, arith, length-append, Option, Some, None, ◌⊎◌, inl, inr}
use Rattle.std.specs.Prelude.{slice_get, option_map, IfNone, ◌==◌}
use Rattle.std.proofs.lemmas.Bool.{cases_order, eqb-false, false≢true}
use Rattle.std.proofs.lemmas.List.{drop_all, length-take, append-nil}
use Rattle.std.proofs.lemmas.Option.{same_Some, slice_get_past}
use Rattle.circus_value.proofs.PartLemmas.{slice_get-append_left, slice_get-append_right}
use Rattle.circus_fault.specs.Least.{least_from}
use Rattle.circus_resolve.specs.Causes.{rank}
use Rattle.circus_resolve.specs.Faults.{Faults}
use Rattle.circus_lang.specs.ModuleTree.{ModuleTree}
use Rattle.circus_check.specs.declared.checking.Progress.{Progress}
use Rattle.circus_check.specs.declared.module.Program.{Program}
use Rattle.circus_check.specs.declared.reach.Shared.{Shared}
use Rattle.circus_check.specs.Faults.{module_faults, faults}
use Rattle.circus_limits.specs.Limits.{most_modules}
use Rattle.circus_check.specs.Meaning.{ModuleMeant, module_meant, modules_meant}
use Rattle.circus_check.specs.Reach.{shared_at}
use Rattle.circus_check.specs.Resolved.{module_as}
use Rattle.circus_check.specs.Seen.Programs.{modules_in, interfaces_in}
use Rattle.circus_check.specs.Seen.Progress.{Found, IsProgress}
use Rattle.circus_check.specs.Seen.Rows.{Tells, shared_as, AreShares}
use Rattle.circus_check.proofs.ModulesFound.{drop_taken, drop_whole, nothing_found, where_none, if_none, found_more, found_whole, not_too_many, meant_more}

module _ (p : Program) where
  abbrev modules : List ModuleTree
  modules = modules_in p

  abbrev whole : List ModuleMeant
  whole = modules_meant (interfaces_in p) modules 0 modules

  -- one that is tested
  pub one_more : (old new : Progress) (i : ℕ) (m : ModuleTree) (s : Option Shared) → IsProgress p old i → i ≤ 32 → slice_get modules i ≡ Some m
      → Tells new.reach modules → length new.reach.rows ≡ length old.reach.rows + 1
      → new.shares.items ≡ old.shares.items ++ s ∷ [] → option_map shared_as s ≡ shared_at modules i
      → ((fs : Faults) → old.best.fault ≡ least_from rank None fs → new.best.fault ≡ least_from rank old.best.fault (module_faults (interfaces_in p) modules i m fs))
      → (new.best.fault ≡ None → map module_as new.made ≡ map module_as old.made ++ module_meant (interfaces_in p) modules i m ∷ []) → IsProgress p new (i + 1)
  one_more old new i m s before small there told rows shares shared found made = record {
    told = told;
    rows = omega (arith, rows, before.rows, small);
    as_many = omega (arith, ap length shares, length-append old.shares.items (s ∷ []), before.as_many, small);
    shared = λ n x is. by n x (subst (λ xs. slice_get xs n ≡ Some x) shares is) (cases_order n i);
    found = found_more (interfaces_in p) modules old.best.fault new.best.fault i m left before_found (found before_found.all before_found.least);
    few = if_none new.best.fault (i + 1 ≤ 32) (λ none. fewer none (i == most_modules) refl);
    meant = if_none new.best.fault (map module_as new.made ++ modules_meant (interfaces_in p) modules (i + 1) (drop (i + 1) modules) ≡ whole) (λ none.
        ap (λ ms. ms ++ modules_meant (interfaces_in p) modules (i + 1) (drop (i + 1) modules)) (made none)
        ∙ meant_more (interfaces_in p) modules i m (drop (i + 1) modules) (map module_as old.made) (module_meant (interfaces_in p) modules i m) whole refl
        (ap (λ ms. map module_as old.made ++ modules_meant (interfaces_in p) modules i ms) (sym (drop_whole modules i m there)) ∙ where_none old.best.fault _ before.meant (none_before none)));
  }
    where
      left : List ModuleTree
      left = drop (i + 1) (take (suc most_modules) modules)

      before_found : Found (interfaces_in p) modules old.best.fault i (m ∷ left)
      before_found = subst (Found (interfaces_in p) modules old.best.fault i) (drop_taken modules (suc most_modules) i m (omega (arith, small)) there) before.found

      none_before : new.best.fault ≡ None → old.best.fault ≡ None
      none_before none = (nothing_found old.best.fault (module_faults (interfaces_in p) modules i m before_found.all) (sym (found before_found.all before_found.least) ∙ none)).0

      not_last : new.best.fault ≡ None → (i == most_modules) ≡ false
      not_last none = not_too_many (interfaces_in p) modules old.best.fault new.best.fault i m (m ∷ left) before_found (found before_found.all before_found.least) none

      fewer : new.best.fault ≡ None → (b : Bool) → (i == most_modules) ≡ b → i + 1 ≤ 32
      fewer none true is = absurd (false≢true (sym (not_last none) ∙ is))
      fewer none false is = omega (arith, small, eqb-false i most_modules is)

      long : length old.shares.items ≡ i
      long = omega (arith, before.as_many, small)

      by : (n : ℕ) (x : Option Shared) → slice_get (old.shares.items ++ s ∷ []) n ≡ Some x → (n ≡ i) ⊎ ((n < i) ⊎ (i < n)) → option_map shared_as x ≡ shared_at modules n
      by n x is (inl e) =
          let at : n ≡ length old.shares.items + 0 = omega (arith, e, long) in
          let here : Some s ≡ Some x = sym (slice_get-append_right old.shares.items (s ∷ []) 0) ∙ ap (slice_get (old.shares.items ++ s ∷ [])) (sym at) ∙ is in
          ap (option_map shared_as) (sym (same_Some s x here)) ∙ shared ∙ ap (shared_at modules) (sym e)
      by n x is (inr (inl below)) = before.shared n x (sym (slice_get-append_left old.shares.items (s ∷ []) n (omega (arith, below, long))) ∙ is)
      by n x is (inr (inr above)) =
          let past = slice_get_past (old.shares.items ++ s ∷ []) n (omega (arith, above, long, length-append old.shares.items (s ∷ []))) in
          absurd (let none : None ≡ Some x = sym past ∙ is in cc)

  -- one that is too many and isn't tested
  pub one_skipped : (progress : Progress) (i : ℕ) → IsProgress p progress i → 32 < i → IsProgress p progress (i + 1)
  one_skipped progress i before above = record {
    told = before.told;
    rows = omega (arith, before.rows, above);
    as_many = omega (arith, before.as_many, above);
    shared = before.shared;
    found = subst (Found (interfaces_in p) modules progress.best.fault (i + 1)) (sym (drop_all (i + 1) taken (omega (arith, few_taken, above)))) (record { all = nothing_left.all; least = nothing_left.least; whole = nothing_left.whole });
    few = if_none progress.best.fault (i + 1 ≤ 32) (λ none. absurd (some none));
    meant = if_none progress.best.fault _ (λ none. absurd (some none));
  }
    where
      some : progress.best.fault ≡ None → ⊥
      some none = let few : i ≤ 32 = where_none progress.best.fault (i ≤ 32) before.few none in omega (arith, few, above)

      taken : List ModuleTree
      taken = take (suc most_modules) modules

      few_taken : length taken ≤ 33
      few_taken = omega (arith, length-take (suc most_modules) modules)

      nothing_left : Found (interfaces_in p) modules progress.best.fault i []
      nothing_left = subst (Found (interfaces_in p) modules progress.best.fault i) (drop_all i taken (omega (arith, few_taken, above))) before.found

  -- all of them
  pub all_done : (progress : Progress) (i : ℕ) → IsProgress p progress i → i ≡ length modules → (progress.best.fault ≡ least_from rank None (faults (interfaces_in p) modules)) × AreShares progress.shares.items modules × IfNone progress.best.fault (map module_as progress.made ≡ whole)
  all_done progress i is end = (
    found_whole (interfaces_in p) modules progress.best.fault i (subst (Found (interfaces_in p) modules progress.best.fault i) (drop_all i (take (suc most_modules) modules) (omega (arith, length-take (suc most_modules) modules, end))) is.found),
    record { as_many = omega (arith, is.as_many, end, length-take (suc most_modules) modules); each = is.shared },
    if_none progress.best.fault _ (λ none.
        sym (append-nil (map module_as progress.made)) ∙ ap (λ ms. map module_as progress.made ++ modules_meant (interfaces_in p) modules i ms) (sym (drop_all i modules (omega (arith, end)))) ∙ where_none progress.best.fault _ is.meant none),
  )
