-- What is told of the modules at a place, one by one.
use Rattle.std.proofs.Common.{◌≡◌, ℕ, suc, ◌+◌, ◌<◌, ◌≤◌, Bool, true, false, cond, List, [], length, take, drop, refl, sym, ◌∙◌, ap, arith, Option, Some, None, ◌⊎◌, inl, inr, eq-eqb, ne_eqb}
use Rattle.std.specs.Prelude.{slice_get, unwrap_or, ◌==◌}
use Rattle.std.proofs.lemmas.Bool.{cases_lt}
use Rattle.std.proofs.lemmas.List.{drop_all, length-take}
use Rattle.std.proofs.lemmas.Option.{same_Some, slice_get-get_or}
use Rattle.circus_statement.specs.StatementTree.{StatementTree}
use Rattle.circus_idl.specs.declared.interface.Procedure.{Procedure}
use Rattle.circus_idl.specs.declared.interface.Interface.{Interface}
use Rattle.circus_lang.specs.ModuleTree.{ModuleTree, ProcedureOf}
use Rattle.circus_check.specs.declared.reach.Shared.{Shared as Found}
use Rattle.circus_check.specs.Answer.{or_else, lacks, SharedBy, shared_by, shares}
use Rattle.circus_check.specs.Faults.{lacking_of, first_missing}
use Rattle.circus_limits.specs.Limits.{most_modules}
use Rattle.circus_check.specs.Reach.{Shared, shared_at}
use Rattle.circus_check.specs.Scope.{implemented_by}
use Rattle.circus_check.specs.Seen.Programs.{order_of}
use Rattle.circus_check.specs.Seen.Rows.{AreShares}
use Rattle.circus_check.proofs.ModulesFound.{drop_taken}

-- where nothing is told of a module, or it isn't at the place
pub untold : {X : Type 0} (at place : ℕ) (o : Option X) → (at ≡ place → ⊥) ⊎ (o ≡ None) → cond (at == place) o None ≡ None
untold at place o (inl differ) = ap (λ b. cond b o None) (ne_eqb at place differ)
untold at place o (inr none) = by (at == place)
  where
    by : (b : Bool) → cond b o None ≡ None
    by true = none
    by false = refl

pub told : {X : Type 0} (at place : ℕ) (o : Option X) (x : X) → at ≡ place → o ≡ Some x → cond (at == place) o None ≡ Some x
told at place o x same is = ap (λ b. cond b o None) (eq-eqb at place same) ∙ is

past : (modules : List ModuleTree) (i : ℕ) → 33 ≤ i → drop i (take (suc most_modules) modules) ≡ []
past modules i above = drop_all i (take (suc most_modules) modules) (omega (arith, length-take (suc most_modules) modules, above))

-- ---- what modules lack

-- by the order of the interface
pub lacked_by : (o : Option Interface) (order : List Procedure) (procedures : List (ProcedureOf StatementTree)) → Some order ≡ order_of o → lacking_of order procedures ≡ first_missing o procedures
lacked_by None order procedures is = absurd (cc)
lacked_by (Some i) order procedures is = ap (λ ps. lacking_of ps procedures) (same_Some order i.procedures is)

pub none_lacked : (o : Option Interface) (procedures : List (ProcedureOf StatementTree)) → None ≡ order_of o → None ≡ first_missing o procedures
none_lacked None procedures is = refl
none_lacked (Some i) procedures is = absurd (cc)

module _ (interfaces : List Interface) (modules : List ModuleTree) (place : ℕ) where
  abbrev pub lacks_from : ℕ → Option Procedure
  lacks_from i = lacks interfaces place (drop i (take (suc most_modules) modules))

  pub lacks_passed : (i : ℕ) (m : ModuleTree) → slice_get modules i ≡ Some m → (i < 33 → cond (m.name.at == place) (first_missing (implemented_by interfaces m.interface) m.procedures) None ≡ None) → lacks_from (i + 1) ≡ lacks_from i
  lacks_passed i m there none = by (cases_lt i 33)
    where
      by : (i < 33) ⊎ (33 ≤ i) → lacks_from (i + 1) ≡ lacks_from i
      by (inl below) =
          let left = drop (i + 1) (take (suc most_modules) modules) in
          sym (ap (lacks interfaces place) (drop_taken modules (suc most_modules) i m below there) ∙ ap (λ o. or_else o (lacks interfaces place left)) (none below))
      by (inr above) = ap (lacks interfaces place) (past modules (i + 1) (omega (arith, above)) ∙ sym (past modules i above))

  pub lacks_here : (i : ℕ) (m : ModuleTree) (p : Procedure) → slice_get modules i ≡ Some m → i < 33 → cond (m.name.at == place) (first_missing (implemented_by interfaces m.interface) m.procedures) None ≡ Some p → lacks_from i ≡ Some p
  lacks_here i m p there below is =
      let left = drop (i + 1) (take (suc most_modules) modules) in
      ap (lacks interfaces place) (drop_taken modules (suc most_modules) i m below there) ∙ ap (λ o. or_else o (lacks interfaces place left)) is

  pub lacks_end : (i : ℕ) → length modules ≤ i → lacks_from i ≡ None
  lacks_end i end = ap (lacks interfaces place) (drop_all i (take (suc most_modules) modules) (omega (arith, length-take (suc most_modules) modules, end)))

-- ---- what roots share

-- an option that stands in a list, or none past its end
pub read_some : {X : Type 0} (o : Option (Option X)) (x : X) → unwrap_or o None ≡ Some x → o ≡ Some (Some x)
read_some None x is = absurd (cc)
read_some (Some o) x is = ap Some is

pub read_none : {X : Type 0} (o : Option (Option X)) → unwrap_or o None ≡ None → (o ≡ None) ⊎ (o ≡ Some None)
read_none None is = inl refl
read_none (Some o) is = inr (ap Some is)

pub unshared_at : (shares : List (Option Found)) (modules : List ModuleTree) (n : ℕ) → AreShares shares modules → n < length modules → n < 33 → unwrap_or (slice_get shares n) None ≡ None → shared_at modules n ≡ None
unshared_at shares modules n are within below none = by (read_none (slice_get shares n) none)
  where
    inside : n < length shares
    inside = omega (arith, are.as_many, length-take (suc most_modules) modules, within, below)

    by : (slice_get shares n ≡ None) ⊎ (slice_get shares n ≡ Some None) → shared_at modules n ≡ None
    by (inl absent) = absurd (let e = sym absent ∙ slice_get-get_or shares n None inside in cc)
    by (inr is) = sym (are.each n None is)

module _ (modules : List ModuleTree) (place : ℕ) where
  abbrev pub shares_from : ℕ → Option SharedBy
  shares_from i = shares modules place i (drop i (take (suc most_modules) modules))

  pub shares_passed : (i : ℕ) (m : ModuleTree) → slice_get modules i ≡ Some m → (i < 33 → (m.name.at ≡ place → ⊥) ⊎ (shared_at modules i ≡ None)) → shares_from (i + 1) ≡ shares_from i
  shares_passed i m there none = by (cases_lt i 33)
    where
      unshared : (m.name.at ≡ place → ⊥) ⊎ (shared_at modules i ≡ None) → (m.name.at ≡ place → ⊥) ⊎ (shared_by i (shared_at modules i) ≡ None)
      unshared (inl differ) = inl differ
      unshared (inr is) = inr (ap (shared_by i) is)

      by : (i < 33) ⊎ (33 ≤ i) → shares_from (i + 1) ≡ shares_from i
      by (inl below) =
          let left = drop (i + 1) (take (suc most_modules) modules) in
          let e : i + 1 ≡ suc i = omega arith in
          ap (λ k. shares modules place k left) e
          ∙ sym (ap (shares modules place i) (drop_taken modules (suc most_modules) i m below there) ∙ ap (λ o. or_else o (shares modules place (suc i) left)) (untold m.name.at place (shared_by i (shared_at modules i)) (unshared (none below))))
      by (inr above) = ap (shares modules place (i + 1)) (past modules (i + 1) (omega (arith, above))) ∙ sym (ap (shares modules place i) (past modules i above))

  pub shares_here : (i : ℕ) (m : ModuleTree) (s : Shared) → slice_get modules i ≡ Some m → i < 33 → m.name.at ≡ place → shared_at modules i ≡ Some s → shares_from i ≡ Some (record { shared = s; second = i })
  shares_here i m s there below same is =
      let left = drop (i + 1) (take (suc most_modules) modules) in
      ap (shares modules place i) (drop_taken modules (suc most_modules) i m below there)
      ∙ ap (λ o. or_else o (shares modules place (suc i) left)) (told m.name.at place (shared_by i (shared_at modules i)) (record { shared = s; second = i }) same (ap (shared_by i) is))

  pub shares_end : (i : ℕ) → length modules ≤ i → shares_from i ≡ None
  shares_end i end = ap (shares modules place i) (drop_all i (take (suc most_modules) modules) (omega (arith, length-take (suc most_modules) modules, end)))
