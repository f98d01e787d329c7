-- Bodies that aren't looked into don't change which fault is the least.
use Rattle.std.proofs.Common.{◌≡◌, ℕ, suc, ◌<◌, Bool, false, List, [], ◌∷◌, ◌++◌, Option, Some, None, refl, sym, ◌∙◌, ap, arith, append_assoc}
use Rattle.std.specs.Prelude.{Contains, nat_lt, ◌==◌, ◌&&◌, ◌||◌}
use Rattle.std.proofs.lemmas.Bool.Decides.{nat_tests}
use Rattle.std.proofs.lemmas.List.{append-nil}
use Rattle.circus_statement.specs.StatementTree.{StatementTree}
use Rattle.circus_fault.specs.declared.fault.Fault.{Fault}
use Rattle.circus_fault.specs.Least.{least_from}
use Rattle.circus_fault.proofs.Items.{contains_first, contains_later}
use Rattle.circus_fault.proofs.LeastIs.{least_is, no_least}
use Rattle.circus_fault.proofs.LeastMore.{least_more}
use Rattle.circus_type.specs.Inside.{no_name, also_name}
use Rattle.circus_type.specs.Scale.{written_out}
use Rattle.circus_resolve.specs.declared.cause.CheckCause.{CheckCause}
use Rattle.circus_resolve.specs.Causes.{rank}
use Rattle.circus_resolve.specs.Faults.{Faults}
use Rattle.circus_idl.specs.declared.interface.Interface.{Interface}
use Rattle.circus_lang.specs.ModuleTree.{ModuleTree, ProcedureOf}
use Rattle.circus_check.specs.Faults.{forms, variables_parts, procedure_faults, body_faults, unless_behind, procedures_faults, head_faults, module_faults, modules_faults}
use Rattle.circus_check.specs.Plain.{AreBefore, procedures_all, module_all, modules_all, ProceduresInOrder, IsInOrder, ModulesInOrder}

abbrev Same : Faults → Faults → Type 0
Same s a = least_from rank None s ≡ least_from rank None a

same_more : (s a xs : Faults) → Same s a → Same (s ++ xs) (a ++ xs)
same_more s a xs is = least_more rank None s xs ∙ ap (λ b. least_from rank b xs) is ∙ sym (least_more rank None a xs)

empty_same : (s a : Faults) → Same s a → s ≡ [] → a ≡ []
empty_same s a same is = no_least rank a (sym same ∙ ap (λ fs. least_from rank None fs) is)

regroup : (s w r a v q : Faults) → Same ((s ++ w) ++ r) ((a ++ v) ++ q) → Same (s ++ (w ++ r)) (a ++ (v ++ q))
regroup s w r a v q is = ap (λ fs. least_from rank None fs) (sym (append_assoc s w r)) ∙ is ∙ ap (λ fs. least_from rank None fs) (append_assoc a v q)

later : (p q r t : ℕ) → p < q → (nat_lt q p || ((q == p) && nat_lt t r)) ≡ false
later p q r t is = grind (arith, nat_tests)

-- a fault that stands before others is the least of them
stays : (f : Fault CheckCause) (b : Faults) → ((g : Fault CheckCause) → Contains b g → f.place < g.place) → least_from rank (Some f) b ≡ Some f
stays f [] before = refl
stays f (g ∷ b) before = rw (later f.place g.place (rank f.cause) (rank g.cause) (before g (contains_first g b))) (stays f b (λ h there. before h (contains_later g b h there)))

behind : (a b : Faults) → AreBefore a b → (a ≡ [] → ⊥) → (o : Option (Fault CheckCause)) → least_from rank None a ≡ o → least_from rank None (a ++ b) ≡ least_from rank None a
behind a b before some None is = absurd (some (no_least rank a is))
behind a b before some (Some f) is =
    least_more rank None a b ∙ ap (λ o. least_from rank o b) is ∙ stays f b (λ g there. before f g (least_is rank a f is).found there) ∙ sym is

skip : (s a h b : Faults) → Same s a → AreBefore (a ++ h) b → Same (s ++ (h ++ unless_behind (s ++ h) b)) (a ++ (h ++ b))
skip s a h b same before = by_found (s ++ h) refl
  where
    by_found : (f : Faults) → s ++ h ≡ f → Same (s ++ (h ++ unless_behind f b)) (a ++ (h ++ b))
    by_found [] is = same_more s a (h ++ b) same
    by_found (f ∷ fs) is =
        let heads = same_more s a h same in
        let some : a ++ h ≡ [] → ⊥ = λ none. (let gone : f ∷ fs ≡ [] = sym is ∙ empty_same (a ++ h) (s ++ h) (sym heads) none in absurd (cc)) in
        ap (λ xs. least_from rank None (s ++ xs)) (append-nil h) ∙ heads ∙ sym (behind (a ++ h) b before some (least_from rank None (a ++ h)) refl) ∙ ap (λ xs. least_from rank None xs) (append_assoc a h b)

module _ (interfaces : List Interface) (modules : List ModuleTree) where
  procedures_same : (i : ℕ) (m : ModuleTree) (s a : Faults) (parts : ℕ) (earlier : List ℕ → Bool) (ps : List (ProcedureOf StatementTree)) → Same s a → ProceduresInOrder interfaces modules i m a parts earlier ps
      → Same (s ++ procedures_faults interfaces modules i m s parts earlier ps) (a ++ procedures_all interfaces modules i m parts earlier ps)
  procedures_same i m s a parts earlier [] same order = same_more s a [] same
  procedures_same i m s a parts earlier (p ∷ ps) same order =
      let h = procedure_faults interfaces modules i m parts earlier p in
      let b = body_faults interfaces modules i m p in
      let w = h ++ unless_behind (s ++ h) b in
      let more = variables_parts written_out (forms interfaces modules i m) parts p.body.variables in
      let names = also_name p.name.name earlier in
      regroup s w (procedures_faults interfaces modules i m (s ++ w) more names ps) a (h ++ b) (procedures_all interfaces modules i m more names ps)
      (procedures_same i m (s ++ w) (a ++ (h ++ b)) more names ps (skip s a h b same order.0) order.1)

  module_same : (i : ℕ) (m : ModuleTree) (s a : Faults) → Same s a → IsInOrder interfaces modules i m a → Same (s ++ module_faults interfaces modules i m s) (a ++ module_all interfaces modules i m)
  module_same i m s a same order =
      let h = head_faults interfaces modules i m in
      let parts = variables_parts written_out (forms interfaces modules i m) 0 m.variables in
      regroup s h (procedures_faults interfaces modules i m (s ++ h) parts no_name m.procedures) a h (procedures_all interfaces modules i m parts no_name m.procedures)
      (procedures_same i m (s ++ h) (a ++ h) parts no_name m.procedures (same_more s a h same) order)

  pub modules_same : (i : ℕ) (ms : List ModuleTree) (s a : Faults) → Same s a → ModulesInOrder interfaces modules a i ms → Same (s ++ modules_faults interfaces modules s i ms) (a ++ modules_all interfaces modules i ms)
  modules_same i [] s a same order = same_more s a [] same
  modules_same i (m ∷ ms) s a same order =
      let w = module_faults interfaces modules i m s in
      let v = module_all interfaces modules i m in
      regroup s w (modules_faults interfaces modules (s ++ w) (suc i) ms) a v (modules_all interfaces modules (suc i) ms)
      (modules_same (suc i) ms (s ++ w) (a ++ v) (module_same i m s a same order.0) order.1)
