-- Tables that a loop fills with the imports of a module, by their names.
use Rattle.std.proofs.Common.{◌≡◌, ℕ, ◌+◌, ◌<◌, ◌⊎◌, inl, inr, Bool, true, false, cond, List, [], ◌∷◌, ◌++◌, Option, Some, None, refl, sym, ◌∙◌, ap, subst, nat_cmp, take, get_or, length}
use Rattle.std.specs.Prelude.{bytes_eq}
use Rattle.std.specs.Option.{option_or}
use Rattle.std.specs.Cmp.Lexicographic.{slice_cmp}
use Rattle.std.specs.BTreeMap.{BTreeMap, get_by}
use Rattle.std.proofs.lemmas.List.{take_more}
use Rattle.std.proofs.lemmas.Map.Text.{btree_map_updates_str}
use Rattle.std.proofs.lemmas.Slice.Eq.{bytes_eq-Decides}
use denote.Ref.{Bor}
use Rattle.circus_syntax.specs.declared.named.Named.{Named}
use Rattle.circus_lang.specs.ModuleTree.{ModuleTree}
use Rattle.circus_check.specs.Naming.{Import, import_at, import_of, module_named}
use Rattle.circus_check.specs.Scope.{import_named}
use Rattle.circus_check.proofs.Tables.{Puts}

-- what the imports so far say, and else one more
named_more : (modules : List ModuleTree) (i : ℕ) (ns : List Named) (n : Named) (name : List ℕ) → import_named modules i (ns ++ n ∷ []) name ≡ option_or (import_named modules i ns name) (cond (bytes_eq n.name name) (Some (import_of modules i n)) None)
named_more modules i [] n name = refl
named_more modules i (m ∷ ns) n name = by_test (named_more modules i ns n name) (bytes_eq m.name name)
  where
    by_test : import_named modules i (ns ++ n ∷ []) name ≡ option_or (import_named modules i ns name) (cond (bytes_eq n.name name) (Some (import_of modules i n)) None) → (b : Bool) → cond b (Some (import_of modules i m)) (import_named modules i (ns ++ n ∷ []) name) ≡ option_or (cond b (Some (import_of modules i m)) (import_named modules i ns name)) (cond (bytes_eq n.name name) (Some (import_of modules i n)) None)
    by_test rest true = refl
    by_test rest false = rest

-- an import is told by its name alone
pub named_is : (modules : List ModuleTree) (i : ℕ) (ns : List Named) (name : List ℕ) → (import_named modules i ns name ≡ None) ⊎ (import_named modules i ns name ≡ Some (import_at modules i (module_named modules name)))
named_is modules i [] name = inl refl
named_is modules i (m ∷ ns) name = by_test (named_is modules i ns name) (bytes_eq m.name name) refl
  where
    by_test : (import_named modules i ns name ≡ None) ⊎ (import_named modules i ns name ≡ Some (import_at modules i (module_named modules name))) → (b : Bool) → bytes_eq m.name name ≡ b → (cond b (Some (import_of modules i m)) (import_named modules i ns name) ≡ None) ⊎ (cond b (Some (import_of modules i m)) (import_named modules i ns name) ≡ Some (import_at modules i (module_named modules name)))
    by_test rest true is = inr (ap (λ (n : List ℕ). Some (import_at modules i (module_named modules n))) ((bytes_eq-Decides m.name name).0 is))
    by_test rest false is = rest

-- one item more
pub take_next : {X : Type 0} (xs : List X) (i : ℕ) (x : X) → i < length xs → x ≡ get_or xs i x → take (i + 1) xs ≡ take i xs ++ x ∷ []
take_next xs i x below is = take_more xs i x below ∙ ap (λ y. take i xs ++ y ∷ []) (sym is)

-- a table of the imports so far, in which each is as it should be, with one more
pub imports_put : {V : Type 0} (P : List ℕ → Option Import → Option V → Type 0) (modules : List ModuleTree) (i : ℕ) (ns more : List Named) (n : Named) (m m' : BTreeMap (Bor (List ℕ)) V) (v : V)
    → more ≡ ns ++ n ∷ [] → Puts n.name m m' v → P n.name (Some (import_of modules i n)) (Some v)
    → ((name : List ℕ) → P name (import_named modules i ns name) (get_by (λ k. slice_cmp nat_cmp name k.now) m))
    → (name : List ℕ) → P name (import_named modules i more name) (get_by (λ k. slice_cmp nat_cmp name k.now) m')
imports_put {V} P modules i ns more n m m' v grown puts this before name = by_test (bytes_eq n.name name) refl (btree_map_updates_str n.name m m' (Some v) puts name)
  where
    here : n.name ≡ name → (e : Option Import) → (e ≡ None) ⊎ (e ≡ Some (import_at modules i (module_named modules name))) → P name (option_or e (Some (import_of modules i n))) (Some v)
    here same e (inl none) = subst (λ x. P name (option_or x (Some (import_of modules i n))) (Some v)) (sym none) (subst (λ q. P q (Some (import_of modules i n)) (Some v)) same this)
    here same e (inr some) = subst (λ x. P name (option_or x (Some (import_of modules i n))) (Some v)) (sym some) (subst (λ q. P q (Some (import_at modules i (module_named modules q))) (Some v)) same this)

    none_more : (e : Option Import) → option_or e None ≡ e
    none_more None = refl
    none_more (Some x) = refl

    by_test : (b : Bool) → bytes_eq n.name name ≡ b → get_by (λ k. slice_cmp nat_cmp name k.now) m' ≡ cond b (Some v) (get_by (λ k. slice_cmp nat_cmp name k.now) m) → P name (import_named modules i more name) (get_by (λ k. slice_cmp nat_cmp name k.now) m')
    by_test true is read =
        let told = ap (λ xs. import_named modules i xs name) grown ∙ named_more modules i ns n name ∙ ap (λ b. option_or (import_named modules i ns name) (cond b (Some (import_of modules i n)) None)) is in
        subst (λ x. P name x (get_by (λ k. slice_cmp nat_cmp name k.now) m')) (sym told)
        (subst (P name (option_or (import_named modules i ns name) (Some (import_of modules i n)))) (sym read) (here ((bytes_eq-Decides n.name name).0 is) (import_named modules i ns name) (named_is modules i ns name)))
    by_test false is read =
        let told = ap (λ xs. import_named modules i xs name) grown ∙ named_more modules i ns n name ∙ ap (λ b. option_or (import_named modules i ns name) (cond b (Some (import_of modules i n)) None)) is ∙ none_more (import_named modules i ns name) in
        subst (λ x. P name x (get_by (λ k. slice_cmp nat_cmp name k.now) m')) (sym told) (subst (P name (import_named modules i ns name)) (sym read) (before name))
