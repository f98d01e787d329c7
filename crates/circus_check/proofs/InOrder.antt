-- The procedures of a module in the order of its interface.
use Rattle.std.proofs.Common.{◌≡◌, ◌≢◌, ℕ, ◌+◌, ◌≤◌, Bool, true, false, cond, List, [], ◌∷◌, ◌++◌, map, refl, sym, ◌∙◌, ap, subst, arith, Some, None}
use Rattle.std.specs.Prelude.{bytes_eq, ◌||◌, Contains}
use Rattle.std.specs.List.{AllByRecursion, sum_by}
use Rattle.std.proofs.lemmas.List.Sums.{sum_by-cons, sum_by-append}
use Rattle.std.proofs.lemmas.Slice.Eq.{bytes_eq-Decides}
use Rattle.circus_statement.specs.StatementTree.{StatementTree}
use Rattle.circus_fault.proofs.Items.{contains_first, contains_later}
use Rattle.circus_type.specs.Distinct.{AreDistinct}
use Rattle.circus_idl.specs.declared.interface.Procedure.{Procedure}
use Rattle.circus_lang.specs.ModuleTree.{ProcedureOf}
use Rattle.circus_check.specs.Faults.{has_procedure, lacking_of}
use Rattle.circus_check.specs.Meaning.{body_named, in_order}

abbrev Written : Type 0
Written = ProcedureOf StatementTree

abbrev pub procedure_names : List Procedure → List (List ℕ)
procedure_names ps = map (λ (p : Procedure). p.name) ps

same_name : (a b : List ℕ) → bytes_eq a b ≡ true → a ≡ b
same_name a b is = (bytes_eq-Decides a b).0 is

pub other_name : (a b : List ℕ) → a ≢ b → bytes_eq a b ≡ false
other_name a b differ = by (bytes_eq a b) refl
  where
    by : (t : Bool) → bytes_eq a b ≡ t → t ≡ false
    by true is = absurd (differ (same_name a b is))
    by false is = refl

-- the procedure of a name that a module has
pub record Has (procedures : List Written) (name : List ℕ) : Type 0 where
  pub body : Written
  pub alone : body_named procedures name ≡ body ∷ []
  pub named : body.name.name ≡ name
  pub there : Contains procedures body

pub has_body : (procedures : List Written) (name : List ℕ) → has_procedure procedures name ≡ true → Has procedures name
has_body [] name is = absurd (cc)
has_body (q ∷ qs) name is = by (bytes_eq q.name.name name) refl (λ later. has_body qs name later)
  where
    by : (b : Bool) → bytes_eq q.name.name name ≡ b → (has_procedure qs name ≡ true → Has qs name) → Has (q ∷ qs) name
    by true same others = record { body = q; alone = ap (λ b. cond b (q ∷ []) (body_named qs name)) same; named = same_name q.name.name name same; there = contains_first q qs }
    by false other others =
        let later : has_procedure qs name ≡ true = ap (λ b. b || has_procedure qs name) (sym other) ∙ is in
        let h = others later in
        record { body = h.body; alone = ap (λ b. cond b (q ∷ []) (body_named qs name)) other ∙ h.alone; named = h.named; there = contains_later q qs h.body h.there }

-- nothing is lacking
pub none_lacks : (p : Procedure) (ps : List Procedure) (procedures : List Written) → lacking_of (p ∷ ps) procedures ≡ None → (has_procedure procedures p.name ≡ true) × (lacking_of ps procedures ≡ None)
none_lacks p ps procedures is = by (has_procedure procedures p.name) refl is
  where
    by : (b : Bool) → has_procedure procedures p.name ≡ b → cond b (lacking_of ps procedures) (Some p) ≡ None → (has_procedure procedures p.name ≡ true) × (lacking_of ps procedures ≡ None)
    by true has none = (has, none)
    by false has none = absurd (cc)

-- ---- sums over them, of what each procedure comes to

module _ (weight : Written → ℕ) where
  none_named : (ps : List Procedure) → in_order ps [] ≡ []
  none_named [] = refl
  none_named (p ∷ ps) = none_named ps

  -- a procedure whose name is none of theirs
  unnamed : (q : Written) (qs : List Written) (ps : List Procedure) → AllByRecursion (λ n. q.name.name ≢ n) (procedure_names ps) → in_order ps (q ∷ qs) ≡ in_order ps qs
  unnamed q qs [] others = refl
  unnamed q qs (p ∷ ps) others =
      ap (λ b. cond b (q ∷ []) (body_named qs p.name) ++ in_order ps (q ∷ qs)) (other_name q.name.name p.name others.0)
      ∙ ap (λ xs. body_named qs p.name ++ xs) (unnamed q qs ps others.1)

  one_more : (q : Written) (qs : List Written) (ps : List Procedure) → AreDistinct (procedure_names ps) → sum_by weight (in_order ps (q ∷ qs)) ≤ weight q + sum_by weight (in_order ps qs)
  one_more q qs [] distinct = omega arith
  one_more q qs (p ∷ ps) distinct = by (bytes_eq q.name.name p.name) refl (one_more q qs ps distinct.1)
    where
      by : (b : Bool) → bytes_eq q.name.name p.name ≡ b → sum_by weight (in_order ps (q ∷ qs)) ≤ weight q + sum_by weight (in_order ps qs) → sum_by weight (cond b (q ∷ []) (body_named qs p.name) ++ in_order ps (q ∷ qs)) ≤ weight q + sum_by weight (body_named qs p.name ++ in_order ps qs)
      by true same rest =
          let others = subst (λ n. AllByRecursion (λ m. n ≢ m) (procedure_names ps)) (sym (same_name q.name.name p.name same)) distinct.0 in
          omega (arith, sum_by-cons weight q (in_order ps (q ∷ qs)), ap (sum_by weight) (unnamed q qs ps others), sum_by-append weight (body_named qs p.name) (in_order ps qs))
      by false other rest =
          omega (arith, sum_by-append weight (body_named qs p.name) (in_order ps (q ∷ qs)), sum_by-append weight (body_named qs p.name) (in_order ps qs), rest)

  pub no_more : (ps : List Procedure) (procedures : List Written) → AreDistinct (procedure_names ps) → sum_by weight (in_order ps procedures) ≤ sum_by weight procedures
  no_more ps [] distinct = omega (arith, ap (sum_by weight) (none_named ps))
  no_more ps (q ∷ qs) distinct = omega (arith, one_more q qs ps distinct, no_more ps qs distinct, sum_by-cons weight q qs)
