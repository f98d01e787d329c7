-- No two roots reach a module where no second root does.
use Rattle.std.proofs.Common.{◌≡◌, ℕ, zero, suc, ◌+◌, ◌<◌, ◌≤◌, Bool, true, false, cond, List, [], ◌∷◌, ◌++◌, refl, sym, ◌∙◌, ap, subst, arith, Option, Some, None, ◌⊎◌, inl, inr, eq-eqb}
use Rattle.std.specs.Prelude.{◌==◌, ◌&&◌, ◌||◌, slice_get, Contains}
use Rattle.std.specs.List.{list_any}
use Rattle.std.proofs.lemmas.Bool.{cases_lt, cases_eq}
use Rattle.std.proofs.lemmas.List.Elements.{Contains-append_left, Contains-append_right}
use Rattle.circus_fault.proofs.Items.{contains_first}
use Rattle.circus_lang.specs.ModuleTree.{ModuleTree}
use Rattle.circus_check.specs.Naming.{is_root}
use Rattle.circus_check.specs.Meaning.{import_numbers}
use Rattle.circus_check.specs.Reach.{Shared, imports_of, reaches_below, reaches, roots_below, only, first_root, shared_or, or_shared, shared_below, shared_at}
use Rattle.circus_check.proofs.Reaching.{by_numbers, none_above, settled}
use Rattle.circus_check.proofs.Declared.{contains_cases}

any_there : (test : ℕ → Bool) (xs : List ℕ) (x : ℕ) → Contains xs x → test x ≡ true → list_any test xs ≡ true
any_there test [] x (k, below, is) passes = absurd (omega arith)
any_there test (y ∷ ys) x there passes = by (contains_cases y ys x there) (λ later. any_there test ys x later passes)
  where
    or_true : (b : Bool) → (b || true) ≡ true
    or_true true = refl
    or_true false = refl

    by : (y ≡ x) ⊎ Contains ys x → (Contains ys x → list_any test ys ≡ true) → (test y || list_any test ys) ≡ true
    by (inl same) others = rw (ap test same ∙ passes) refl
    by (inr later) others = rw (others later) (or_true (test y))

-- a module reaches itself
pub reaches_itself : (modules : List ModuleTree) (n : ℕ) → reaches modules n n ≡ true
reaches_itself modules n =
    let e : n + 1 ≡ suc n = omega arith in
    ap (λ k. reaches_below modules k n n) e ∙ rw (eq-eqb n n refl) refl

-- and what its imports reach
pub reaches_through : (modules : List ModuleTree) (n k j : ℕ) → Contains (import_numbers modules n (imports_of (slice_get modules n))) k → k < n → reaches modules k j ≡ true → reaches modules n j ≡ true
reaches_through modules n k j among below is =
    let e : n + 1 ≡ suc n = omega arith in
    let there : reaches_below modules n k j ≡ true = settled modules n k j below ∙ is in
    let any = by_numbers (reaches_below modules n) modules n (imports_of (slice_get modules n)) j ∙ any_there (λ i. reaches_below modules n i j) (import_numbers modules n (imports_of (slice_get modules n))) k among there in
    ap (λ i. reaches_below modules i n j) e ∙ rw (eq-eqb n n refl) (rw any (or_true (n == j)))
  where
    or_true : (b : Bool) → (b || true) ≡ true
    or_true true = refl
    or_true false = refl

-- it reaches no later one
pub reaches_down : (modules : List ModuleTree) (i j : ℕ) → reaches modules i j ≡ true → j ≤ i
reaches_down modules i j is = by (cases_lt i j)
  where
    by : (i < j) ⊎ (j ≤ i) → j ≤ i
    by (inl above) = absurd (let none : reaches modules i j ≡ false = none_above modules (i + 1) i j (omega arith) in cc)
    by (inr within) = within

-- ---- roots

none_of : (a b : Option Shared) → or_shared a b ≡ None → (a ≡ None) × (b ≡ None)
none_of None b is = (refl, is)
none_of (Some s) b is = absurd (cc)

-- where a root shares nothing, it isn't the second of a lower module
first_none : (modules : List ModuleTree) (second j k : ℕ) → shared_below modules second k ≡ None → j < k → first_root modules second j ≡ None
first_none modules second j zero none below = absurd (omega arith)
first_none modules second j (suc k) none below = by (cases_eq j k) (none_of (shared_below modules second k) (shared_or (first_root modules second k) k None) none) (λ earlier less. first_none modules second j k earlier less)
  where
    no_root : (o : Option ℕ) → shared_or o k None ≡ None → o ≡ None
    no_root None is = refl
    no_root (Some r) is = absurd (cc)

    by : (j ≡ k) ⊎ (j ≡ k → ⊥) → (shared_below modules second k ≡ None) × (shared_or (first_root modules second k) k None ≡ None) → (shared_below modules second k ≡ None → j < k → first_root modules second j ≡ None) → first_root modules second j ≡ None
    by (inl e) both lower = ap (first_root modules second) e ∙ no_root (first_root modules second k) both.1
    by (inr ne) both lower = lower both.0 (omega (arith, ne))

-- at most one root below a number reaches a module
abbrev One : List ModuleTree → ℕ → ℕ → Type 0
One modules n j = (roots_below modules n j ≡ []) ⊎ ((r : ℕ) × (roots_below modules n j ≡ r ∷ []) × (j ≤ r) × (r < n))

one_root : (modules : List ModuleTree) (n j : ℕ) → ((s : ℕ) → s < n → shared_at modules s ≡ None) → One modules n j
one_root modules zero j none = inl refl
one_root modules (suc n) j none = by (is_root (slice_get modules n) && reaches modules n j) refl (one_root modules n j (λ s below. none s (omega (arith, below))))
  where
    own : Bool → List ℕ
    own b = cond b (n ∷ []) []

    right : (a b : Bool) → (a && b) ≡ true → b ≡ true
    right true b is = is
    right false b is = absurd (cc)

    by : (b : Bool) → (is_root (slice_get modules n) && reaches modules n j) ≡ b → One modules n j → One modules (suc n) j
    by false is (inl empty) = inl (ap (λ c. roots_below modules n j ++ own c) is ∙ ap (λ rs. rs ++ []) empty)
    by false is (inr (r, alone, above, below)) = inr (r, ap (λ c. roots_below modules n j ++ own c) is ∙ ap (λ rs. rs ++ []) alone, above, omega (arith, below))
    by true is (inl empty) = inr (n, ap (λ c. roots_below modules n j ++ own c) is ∙ ap (λ rs. rs ++ n ∷ []) empty, reaches_down modules n j (right (is_root (slice_get modules n)) (reaches modules n j) is), omega arith)
    by true is (inr (r, alone, above, below)) =
        let first : first_root modules n j ≡ Some r = ap (λ c. cond c (only (roots_below modules n j)) None) is ∙ ap only alone in
        let no_first : first_root modules n j ≡ None = first_none modules n j n (none n (omega arith)) (omega (arith, above, below)) in
        absurd (cc)

-- a root that reaches it is among them
among_roots : (modules : List ModuleTree) (n r j : ℕ) → r < n → (is_root (slice_get modules r) && reaches modules r j) ≡ true → Contains (roots_below modules n j) r
among_roots modules zero r j below is = absurd (omega arith)
among_roots modules (suc n) r j below is = by (cases_eq r n) (λ less. among_roots modules n r j less is)
  where
    own : ℕ → List ℕ
    own k = cond (is_root (slice_get modules k) && reaches modules k j) (k ∷ []) []

    by : (r ≡ n) ⊎ (r ≡ n → ⊥) → (r < n → Contains (roots_below modules n j) r) → Contains (roots_below modules n j ++ own n) r
    by (inl e) lower = subst (λ k. Contains (roots_below modules n j ++ own k) r) e (Contains-append_right (roots_below modules n j) (own r) r (subst (λ b. Contains (cond b (r ∷ []) []) r) (sym is) (contains_first r [])))
    by (inr ne) lower = Contains-append_left (roots_below modules n j) (own n) r (lower (omega (arith, ne, below)))

pub same_root : (modules : List ModuleTree) (n r s j : ℕ) → ((k : ℕ) → k < n → shared_at modules k ≡ None) → r < n → s < n → is_root (slice_get modules r) ≡ true → is_root (slice_get modules s) ≡ true
    → reaches modules r j ≡ true → reaches modules s j ≡ true → r ≡ s
same_root modules n r s j none r_below s_below r_root s_root r_reaches s_reaches = by (one_root modules n j none)
  where
    r_among : Contains (roots_below modules n j) r
    r_among = among_roots modules n r j r_below (rw r_root r_reaches)

    s_among : Contains (roots_below modules n j) s
    s_among = among_roots modules n s j s_below (rw s_root s_reaches)

    none_among : (x : ℕ) → Contains [] x → ⊥
    none_among x (k, below, is) = omega arith

    only_one : (t x : ℕ) → (t ≡ x) ⊎ Contains [] x → t ≡ x
    only_one t x (inl same) = same
    only_one t x (inr none) = absurd (none_among x none)

    is : (t x : ℕ) → roots_below modules n j ≡ t ∷ [] → Contains (roots_below modules n j) x → t ≡ x
    is t x alone among = only_one t x (contains_cases t [] x (subst (λ rs. Contains rs x) alone among))

    by : One modules n j → r ≡ s
    by (inl empty) = absurd (none_among r (subst (λ rs. Contains rs r) empty r_among))
    by (inr (t, alone, above, below)) = sym (is t r alone r_among) ∙ is t s alone s_among
