-- Which modules reach which, row by row, and which of them two roots reach.
use Rattle.std.proofs.Common.{◌≡◌, ℕ, zero, suc, ◌+◌, ◌<◌, ◌≤◌, Bool, true, false, cond, List, [], ◌∷◌, ◌++◌, length, refl, sym, ◌∙◌, ap, subst, arith, append_assoc, length-append, Option, Some, None, ◌⊎◌, inl, inr, ne_eqb, eq-eqb}
use Rattle.std.specs.Prelude.{nat_lt, ◌==◌, ◌&&◌, ◌||◌, is_some, slice_get, option_to_list}
use Rattle.std.specs.List.{list_any, AllByRecursion}
use Rattle.std.proofs.lemmas.Bool.{cases_eq, cases_lt}
use Rattle.std.proofs.lemmas.Bool.Decides.{nat_tests}
use Rattle.std.proofs.lemmas.List.{append-nil}
use Rattle.std.proofs.lemmas.Option.{slice_get_past}
use Rattle.circus_value.proofs.PartLemmas.{slice_get-append_left, slice_get-append_right}
use Rattle.circus_syntax.specs.declared.named.Named.{Named}
use Rattle.circus_lang.specs.ModuleTree.{ModuleTree}
use Rattle.circus_type.proofs.Items.{all_appended}
use Rattle.circus_check.specs.Naming.{Import, good, forward, no_module, import_of, is_root}
use Rattle.circus_check.specs.Meaning.{import_number, import_numbers}
use Rattle.circus_check.specs.Reach.{by_import, by_imports, imports_of, reaches_below, reaches, roots_below, only, first_root, shared_or, or_shared, Shared, shared_below, shared_at}
use Rattle.circus_check.specs.Seen.Rows.{row_says}

-- what imports reach is what the modules of their numbers reach
pub by_numbers : (reach : ℕ → ℕ → Bool) (modules : List ModuleTree) (i : ℕ) (ns : List Named) (j : ℕ) → by_imports reach modules i ns j ≡ list_any (λ k. reach k j) (import_numbers modules i ns)
by_numbers reach modules i [] j = refl
by_numbers reach modules i (n ∷ ns) j = more (import_of modules i n) (by_numbers reach modules i ns j)
  where
    more : (x : Import) → by_imports reach modules i ns j ≡ list_any (λ k. reach k j) (import_numbers modules i ns) → (by_import reach x j || by_imports reach modules i ns j) ≡ list_any (λ k. reach k j) (import_number x ++ import_numbers modules i ns)
    more (good k) is = ap (λ b. reach k j || b) is
    more forward is = is
    more no_module is = is

none_by : (reach : ℕ → ℕ → Bool) (modules : List ModuleTree) (i : ℕ) (ns : List Named) (j : ℕ) → ((k : ℕ) → reach k j ≡ false) → by_imports reach modules i ns j ≡ false
none_by reach modules i [] j none = refl
none_by reach modules i (n ∷ ns) j none = more (import_of modules i n) (none_by reach modules i ns j none)
  where
    more : (x : Import) → by_imports reach modules i ns j ≡ false → (by_import reach x j || by_imports reach modules i ns j) ≡ false
    more (good k) is = rw (none k) is
    more forward is = is
    more no_module is = is

-- none of the modules below a number reaches one from there on
pub none_above : (modules : List ModuleTree) (n i j : ℕ) → n ≤ j → reaches_below modules n i j ≡ false
none_above modules zero i j h = refl
none_above modules (suc n) i j h =
    more (i == n) (ne_eqb n j (λ e. absurd (omega (arith, e)))) (none_by (reaches_below modules n) modules n (imports_of (slice_get modules n)) j (λ k. none_above modules n k j (omega arith))) (none_above modules n i j (omega arith))
  where
    more : (b : Bool) → (n == j) ≡ false → by_imports (reaches_below modules n) modules n (imports_of (slice_get modules n)) j ≡ false → reaches_below modules n i j ≡ false
        → cond b ((n == j) || by_imports (reaches_below modules n) modules n (imports_of (slice_get modules n)) j) (reaches_below modules n i j) ≡ false
    more true differ none earlier = rw differ none
    more false differ none earlier = earlier

-- what a module reaches stays the same while more modules are added
pub settled : (modules : List ModuleTree) (n i j : ℕ) → i < n → reaches_below modules n i j ≡ reaches modules i j
settled modules zero i j h = absurd (omega arith)
settled modules (suc n) i j h = more (cases_eq i n) (λ below. settled modules n i j below)
  where
    more : (i ≡ n) ⊎ (i ≡ n → ⊥) → (i < n → reaches_below modules n i j ≡ reaches modules i j) → reaches_below modules (suc n) i j ≡ reaches modules i j
    more (inl e) earlier = let same : suc n ≡ i + 1 = omega (arith, e) in ap (λ k. reaches_below modules k i j) same
    more (inr ne) earlier = rw (ne_eqb i n ne) (earlier (omega (arith, ne)))

-- the row of the next module
pub row_is : (modules : List ModuleTree) (n : ℕ) (says : ℕ → ℕ → Bool) → ((i j : ℕ) → says i j ≡ reaches_below modules n i j) → (ns : List Named) (to : ℕ)
    → ((n == to) || (nat_lt to n && list_any (λ k. says k to) (import_numbers modules n ns))) ≡ ((n == to) || by_imports (reaches_below modules n) modules n ns to)
row_is modules n says is ns to = ap (λ b. (n == to) || b) (more (nat_lt to n) refl)
  where
    same : list_any (λ k. says k to) (import_numbers modules n ns) ≡ by_imports (reaches_below modules n) modules n ns to
    same = ap (λ (reach : ℕ → Bool). list_any reach (import_numbers modules n ns)) (λ x k. is k to x) ∙ sym (by_numbers (reaches_below modules n) modules n ns to)

    more : (b : Bool) → nat_lt to n ≡ b → (b && list_any (λ k. says k to) (import_numbers modules n ns)) ≡ by_imports (reaches_below modules n) modules n ns to
    more true below = same
    more false above = sym (none_by (reaches_below modules n) modules n ns to (λ k. none_above modules n k to (grind (arith, nat_tests))))

-- one row more
pub row_told : (modules : List ModuleTree) (rows : List (List Bool)) (row : List Bool) → ((i j : ℕ) → row_says (slice_get rows i) j ≡ reaches_below modules (length rows) i j)
    → ((to : ℕ) → row_says (Some row) to ≡ ((length rows == to) || by_imports (reaches_below modules (length rows)) modules (length rows) (imports_of (slice_get modules (length rows))) to))
    → (i j : ℕ) → row_says (slice_get (rows ++ row ∷ []) i) j ≡ reaches_below modules (suc (length rows)) i j
row_told modules rows row old new i j = more (cases_eq i (length rows))
  where
    n : ℕ
    n = length rows

    beyond : i ≡ n → slice_get (rows ++ row ∷ []) i ≡ Some row
    beyond e = let same : i ≡ n + 0 = omega (arith, e) in ap (λ k. slice_get (rows ++ row ∷ []) k) same ∙ slice_get-append_right rows (row ∷ []) 0

    others : (i ≡ n → ⊥) → (i < n) ⊎ (n ≤ i) → slice_get (rows ++ row ∷ []) i ≡ slice_get rows i
    others ne (inl below) = slice_get-append_left rows (row ∷ []) i below
    others ne (inr above) = slice_get_past (rows ++ row ∷ []) i (simp length-append (omega (arith, ne))) ∙ sym (slice_get_past rows i above)

    more : (i ≡ n) ⊎ (i ≡ n → ⊥) → row_says (slice_get (rows ++ row ∷ []) i) j ≡ reaches_below modules (suc n) i j
    more (inl e) = ap (λ o. row_says o j) (beyond e) ∙ new j ∙ sym (rw (eq-eqb i n e) refl)
    more (inr ne) = ap (λ o. row_says o j) (others ne (cases_lt i n)) ∙ old i j ∙ sym (rw (ne_eqb i n ne) refl)

-- the rows with that of the next module
pub rows_more : (modules : List ModuleTree) (rows new : List (List Bool)) (row : List Bool) (n : ℕ) (goods : List ℕ) (ns : List Named) → n ≡ length rows → ns ≡ imports_of (slice_get modules (length rows)) → goods ≡ import_numbers modules n ns
    → ((i j : ℕ) → row_says (slice_get rows i) j ≡ reaches_below modules (length rows) i j)
    → ((to : ℕ) → row_says (Some row) to ≡ ((n == to) || (nat_lt to n && list_any (λ k. row_says (slice_get rows k) to) goods)))
    → new ≡ rows ++ row ∷ [] → (i j : ℕ) → row_says (slice_get new i) j ≡ reaches_below modules (length new) i j
rows_more modules rows new row n goods ns n_is ns_is goods_are old told new_is i j =
    let own = imports_of (slice_get modules (length rows)) in
    let are : goods ≡ import_numbers modules (length rows) own = goods_are ∙ ap (import_numbers modules n) ns_is ∙ ap (λ k. import_numbers modules k own) n_is in
    let its = λ (to : ℕ). told to ∙ (λ x. (n_is x == to) || (nat_lt to (n_is x) && list_any (λ k. row_says (slice_get rows k) to) (are x))) ∙ row_is modules (length rows) (λ k m. row_says (slice_get rows k) m) old own to in
    let long : suc (length rows) ≡ length new = omega (arith, ap length new_is, length-append rows (row ∷ [])) in
    ap (λ rs. row_says (slice_get rs i) j) new_is ∙ row_told modules rows row old its i j ∙ ap (λ k. reaches_below modules k i j) long

-- ---- roots

-- one number more
pub roots_step : (modules : List ModuleTree) (n j : ℕ) (b : Bool) → (is_root (slice_get modules n) && reaches modules n j) ≡ b → roots_below modules (suc n) j ≡ roots_below modules n j ++ cond b (n ∷ []) []
roots_step modules n j b is = ap (λ c. roots_below modules n j ++ cond c (n ∷ []) []) is

pub roots_more : (modules : List ModuleTree) (n m j : ℕ) → n ≤ m → (more : List ℕ) × (roots_below modules m j ≡ roots_below modules n j ++ more)
roots_more modules n zero j h = let e : 0 ≡ n = omega arith in ([], ap (λ k. roots_below modules k j) e ∙ sym (append-nil (roots_below modules n j)))
roots_more modules n (suc m) j h = by (cases_eq n (suc m)) (λ within. roots_more modules n m j within)
  where
    by : (n ≡ suc m) ⊎ (n ≡ suc m → ⊥) → (n ≤ m → (more : List ℕ) × (roots_below modules m j ≡ roots_below modules n j ++ more)) → (more : List ℕ) × (roots_below modules (suc m) j ≡ roots_below modules n j ++ more)
    by (inl e) earlier = ([], ap (λ k. roots_below modules k j) (sym e) ∙ sym (append-nil (roots_below modules n j)))
    by (inr ne) earlier =
        let (more, is) = earlier (omega (arith, ne)) in
        let own = cond (is_root (slice_get modules m) && reaches modules m j) (m ∷ []) [] in
        (more ++ own, ap (λ rs. rs ++ own) is ∙ append_assoc (roots_below modules n j) more own)

-- where two roots below a number reach a module, not one alone does of those below a later number
pub not_only : (modules : List ModuleTree) (r n m j : ℕ) → roots_below modules (suc n) j ≡ r ∷ n ∷ [] → suc n ≤ m → only (roots_below modules m j) ≡ None
not_only modules r n m j two h = let (more, is) = roots_more modules (suc n) m j h in ap only (is ∙ ap (λ rs. rs ++ more) two)

-- two of what is tested
pub both_true : (a b : Bool) → true ≡ a → true ≡ b → (a && b) ≡ true
both_true a b own other = rw (sym own) (sym other)

pub either_false : (a b : Bool) → (false ≡ a) ⊎ (false ≡ b) → (a && b) ≡ false
either_false a b (inl own) = rw (sym own) refl
either_false true b (inr other) = sym other
either_false false b (inr other) = refl

-- where one root is kept already, and this is another
pub second_root : (modules : List ModuleTree) (first : Option ℕ) (n m j : ℕ) → (is_root (slice_get modules n) && reaches modules n j) ≡ true → roots_below modules n j ≡ option_to_list first → is_some first ≡ true → n < m → None ≡ only (roots_below modules m j)
second_root modules None n m j own before some below = absurd (cc)
second_root modules (Some r) n m j own before some below = sym (not_only modules r n m j (roots_step modules n j true own ∙ ap (λ rs. rs ++ n ∷ []) before) (omega (arith, below)))

-- where none is
pub root_kept : (modules : List ModuleTree) (first : Option ℕ) (n j : ℕ) → (is_root (slice_get modules n) && reaches modules n j) ≡ true → roots_below modules n j ≡ option_to_list first → is_some first ≡ false → roots_below modules (n + 1) j ≡ n ∷ []
root_kept modules None n j own before none =
    let e : n + 1 ≡ suc n = omega arith in
    ap (λ k. roots_below modules k j) e ∙ roots_step modules n j true own ∙ ap (λ rs. rs ++ n ∷ []) before
root_kept modules (Some r) n j own before none = absurd (cc)

-- a module that is no root, or doesn't reach it
pub root_passed : (modules : List ModuleTree) (first : Option ℕ) (n j : ℕ) → (is_root (slice_get modules n) && reaches modules n j) ≡ false → roots_below modules n j ≡ option_to_list first → roots_below modules (n + 1) j ≡ option_to_list first
root_passed modules first n j own before =
    let e : n + 1 ≡ suc n = omega arith in
    ap (λ k. roots_below modules k j) e ∙ roots_step modules n j false own ∙ append-nil (roots_below modules n j) ∙ before

only_of : (P : ℕ → Type 0) (rs : List ℕ) (r : ℕ) → AllByRecursion P rs → only rs ≡ Some r → P r
only_of P [] r all is = absurd (cc)
only_of P (s ∷ []) r all is = let e : s ≡ r = cc in subst P e all.0
only_of P (s ∷ t ∷ rs) r all is = absurd (cc)

roots_are_below : (modules : List ModuleTree) (n m j : ℕ) → n ≤ m → AllByRecursion (λ r. r < m) (roots_below modules n j)
roots_are_below modules zero m j h = tt
roots_are_below modules (suc n) m j h =
    all_appended (λ r. r < m) (roots_below modules n j) (cond (is_root (slice_get modules n) && reaches modules n j) (n ∷ []) []) (roots_are_below modules n m j (omega arith)) (own (is_root (slice_get modules n) && reaches modules n j))
  where
    own : (b : Bool) → AllByRecursion (λ r. r < m) (cond b (n ∷ []) [])
    own true = (omega arith, tt)
    own false = tt

pub only_below : (modules : List ModuleTree) (n j r : ℕ) → only (roots_below modules n j) ≡ Some r → r < n
only_below modules n j r is = only_of (λ k. k < n) (roots_below modules n j) r (roots_are_below modules n n j (omega arith)) is

-- ---- what a second root shares

pub none_shared : (modules : List ModuleTree) (second j : ℕ) → is_root (slice_get modules second) ≡ false → shared_below modules second j ≡ None
none_shared modules second zero no_root = refl
none_shared modules second (suc j) no_root =
    ap (λ o. or_shared o (shared_or (first_root modules second j) j None)) (none_shared modules second j no_root)
    ∙ ap (λ b. shared_or (cond (b && reaches modules second j) (only (roots_below modules second j)) None) j None) no_root

-- one module more, of which it is or isn't the second root
pub shared_step : (modules : List ModuleTree) (second j : ℕ) (o : Option ℕ) → shared_below modules second j ≡ None → first_root modules second j ≡ o → shared_below modules second (suc j) ≡ shared_or o j None
shared_step modules second j o none is = ap (λ x. or_shared x (shared_or (first_root modules second j) j None)) none ∙ ap (λ x. shared_or x j None) is

-- the lowest module stays so
pub shared_kept : (modules : List ModuleTree) (second j k : ℕ) (s : Shared) → shared_below modules second j ≡ Some s → j ≤ k → shared_below modules second k ≡ Some s
shared_kept modules second j zero s is h = let e : 0 ≡ j = omega arith in ap (shared_below modules second) e ∙ is
shared_kept modules second j (suc k) s is h = by (cases_eq j (suc k)) (λ within. shared_kept modules second j k s is within)
  where
    by : (j ≡ suc k) ⊎ (j ≡ suc k → ⊥) → (j ≤ k → shared_below modules second k ≡ Some s) → shared_below modules second (suc k) ≡ Some s
    by (inl e) earlier = ap (shared_below modules second) (sym e) ∙ is
    by (inr ne) earlier = ap (λ x. or_shared x (shared_or (first_root modules second k) k None)) (earlier (omega (arith, ne)))

-- where it is the second root of this module, and of none before
pub shared_found : (modules : List ModuleTree) (second j r : ℕ) → (is_root (slice_get modules second) && reaches modules second j) ≡ true → shared_below modules second j ≡ None → only (roots_below modules second j) ≡ Some r → j < second
    → shared_at modules second ≡ Some (record { «module» = j; first = r })
shared_found modules second j r own none first below =
    let here = shared_step modules second j (Some r) none (ap (λ b. cond b (only (roots_below modules second j)) None) own ∙ first) in
    shared_kept modules second (suc j) second (record { «module» = j; first = r }) here (omega (arith, below))

-- where it isn't
pub shared_passed : (modules : List ModuleTree) (second j : ℕ) → first_root modules second j ≡ None → shared_below modules second j ≡ None → shared_below modules second (j + 1) ≡ None
shared_passed modules second j no_first none =
    let e : j + 1 ≡ suc j = omega arith in
    ap (shared_below modules second) e ∙ shared_step modules second j None none no_first

pub no_first : (modules : List ModuleTree) (second j : ℕ) → None ≡ only (roots_below modules second j) → first_root modules second j ≡ None
no_first modules second j none = by (is_root (slice_get modules second) && reaches modules second j)
  where
    by : (b : Bool) → cond b (only (roots_below modules second j)) None ≡ None
    by true = sym none
    by false = refl

pub not_second : (modules : List ModuleTree) (second j : ℕ) → (is_root (slice_get modules second) && reaches modules second j) ≡ false → first_root modules second j ≡ None
not_second modules second j own = ap (λ b. cond b (only (roots_below modules second j)) None) own
