-- A tree map seen as a finite map.
use Rattle.std.specs.Prelude.{IsSome, is_some}
use Rattle.std.proofs.Common.{◌≡◌, subst, Bool, true, false, cond, List, [], ◌∷◌, Option, Some, None, length, arith, refl, sym, ap, ◌∙◌}
use Rattle.std.specs.declared.cmp.Ordering.{Ordering}
use Rattle.std.specs.Cmp.{IsTotalOrder, eq_by_cmp_equiv}
use Rattle.std.specs.Ordering.{eq_by_cmp, is_eq}
use Rattle.std.specs.Map.{lookup}
use Rattle.std.specs.BTreeMap.{is_at}
use Rattle.std.specs.Map.{keys_of}
use Rattle.std.specs.declared.cmp.Ordering.TheVariants.{Less, Equal, Greater}
use Rattle.std.specs.List.Sorted.{IsStrictlySortedBy}
use Rattle.std.proofs.lemmas.Map.Keys.{sorted_head, sorted_tail}
use Rattle.std.specs.FinMap.{contains_key, get_tied, entries, entries-insert, put, len, len-entries, len-empty, empty, FinMap, IsAntisymmetric, find, get, insert, remove, from_entries, get-from_entries, get-insert, get-remove, same_map}

nothing : {X : Type 0} (o : Option X) → is_some o ≡ false → o ≡ None
nothing None h = refl
nothing (Some x) h = absurd cc

back : {X : Type 0} (b : Bool) (v x : Option X) → (b ≡ true → x ≡ None) → cond b None (cond b v x) ≡ x
back true v x h = sym (h refl)
back false v x h = refl

pub is_equal : (r : Ordering) → is_eq r ≡ true → r ≡ Equal
is_equal Less e = absurd cc
is_equal Equal e = refl
is_equal Greater e = absurd cc

pub turned : {K : Type 0} (R : K → K → Ordering) (o : IsTotalOrder R) (q k : K) → eq_by_cmp R q k ≡ true → R k q ≡ Equal
turned R o q k e = is_equal (R k q) (sym ((eq_by_cmp_equiv o).symm q k) ∙ e)

module _ {K X : Type 0} (R : K → K → Ordering) (o : IsTotalOrder R) where
  pub find_entry : (es : List (K × X)) (q : K) → find R q es ≡ lookup (is_at (R q)) es
  find_entry [] q = refl
  find_entry (e ∷ es) q = ap (cond (is_at (R q) e.0) (Some e.1)) (find_entry es q)

  -- what a map has under a key
  pub get_entry : (es : List (K × X)) (q : K) → get (from_entries {R = R} es) q ≡ lookup (is_at (R q)) es
  get_entry es q = get-from_entries o es q ∙ find_entry es q

  module _ (exact : IsAntisymmetric R) where
    -- entries that differ by one that was put there
    pub inserted : (es fs : List (K × X)) (k : K) (v : X) → ((q : K) → lookup (is_at (R q)) fs ≡ cond (is_at (R k) q) (Some v) (lookup (is_at (R q)) es)) → from_entries {R = R} fs ≡ insert (from_entries es) k v
    inserted es fs k v h = same_map o exact _ _ (λ q.
        get_entry fs q ∙ h q ∙ ap (λ b. cond b (Some v) (lookup (is_at (R q)) es)) ((eq_by_cmp_equiv o).symm k q)
        ∙ sym (get-insert o (from_entries es) k v q ∙ ap (cond (is_at (R q) k) (Some v)) (get_entry es q)))

    -- entries that differ by one that was taken out
    pub removed : (es fs : List (K × X)) (k : K) → ((q : K) → lookup (is_at (R q)) fs ≡ cond (is_at (R k) q) None (lookup (is_at (R q)) es)) → from_entries {R = R} fs ≡ remove (from_entries es) k
    removed es fs k h = same_map o exact _ _ (λ q.
        get_entry fs q ∙ h q ∙ ap (λ b. cond b None (lookup (is_at (R q)) es)) ((eq_by_cmp_equiv o).symm k q)
        ∙ sym (get-remove o (from_entries es) k q ∙ ap (cond (is_at (R q) k) None) (get_entry es q)))

  -- a map has nothing under a key that no entry has
  pub absent : (m : FinMap R X) (es : List (K × X)) (q : K) → from_entries {R = R} es ≡ m → lookup (is_at (R q)) es ≡ None → IsSome (get m q) → ⊥
  absent m es q is none some =
      let nothing : get m q ≡ None = ap (λ n. get n q) (sym is) ∙ get_entry es q ∙ none in
      let wrong : IsSome {T = X} None = subst (λ r. IsSome r) nothing some in
      absurd cc

  -- what was put at a free place is taken out again
  pub put_back : IsAntisymmetric R → (m : FinMap R X) (k : K) (v : X) → contains_key m k ≡ false → remove (insert m k v) k ≡ m
  put_back exact m k v free = same_map o exact _ _ (λ q.
      get-remove o (insert m k v) k q
      ∙ ap (cond (eq_by_cmp R q k) None) (get-insert o m k v q)
      ∙ back (eq_by_cmp R q k) (Some v) (get m q) (λ e. get_tied o m k q (turned R o q k e) ∙ nothing _ free))

  no_entries : (es : List (K × X)) → length es ≡ 0 → es ≡ []
  no_entries [] e = refl
  no_entries (x ∷ es) e = absurd (omega arith)

  empty_entries : entries (empty {X = X} {R = R}) ≡ []
  empty_entries = no_entries _ (sym (len-entries (empty {X = X} {R = R})) ∙ len-empty R X)

  first_put : (e : K × X) (es : List (K × X)) → IsStrictlySortedBy R (keys_of (e ∷ es)) → put R e.0 e.1 es ≡ e ∷ es
  first_put e [] sorted = refl
  first_put e (f ∷ fs) sorted = let low : R e.0 f.0 ≡ Less = (sorted_head R e.0 (keys_of (f ∷ fs)) sorted).0 in rw low refl

  -- entries in order are those of the map that they make
  pub entries_of : (es : List (K × X)) → IsStrictlySortedBy R (keys_of es) → entries (from_entries {R = R} es) ≡ es
  entries_of [] sorted = empty_entries
  entries_of (e ∷ es) sorted =
      entries-insert o (from_entries es) e.0 e.1
      ∙ ap (put R e.0 e.1) (entries_of es (sorted_tail R e.0 (keys_of es) sorted))
      ∙ first_put e es sorted

  pub len_of : (es : List (K × X)) → IsStrictlySortedBy R (keys_of es) → len (from_entries {R = R} es) ≡ length es
  len_of es sorted = len-entries (from_entries {R = R} es) ∙ ap length (entries_of es sorted)
