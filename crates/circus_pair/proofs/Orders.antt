-- What there is for the numbers below one, in order.
use Rattle.std.proofs.Common.{◌≡◌, ◌≢◌, ℕ, zero, suc, ◌<◌, ◌≤◌, T, cond, ltb, List, [], ◌∷◌, ◌++◌, append_assoc, Option, None, Some, refl, sym, ap, ◌∙◌, inl, inr, arith}
use Rattle.std.specs.Prelude.{flat_map}
use Rattle.std.specs.Ordering.{nat_cmp}
use Rattle.std.specs.FinMap.{FinMap, get, entries, entries_sorted, get-entries, find, is_sorted}
use Rattle.std.specs.FinMap.Entries.{below_all}
use Rattle.std.proofs.lemmas.List.{append-nil}
use Rattle.std.proofs.lemmas.Bool.{cases_lt, ne_eqb, lt-ltb, le-ltb}
use Rattle.std.proofs.lemmas.Bool.Decides.{eqb_tells}
use Rattle.circus_pair.specs.Sending.{in_order}
use Rattle.circus_exchange.proofs.Ties.{equal, nat_ties}
use Rattle.circus_exchange.proofs.Rising.{left, right, rising}

pub order_none : (f : ℕ → List (List ℕ)) (n : ℕ) → ((k : ℕ) → k < n → f k ≡ []) → in_order f n ≡ []
unfolding in_order
order_none f zero h = refl
order_none f (suc n) h = ap (λ d. d ++ f n) (order_none f n (λ k le. h k (omega arith))) ∙ h n (omega arith)

pub order_alike : (f g : ℕ → List (List ℕ)) (n : ℕ) → ((k : ℕ) → k < n → f k ≡ g k) → in_order f n ≡ in_order g n
unfolding in_order
order_alike f g zero h = refl
order_alike f g (suc n) h = ap (λ d. d ++ f n) (order_alike f g n (λ k le. h k (omega arith))) ∙ ap (λ d. in_order g n ++ d) (h n (omega arith))

-- nothing is added by numbers that have nothing
pub order_upto : (f : ℕ → List (List ℕ)) (a b : ℕ) → a ≤ b → ((k : ℕ) → a ≤ k → k < b → f k ≡ []) → in_order f b ≡ in_order f a
unfolding in_order
order_upto f a zero le h = (let same : a ≡ 0 = omega arith in ap (in_order f) (sym same))
order_upto f a (suc b) le h = elim (cases_lt b a) [
  | inl end ↦ (let same : suc b ≡ a = omega arith in ap (in_order f) same)
  | inr before ↦ ap (λ d. in_order f b ++ d) (h b before (omega arith)) ∙ append-nil (in_order f b) ∙ order_upto f a b before (λ k low high. h k low (omega arith))
]

-- one number alone has something
pub order_one : (f : ℕ → List (List ℕ)) (n k : ℕ) → k < n → ((j : ℕ) → j < n → j ≢ k → f j ≡ []) → in_order f n ≡ f k
unfolding in_order
order_one f zero k less h = absurd (omega arith)
order_one f (suc n) k less h = elim (eqb_tells n k) [
  | inl same ↦ (let at : n ≡ k = same.1 in ap (λ d. d ++ f n) (order_none f n (λ j le. h j (omega arith) (λ e. absurd (omega arith)))) ∙ ap f at)
  | inr differ ↦ (let ne : n ≢ k = differ.1 in ap (λ d. in_order f n ++ d) (h n (omega arith) differ.1) ∙ append-nil (in_order f n) ∙ order_one f n k (omega arith) (λ j le other. h j (omega arith) other))
]

-- with something put at a number below which there was nothing
order_put : (f g : ℕ → List (List ℕ)) (k n : ℕ) → ((j : ℕ) → j ≤ k → g j ≡ []) → ((j : ℕ) → j ≢ k → f j ≡ g j) → in_order f n ≡ cond (ltb k n) (f k) [] ++ in_order g n
unfolding in_order
order_put f g k zero none other = sym (ap (λ b. cond b (f k) [] ++ []) (le-ltb k 0 (omega arith)))
order_put f g k (suc n) none other = elim (cases_lt n k) [
  | inl before ↦
      order_none f (suc n) (λ j le. other j (λ e. absurd (omega arith)) ∙ none j (omega arith))
      ∙ sym (order_none g (suc n) (λ j le. none j (omega arith)))
      ∙ ap (λ b. cond b (f k) [] ++ (in_order g n ++ g n)) (sym (le-ltb k (suc n) (omega arith)))
  | inr from ↦ elim (eqb_tells n k) [
    | inl same ↦ (let at : n ≡ k = same.1 in
        ap (λ d. d ++ f n) (order_none f n (λ j le. other j (λ e. absurd (omega arith)) ∙ none j (omega arith)))
        ∙ ap f at ∙ sym (append-nil (f k))
        ∙ ap (λ d. f k ++ d) (sym (order_none g (suc n) (λ j le. none j (omega arith))))
        ∙ ap (λ b. cond b (f k) [] ++ (in_order g n ++ g n)) (sym (lt-ltb k (suc n) (omega arith))))
    | inr differ ↦ (let ne : n ≢ k = differ.1 in
        ap (λ d. d ++ f n) (order_put f g k n none other)
        ∙ ap (λ d. (cond (ltb k n) (f k) [] ++ in_order g n) ++ d) (other n differ.1)
        ∙ append_assoc (cond (ltb k n) (f k) []) (in_order g n) (g n)
        ∙ ap (λ b. cond b (f k) [] ++ (in_order g n ++ g n)) (lt-ltb k n (omega arith) ∙ sym (lt-ltb k (suc n) (omega arith))))
  ]
]

-- ---- the entries of a map

-- nothing stands below the first key
none_below : (k : ℕ) (es : List (ℕ × List ℕ)) → T (below_all nat_cmp k es) → (q : ℕ) → q ≤ k → find nat_cmp q es ≡ None
none_below k [] h q le = refl
none_below k (e ∷ es) h q le =
    let less : k < e.0 = rising k e.0 (left _ _ h) in
    ap (λ b. cond b (Some e.1) (find nat_cmp q es)) (nat_ties q e.0 ∙ ne_eqb q e.0 (λ same. absurd (omega arith)))
    ∙ none_below k es (right _ _ h) q le

abbrev pub found : (ℕ × List ℕ → List (List ℕ)) → ℕ → Option (List ℕ) → List (List ℕ)
found f number None = []
found f number (Some message) = f (number, message)

entries_in_order : (f : ℕ × List ℕ → List (List ℕ)) (limit : ℕ) (es : List (ℕ × List ℕ)) → T (is_sorted nat_cmp es) → flat_map (λ e. cond (ltb e.0 limit) (f e) []) es ≡ in_order (λ n. found f n (find nat_cmp n es)) limit
entries_in_order f limit [] sorted = sym (order_none _ limit (λ k le. refl))
entries_in_order f limit (e ∷ es) sorted =
    let here : found f e.0 (find nat_cmp e.0 (e ∷ es)) ≡ f e = ap (λ b. found f e.0 (cond b (Some e.1) (find nat_cmp e.0 es))) (nat_ties e.0 e.0 ∙ equal e.0) in
    ap (λ d. cond (ltb e.0 limit) (f e) [] ++ d) (entries_in_order f limit es (right _ _ sorted))
    ∙ ap (λ x. cond (ltb e.0 limit) x [] ++ in_order (λ n. found f n (find nat_cmp n es)) limit) (sym here)
    ∙ sym (order_put (λ n. found f n (find nat_cmp n (e ∷ es))) (λ n. found f n (find nat_cmp n es)) e.0 limit
    (λ j le. ap (found f j) (none_below e.0 es (left _ _ sorted) j le))
    (λ j other. ap (λ b. found f j (cond b (Some e.1) (find nat_cmp j es))) (nat_ties j e.0 ∙ ne_eqb j e.0 other)))

-- a map's entries give what its numbers give, in order
pub map_in_order : (f : ℕ × List ℕ → List (List ℕ)) (limit : ℕ) (m : FinMap nat_cmp (List ℕ)) → flat_map (λ e. cond (ltb e.0 limit) (f e) []) (entries m) ≡ in_order (λ n. found f n (get m n)) limit
map_in_order f limit m =
    entries_in_order f limit (entries m) (entries_sorted m)
    ∙ order_alike _ _ limit (λ k le. ap (found f k) (sym (get-entries m k)))
