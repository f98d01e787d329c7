-- How many numbers below one pass.
use Rattle.std.proofs.Common.{◌≡◌, ◌≢◌, ℕ, zero, suc, ◌+◌, ◌<◌, ◌≤◌, Bool, true, false, cond, eqb, refl, sym, ap, subst, ◌∙◌, inl, inr, arith}
use Rattle.std.proofs.lemmas.Bool.{cases_lt, ne_eqb}
use Rattle.std.proofs.lemmas.Bool.Decides.{eqb_tells}
use Rattle.circus_pair.specs.Window.{count_below}

pub count_alike : (f g : ℕ → Bool) (n : ℕ) → ((k : ℕ) → k < n → f k ≡ g k) → count_below f n ≡ count_below g n
unfolding count_below
count_alike f g zero h = refl
count_alike f g (suc n) h =
    ap (λ b. cond b (count_below f n + 1) (count_below f n)) (h n (omega arith))
    ∙ ap (λ c. cond (g n) (c + 1) c) (count_alike f g n (λ k le. h k (omega arith)))

count_next : (f : ℕ → Bool) (n : ℕ) → count_below f n ≤ count_below f (suc n)
unfolding count_below
count_next f n = elim (f n) as (λ b. count_below f n ≤ cond b (count_below f n + 1) (count_below f n)) [ true ↦ omega arith | false ↦ omega arith ]

pub count_rises : (f : ℕ → Bool) (a b : ℕ) → a ≤ b → count_below f a ≤ count_below f b
count_rises f a zero le = (let same : a ≡ 0 = omega arith in subst (λ n. count_below f n ≤ count_below f 0) (sym same) (omega arith))
count_rises f a (suc b) le = elim (cases_lt b a) [
  | inl last ↦ (let same : a ≡ suc b = omega arith in subst (λ n. count_below f n ≤ count_below f (suc b)) (sym same) (omega arith))
  | inr before ↦ (let here : count_below f a ≤ count_below f b = count_rises f a b before in let more : count_below f b ≤ count_below f (suc b) = count_next f b in omega arith)
]

-- numbers that don't pass count nothing
pub count_upto : (f : ℕ → Bool) (a b : ℕ) → a ≤ b → ((k : ℕ) → a ≤ k → k < b → f k ≡ false) → count_below f b ≡ count_below f a
unfolding count_below
count_upto f a zero le h = (let same : a ≡ 0 = omega arith in ap (count_below f) (sym same))
count_upto f a (suc b) le h = elim (cases_lt b a) [
  | inl end ↦ (let same : suc b ≡ a = omega arith in ap (count_below f) same)
  | inr before ↦ ap (λ x. cond x (count_below f b + 1) (count_below f b)) (h b before (omega arith)) ∙ count_upto f a b before (λ k low high. h k low (omega arith))
]

-- with one number that passes more
pub count_passed : (f : ℕ → Bool) (n : ℕ) → f n ≡ true → count_below f (n + 1) ≡ count_below f n + 1
unfolding count_below
count_passed f n h =
    let next : n + 1 ≡ suc n = omega arith in
    ap (count_below f) next ∙ ap (λ b. cond b (count_below f n + 1) (count_below f n)) h

-- where one number passes no more
pub count_without : (f g : ℕ → Bool) (c n : ℕ) → c < n → f c ≡ true → g c ≡ false → ((k : ℕ) → eqb k c ≡ false → g k ≡ f k) → count_below f n ≡ count_below g n + 1
unfolding count_below
count_without f g c zero le was is other = absurd (omega arith)
count_without f g c (suc n) le was is other = elim (eqb_tells n c) [
  | inl same ↦ (let at : n ≡ c = same.1 in
      let before : count_below f n ≡ count_below g n = count_alike f g n (λ k less. sym (other k (ne_eqb k c (λ e. absurd (omega arith))))) in
      ap (λ b. cond b (count_below f n + 1) (count_below f n)) (ap f at ∙ was)
      ∙ ap (λ (x : ℕ). x + 1) before
      ∙ sym (ap (λ b. cond b (count_below g n + 1) (count_below g n) + 1) (ap g at ∙ is)))
  | inr differ ↦ (let ne : n ≢ c = differ.1 in
      let before : count_below f n ≡ count_below g n + 1 = count_without f g c n (omega arith) was is other in
      ap (λ b. cond b (count_below f n + 1) (count_below f n)) (sym (other n differ.0))
      ∙ ap (λ x. cond (g n) (x + 1) x) before
      ∙ moved (g n) (count_below g n))
]
  where
    moved : (b : Bool) (x : ℕ) → cond b (x + 1 + 1) (x + 1) ≡ cond b (x + 1) x + 1
    moved true x = refl
    moved false x = refl

pub count_none : (f : ℕ → Bool) (n : ℕ) → ((k : ℕ) → k < n → f k ≡ false) → count_below f n ≡ 0
unfolding count_below
count_none f zero h = refl
count_none f (suc n) h = ap (λ b. cond b (count_below f n + 1) (count_below f n)) (h n (omega arith)) ∙ count_none f n (λ k le. h k (omega arith))

pub none_counted : (f : ℕ → Bool) (n k : ℕ) → count_below f n ≡ 0 → k < n → f k ≡ false
unfolding count_below
none_counted f zero k none less = absurd (omega arith)
none_counted f (suc n) k none less =
    elim (f n) as (λ b. f n ≡ b → cond b (count_below f n + 1) (count_below f n) ≡ 0 → f k ≡ false) [
      | true ↦ λ here more. absurd (omega arith)
      | false ↦ λ here before. elim (eqb_tells k n) [
        | inl same ↦ ap f same.1 ∙ here
        | inr differ ↦ (let ne : k ≢ n = differ.1 in none_counted f n k before (omega arith))
      ]
    ] refl none
