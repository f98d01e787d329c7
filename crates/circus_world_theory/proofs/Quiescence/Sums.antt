-- Sums over the numbers below one.
use Rattle.std.proofs.Common.{◌≡◌, ◌≢◌, ◌⊎◌, inl, inr, ℕ, zero, suc, ◌+◌, ◌*◌, ◌<◌, ◌≤◌, Bool, true, false, ◌&&◌, ◌||◌, List, [], ◌∷◌, ◌++◌, length, refl, sym, ap, subst, ◌∙◌, arith, eq-eqb}
use Rattle.std.specs.Prelude.{slice_get, if◌then◌else◌, ◌==◌}
use Rattle.std.specs.Option.{option_map_or}
use Rattle.std.specs.List.{list_any}
use Rattle.std.proofs.Math.Nat.{mul-le-mul_right}
use Rattle.std.proofs.lemmas.Bool.{cases_lt, ne_eqb}
use Rattle.std.proofs.lemmas.Bool.Decides.{eqb_tells}
use Rattle.circus_world_theory.specs.Enough.{total}

-- 1 where a test passes
abbrev pub one : Bool → ℕ
one true = 1
one false = 0

-- a sum is at most another one that is so at each number
pub total_le : (n : ℕ) (f g : ℕ → ℕ) → ((k : ℕ) → k < n → f k ≤ g k) → total n f ≤ total n g
total_le zero f g le = omega arith
total_le (suc n) f g le =
    let rest = total_le n f g (λ k below. le k (omega (arith, below))) in
    let here = le n (omega arith) in
    omega (arith, rest, here)

pub total_same : (n : ℕ) (f g : ℕ → ℕ) → ((k : ℕ) → k < n → f k ≡ g k) → total n f ≡ total n g
total_same zero f g same = refl
total_same (suc n) f g same =
    let rest = total_same n f g (λ k below. same k (omega (arith, below))) in
    let here = same n (omega arith) in
    omega (arith, rest, here)

pub total_plus : (n : ℕ) (f g : ℕ → ℕ) → total n (λ k. f k + g k) ≡ total n f + total n g
total_plus zero f g = omega arith
total_plus (suc n) f g = (let rest = total_plus n f g in omega (arith, rest))

pub total_none : (n : ℕ) → total n (λ k. 0) ≡ 0
total_none zero = refl
total_none (suc n) = (let rest = total_none n in omega (arith, rest))

-- a sum of sums, the other way round
pub total_swap : (n m : ℕ) (f : ℕ → ℕ → ℕ) → total n (λ i. total m (f i)) ≡ total m (λ j. total n (λ i. f i j))
total_swap zero m f = sym (total_none m)
total_swap (suc n) m f =
    let rest = total_swap n m f in
    let both = total_plus m (λ j. total n (λ i. f i j)) (f n) in
    omega (arith, rest, both)

-- one of its parts is at most a sum
pub total_part : (n : ℕ) (f : ℕ → ℕ) (k : ℕ) → k < n → f k ≤ total n f
total_part zero f k below = omega (arith, below)
total_part (suc n) f k below = elim (cases_lt k n) [
  | inl less ↦ (let rest = total_part n f k less in omega (arith, rest))
  | inr not_ ↦
      let same : k ≡ n = omega (arith, below, not_) in
      let here : f k ≡ f n = ap f same in
      omega (arith, here)
]

pub total_times : (n c : ℕ) (f : ℕ → ℕ) → total n (λ k. f k * c) ≡ total n f * c
total_times zero c f = omega arith
total_times (suc n) c f = (let rest = total_times n c f in grind (arith, rest))

-- a longer sum
pub total_longer : (n m : ℕ) (f : ℕ → ℕ) → n ≤ m → total n f ≤ total m f
total_longer n zero f le = (let none : n ≡ 0 = omega (arith, le) in subst (λ k. total k f ≤ 0) (sym none) (omega arith))
total_longer n (suc m) f le = elim (cases_lt n (suc m)) [
  | inl less ↦ (let rest = total_longer n m f (omega (arith, less)) in omega (arith, rest))
  | inr not_ ↦ (let same : n ≡ suc m = omega (arith, le, not_) in subst (λ k. total k f ≤ total (suc m) f) (sym same) (omega arith))
]

-- what there is, where a test passes
abbrev pub if_so : Bool → ℕ → ℕ
if_so b x = if b then x else 0

if_times : (b : Bool) (x : ℕ) → if_so b x ≡ one b * x
if_times true x = omega arith
if_times false x = omega arith

pub total_if : (n : ℕ) (b : Bool) (f : ℕ → ℕ) → total n (λ k. if_so b (f k)) ≡ if_so b (total n f)
total_if n true f = refl
total_if n false f = total_none n

-- ---- numbers that are among others

either_one : (b c : Bool) → one (b || c) ≤ one b + one c
either_one true c = omega arith
either_one false c = omega arith

-- how many numbers below one are this one
total_is : (n x : ℕ) → total n (λ k. one (x == k)) ≤ 1
total_is zero x = omega arith
total_is (suc n) x = elim (eqb_tells x n) [
  | inl same ↦
      let none = none_below n (omega (arith, same.1)) in
      let here = most_one (x == n) in
      omega (arith, none, here)
  | inr differ ↦
      let rest = total_is n x in
      let here : one (x == n) ≡ 0 = ap one differ.0 in
      omega (arith, rest, here)
]
  where
    most_one : (b : Bool) → one b ≤ 1
    most_one true = omega arith
    most_one false = omega arith

    none_below : (m : ℕ) → m ≤ x → total m (λ k. one (x == k)) ≡ 0
    none_below zero le = refl
    none_below (suc m) le =
        let rest = none_below m (omega (arith, le)) in
        let here : one (x == m) ≡ 0 = ap one (ne_eqb x m (omega (arith, le))) in
        omega (arith, rest, here)

-- and how many are among these
pub total_among : (n : ℕ) (xs : List ℕ) → total n (λ k. one (list_any (λ x. x == k) xs)) ≤ length xs
total_among n [] = (let none = total_none n in omega (arith, none))
total_among n (x ∷ xs) =
    let rest = total_among n xs in
    let here = total_is n x in
    let le = total_le n (λ k. one (list_any (λ y. y == k) (x ∷ xs))) (λ k. one (x == k) + one (list_any (λ y. y == k) xs)) (λ k below. either_one (x == k) (list_any (λ y. y == k) xs)) in
    let both = total_plus n (λ k. one (x == k)) (λ k. one (list_any (λ y. y == k) xs)) in
    omega (arith, rest, here, le, both)

-- so many at most, once for each number that is among these
pub total_each : (n x : ℕ) (xs : List ℕ) → total n (λ k. if_so (list_any (λ y. y == k) xs) x) ≤ length xs * x
total_each n x xs =
    let same = total_same n (λ k. if_so (list_any (λ y. y == k) xs) x) (λ k. one (list_any (λ y. y == k) xs) * x) (λ k below. if_times (list_any (λ y. y == k) xs) x) in
    let times = total_times n x (λ k. one (list_any (λ y. y == k) xs)) in
    let le = mul-le-mul_right x (total_among n xs) in
    omega (arith, same, times, le)

-- ---- one number taken out

-- what there is at each number but one
abbrev pub but : ℕ → (ℕ → ℕ) → ℕ → ℕ
but x of k = if k == x then 0 else of k

but_other : (x : ℕ) (of : ℕ → ℕ) (k : ℕ) → k ≢ x → but x of k ≡ of k
but_other x of k differs = ap (λ b. if b then 0 else of k) (ne_eqb k x differs)

but_same : (x : ℕ) (of : ℕ → ℕ) → but x of x ≡ 0
but_same x of = ap (λ b. if b then 0 else of x) (eq-eqb x x refl)

pub total_but : (n x : ℕ) (of : ℕ → ℕ) → x < n → total n (but x of) + of x ≡ total n of
total_but zero x of below = absurd (omega (arith, below))
total_but (suc n) x of below = elim (cases_lt x n) [
  | inl less ↦
      let rest = total_but n x of less in
      let here = but_other x of n (omega (arith, less)) in
      omega (arith, rest, here)
  | inr not_ ↦
      let same : x ≡ n = omega (arith, below, not_) in
      let at : of x ≡ of n = ap of same in
      let none : but x of n ≡ 0 = ap (but x of) (sym same) ∙ but_same x of in
      let rest = total_same n (but x of) of (λ k k_below. but_other x of k (omega (arith, k_below, same))) in
      omega (arith, at, none, rest)
]

-- a sum that is more by something at one number
pub total_raise : (n x more : ℕ) (f g : ℕ → ℕ) → x < n → ((k : ℕ) → k < n → f k ≤ g k) → f x + more ≤ g x → total n f + more ≤ total n g
total_raise n x more f g below le here =
    let old = total_but n x f below in
    let new = total_but n x g below in
    let rest = total_le n (but x f) (but x g) (λ k k_below. each (k == x) (f k) (g k) (le k k_below)) in
    omega (arith, old, new, rest, here)
  where
    each : (b : Bool) (i j : ℕ) → i ≤ j → (if b then 0 else i) ≤ (if b then 0 else j)
    each true i j le_ = omega arith
    each false i j le_ = le_

-- where numbers that weigh something go to others, no two to one, and weigh no more than those, so do all
pub total_into : (n m : ℕ) (of there : ℕ → ℕ) (to : ℕ → ℕ) → ((k : ℕ) → k < n → (of k ≡ 0) ⊎ ((to k < m) × (of k ≤ there (to k))))
    → ((k j : ℕ) → k < n → j < n → to k ≡ to j → k ≡ j) → total n of ≤ total m there
total_into zero m of there to each apart = omega arith
total_into (suc n) m of there to each apart = elim (each n (omega arith)) [
  | inl none ↦
      let rest = total_into n m of there to (λ k below. each k (omega (arith, below))) (λ k j k_below j_below. apart k j (omega (arith, k_below)) (omega (arith, j_below))) in
      omega (arith, rest, none)
  | inr here ↦
      let rest = total_into n m of (but (to n) there) to
      (λ k below. elim (each k (omega (arith, below))) [
        | inl none ↦ inl none
        | inr so ↦ inr (
          so.0,
          (let le = so.1 in
              let same = but_other (to n) there (to k) (λ one_. (let is = apart k n (omega (arith, below)) (omega arith) one_ in omega (arith, is, below))) in
              omega (arith, le, same)),
        )
      ])
      (λ k j k_below j_below. apart k j (omega (arith, k_below)) (omega (arith, j_below))) in
      let out = total_but m (to n) there here.0 in
      let le = here.1 in
      omega (arith, rest, out, le)
]

-- ---- sums of sums

abbrev pub but_two : ℕ → ℕ → (ℕ → ℕ → ℕ) → ℕ → ℕ → ℕ
but_two x y of i j = if i == x && j == y then 0 else of i j

pub two_other : (x y : ℕ) (of : ℕ → ℕ → ℕ) (i j : ℕ) → ((i ≡ x) → (j ≡ y) → ⊥) → but_two x y of i j ≡ of i j
two_other x y of i j differ = elim (eqb_tells i x) [
  | inr apart ↦ ap (λ b. if b && j == y then 0 else of i j) apart.0
  | inl same ↦ elim (eqb_tells j y) [
    | inr apart ↦ ap (λ b. if i == x && b then 0 else of i j) apart.0 ∙ ap (λ b. if b && false then 0 else of i j) same.0
    | inl also ↦ absurd (differ same.1 also.1)
  ]
]

pub total_but_two : (n : ℕ) (m : ℕ → ℕ) (x y : ℕ) (of : ℕ → ℕ → ℕ) → x < n → y < m x
    → total n (λ i. total (m i) (but_two x y of i)) + of x y ≡ total n (λ i. total (m i) (of i))
total_but_two zero m x y of below within = absurd (omega (arith, below))
total_but_two (suc n) m x y of below within = elim (cases_lt x n) [
  | inl less ↦
      let rest = total_but_two n m x y of less within in
      let here = total_same (m n) (but_two x y of n) (of n) (λ j j_below. two_other x y of n j (λ same also. omega (arith, less, same))) in
      omega (arith, rest, here)
  | inr not_ ↦
      let same : x ≡ n = omega (arith, below, not_) in
      let rest = total_same n (λ i. total (m i) (but_two x y of i)) (λ i. total (m i) (of i))
      (λ i i_below. total_same (m i) (but_two x y of i) (of i) (λ j j_below. two_other x y of i j (λ is also. omega (arith, i_below, is, same)))) in
      let out = total_but (m x) y (of x) within in
      let row = total_same (m x) (but_two x y of x) (but y (of x)) (λ j j_below. ap (λ b. if b && j == y then 0 else of x j) (eq-eqb x x refl)) in
      let at : total (m x) (but_two x y of x) ≡ total (m n) (but_two x y of n) = ap (λ k. total (m k) (but_two x y of k)) same in
      let at_of : total (m x) (of x) ≡ total (m n) (of n) = ap (λ k. total (m k) (of k)) same in
      omega (arith, rest, out, row, at, at_of)
]

-- numbers that go to two others each, no two to the same, and weigh no more
pub total_into_two : (n r : ℕ) (m : ℕ → ℕ) (of : ℕ → ℕ) (there : ℕ → ℕ → ℕ) (to by : ℕ → ℕ)
    → ((k : ℕ) → k < n → (to k < r) × (by k < m (to k)) × (of k ≤ there (to k) (by k)))
    → ((k j : ℕ) → k < n → j < n → to k ≡ to j → by k ≡ by j → k ≡ j) → total n of ≤ total r (λ i. total (m i) (there i))
total_into_two zero r m of there to by each apart = omega arith
total_into_two (suc n) r m of there to by each apart =
    let here = each n (omega arith) in
    let rest = total_into_two n r m of (but_two (to n) (by n) there) to by
    (λ k below.
    let so = each k (omega (arith, below)) in
    let le = so.2 in
    let same = two_other (to n) (by n) there (to k) (by k) (λ one_ also. (let is = apart k n (omega (arith, below)) (omega arith) one_ also in omega (arith, is, below))) in
    (so.0, so.1, omega (arith, le, same)))
    (λ k j k_below j_below. apart k j (omega (arith, k_below)) (omega (arith, j_below))) in
    let out = total_but_two r m (to n) (by n) there here.0 here.1 in
    let le = here.2 in
    omega (arith, rest, out, le)

-- ---- sums over lists

-- what the items of a list weigh
abbrev pub weigh : {X : Type 0} → (X → ℕ) → List X → ℕ
weigh of [] = 0
weigh of (x ∷ xs) = of x + weigh of xs

pub weigh-append : {X : Type 0} (of : X → ℕ) (xs ys : List X) → weigh of (xs ++ ys) ≡ weigh of xs + weigh of ys
weigh-append of [] ys = omega arith
weigh-append of (x ∷ xs) ys = (let rest = weigh-append of xs ys in omega (arith, rest))

total_first : (n : ℕ) (f : ℕ → ℕ) → total (suc n) f ≡ f 0 + total n (λ k. f (suc k))
total_first zero f = omega arith
total_first (suc n) f = (let rest = total_first n f in omega (arith, rest))

-- by their places
pub weigh_total : {X : Type 0} (of : X → ℕ) (xs : List X) → weigh of xs ≡ total (length xs) (λ k. option_map_or of (slice_get xs k) 0)
weigh_total of [] = refl
weigh_total of (x ∷ xs) =
    let rest = weigh_total of xs in
    let first = total_first (length xs) (λ k. option_map_or of (slice_get (x ∷ xs) k) 0) in
    let long : length (x ∷ xs) ≡ suc (length xs) = omega arith in
    let same = ap (λ n. total n (λ k. option_map_or of (slice_get (x ∷ xs) k) 0)) long in
    omega (arith, rest, first, same)
