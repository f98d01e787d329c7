-- Names with their numbers: those that are fresh, and those that stand for one item each.
use Rattle.std.proofs.Common.{◌≡◌, ◌≢◌, ℕ, ◌+◌, ◌<◌, Bool, true, false, cond, List, [], ◌∷◌, length, refl, sym, ◌∙◌, subst, arith, Option, Some, None}
use Rattle.std.specs.Prelude.{bytes_eq, is_some}
use Rattle.std.specs.List.{AllByRecursion}
use Rattle.std.proofs.lemmas.Slice.Eq.{bytes_eq-Decides}
use Rattle.circus_fault.specs.Known.{Known, nobody, add_name, numbers_behind, numbers_of}

abbrev pub IsFresh : Known → List ℕ → Type 0
IsFresh known name = is_some (known name) ≡ false

unlike : (known : Known) (name other : List ℕ) (number : ℕ) → IsFresh (add_name name number known) other → IsFresh known other × (name ≢ other)
unlike known name other number fresh = by_test (bytes_eq name other) refl fresh
  where
    by_test : (b : Bool) → bytes_eq name other ≡ b → is_some (cond b (Some number) (known other)) ≡ false → IsFresh known other × (name ≢ other)
    by_test true same fresh = absurd (cc)
    by_test false unlike fresh = (fresh, λ same. let equal = (bytes_eq-Decides name other).1 same in absurd (cc))

pub apart : {X : Type 0} (name_of : X → List ℕ) (known : Known) (name : List ℕ) (number : ℕ) (ys : List X) → AllByRecursion (λ y. IsFresh (add_name name number known) (name_of y)) ys
    → AllByRecursion (λ y. IsFresh known (name_of y)) ys × AllByRecursion (λ y. name ≢ name_of y) ys
apart name_of known name number [] all = (tt, tt)
apart name_of known name number (y ∷ ys) all =
    let (fresh, other) = unlike known name (name_of y) number all.0 in
    let (fresh_ones, others) = apart name_of known name number ys all.1 in
    ((fresh, fresh_ones), (other, others))

-- names below a count, none of which shares its number
pub record Numbered (known : Known) (count : ℕ) : Type 0 where
  pub below : (name : List ℕ) (number : ℕ) → known name ≡ Some number → number < count
  pub single : (a b : List ℕ) (number : ℕ) → known a ≡ Some number → known b ≡ Some number → a ≡ b

-- which of two a name has
picked : (b : Bool) (number other : ℕ) (known : Option ℕ) → cond b (Some number) known ≡ Some other → b ≡ true → number ≡ other
picked true number other known is hit = cc
picked false number other known is hit = cc

kept : (b : Bool) (number other : ℕ) (known : Option ℕ) → cond b (Some number) known ≡ Some other → b ≡ false → known ≡ Some other
kept true number other known is missed = cc
kept false number other known is missed = is

also_numbered : (known : Known) (name : List ℕ) (count : ℕ) → Numbered known count → Numbered (add_name name count known) (count + 1)
also_numbered known name count N = record { below = below; single = single }
  where
    below_by : (a : List ℕ) (number : ℕ) (b : Bool) → bytes_eq name a ≡ b → add_name name count known a ≡ Some number → number < count + 1
    below_by a number true same is = omega (arith, picked (bytes_eq name a) count number (known a) is same)
    below_by a number false other is = omega (arith, N.below a number (kept (bytes_eq name a) count number (known a) is other))

    below : (a : List ℕ) (number : ℕ) → add_name name count known a ≡ Some number → number < count + 1
    below a number is = below_by a number (bytes_eq name a) refl is

    single_by : (a b : List ℕ) (number : ℕ) (s t : Bool) → bytes_eq name a ≡ s → bytes_eq name b ≡ t → add_name name count known a ≡ Some number → add_name name count known b ≡ Some number → a ≡ b
    single_by a b number true true first second is also_is = sym ((bytes_eq-Decides name a).0 first) ∙ (bytes_eq-Decides name b).0 second
    single_by a b number true false first second is also_is =
        absurd (omega (arith, picked (bytes_eq name a) count number (known a) is first, N.below b number (kept (bytes_eq name b) count number (known b) also_is second)))
    single_by a b number false true first second is also_is =
        absurd (omega (arith, picked (bytes_eq name b) count number (known b) also_is second, N.below a number (kept (bytes_eq name a) count number (known a) is first)))
    single_by a b number false false first second is also_is =
        N.single a b number (kept (bytes_eq name a) count number (known a) is first) (kept (bytes_eq name b) count number (known b) also_is second)

    single : (a b : List ℕ) (number : ℕ) → add_name name count known a ≡ Some number → add_name name count known b ≡ Some number → a ≡ b
    single a b number is also_is = single_by a b number (bytes_eq name a) (bytes_eq name b) refl refl is also_is

behind_numbered : {X : Type 0} (name_of : X → List ℕ) (known : Known) (count : ℕ) (xs : List X) → Numbered known count → Numbered (numbers_behind name_of known count xs) (count + length xs)
behind_numbered name_of known count [] N = subst (Numbered known) (omega arith) N
behind_numbered name_of known count (x ∷ xs) N =
    subst (Numbered (numbers_behind name_of (add_name (name_of x) count known) (count + 1) xs)) (omega arith) (behind_numbered name_of (add_name (name_of x) count known) (count + 1) xs (also_numbered known (name_of x) count N))

pub all_numbered : {X : Type 0} (name_of : X → List ℕ) (xs : List X) → Numbered (numbers_of name_of xs) (length xs)
all_numbered name_of xs =
    subst (Numbered (numbers_of name_of xs)) (omega arith) (behind_numbered name_of nobody 0 xs (record { below = λ name number is. absurd (cc); single = λ a b number is also_is. absurd (cc) }))
