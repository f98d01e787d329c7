-- Tables of names that a loop fills, each with the first place at which the name stands.
use Rattle.std.proofs.Common.{◌≡◌, ℕ, ◌+◌, Bool, true, false, cond, List, ◌∷◌, refl, Option, Some, None, ap, ◌∙◌, sym}
use Rattle.std.specs.Prelude.{bytes_eq}
use Rattle.std.specs.List.{position_from}
use Rattle.std.proofs.lemmas.Slice.Eq.{bytes_eq-Decides}
use Rattle.circus_fault.specs.Known.{Known, add_name}
use Rattle.circus_check.specs.Seen.Tables.{or_place, also_first}

none_more : (o : Option ℕ) → o ≡ or_place o None
none_more None = refl
none_more (Some k) = refl

-- a name that has no place takes one
pub place_taken : (known : Known) (name : List ℕ) (place : ℕ) → known name ≡ None → add_name name place known ≡ also_first name place known
place_taken known name place absent = λ i other. by_test other (bytes_eq name other) refl i
  where
    none : (o : Option ℕ) → o ≡ None → Some place ≡ or_place o (Some place)
    none None is = refl
    none (Some k) is = absurd (cc)

    by_test : (other : List ℕ) (b : Bool) → bytes_eq name other ≡ b → cond b (Some place) (known other) ≡ or_place (known other) (cond b (Some place) None)
    by_test other true is = none (known other) (ap known (sym ((bytes_eq-Decides name other).0 is)) ∙ absent)
    by_test other false is = none_more (known other)

-- one that has a place keeps it
pub place_kept : (known : Known) (name : List ℕ) (place k : ℕ) → known name ≡ Some k → known ≡ also_first name place known
place_kept known name place k there = λ i other. by_test other (bytes_eq name other) refl i
  where
    some : (o : Option ℕ) → o ≡ Some k → o ≡ or_place o (Some place)
    some None is = absurd (cc)
    some (Some j) is = refl

    by_test : (other : List ℕ) (b : Bool) → bytes_eq name other ≡ b → known other ≡ or_place (known other) (cond b (Some place) None)
    by_test other true is = some (known other) (ap known (sym ((bytes_eq-Decides name other).0 is)) ∙ there)
    by_test other false is = none_more (known other)

module _ {X : Type 0} (named : X → List ℕ) where
  -- where the first item of a name stands, from a place on
  abbrev pub place_from : List ℕ → ℕ → List X → Option ℕ
  place_from name i xs = position_from (λ (x : X). bytes_eq (named x) name) i xs

  -- what a table has and what is left tell together what the whole list tells
  abbrev pub Tells : Known → ℕ → List X → List X → Type 0
  Tells known i rest whole = (name : List ℕ) → or_place (known name) (place_from name i rest) ≡ place_from name 0 whole

  -- one item more
  pub more : (known new : Known) (i : ℕ) (x : X) (rest whole : List X) → new ≡ also_first (named x) i known → Tells known i (x ∷ rest) whole → Tells new (i + 1) rest whole
  more known new i x rest whole is before name =
      ap (λ (k : Known). or_place (k name) (place_from name (i + 1) rest)) is ∙ by_known (known name) (bytes_eq (named x) name) ∙ before name
    where
      by_known : (o : Option ℕ) (b : Bool) → or_place (or_place o (cond b (Some i) None)) (place_from name (i + 1) rest) ≡ or_place o (cond b (Some i) (place_from name (i + 1) rest))
      by_known (Some k) b = refl
      by_known None true = refl
      by_known None false = refl
