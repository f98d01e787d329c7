-- Tests of the entries that pass, and of what stands in them.
use Rattle.std.proofs.Common.{◌≡◌, ℕ, Bool, true, false, not, cond, ◌&&◌, ◌||◌, List, [], ◌∷◌, length, map, filter, count_by, refl, sym, ap, ◌∙◌}
use Rattle.std.specs.List.{list_any, list_all}
use Rattle.std.proofs.Math.ListN.{length-map}
use Rattle.std.proofs.lemmas.List.Sums.{length-filter}
use Rattle.circus_collate.specs.Expecting.{performs, expected_nodes}
use Rattle.circus_collate.specs.declared.view.Entry.{Entry}
use Rattle.circus_collate.specs.declared.view.View.{View}

module _ {X Y : Type 0} (p : X → Bool) (f : X → Y) (q : Y → Bool) where
  pub any-map-filter : (xs : List X) → list_any (λ x. p x && q (f x)) xs ≡ list_any q (map f (filter p xs))
  any-map-filter [] = refl
  any-map-filter (x ∷ xs) =
      elim (p x) as (λ b. ((b && q (f x)) || list_any (λ y. p y && q (f y)) xs) ≡ list_any q (map f (cond b (x ∷ filter p xs) (filter p xs)))) [
        | true ↦ ap (λ b. q (f x) || b) (any-map-filter xs)
        | false ↦ any-map-filter xs
      ]

  pub all-map-filter : (xs : List X) → list_all (λ x. not (p x) || q (f x)) xs ≡ list_all q (map f (filter p xs))
  all-map-filter [] = refl
  all-map-filter (x ∷ xs) =
      elim (p x) as (λ b. ((not b || q (f x)) && list_all (λ y. not (p y) || q (f y)) xs) ≡ list_all q (map f (cond b (x ∷ filter p xs) (filter p xs)))) [
        | true ↦ ap (λ b. q (f x) && b) (all-map-filter xs)
        | false ↦ all-map-filter xs
      ]

  pub filter-map-filter : (xs : List X) → map f (filter (λ x. p x && q (f x)) xs) ≡ filter q (map f (filter p xs))
  filter-map-filter [] = refl
  filter-map-filter (x ∷ xs) =
      elim (p x) as (λ b. map f (cond (b && q (f x)) (x ∷ filter (λ y. p y && q (f y)) xs) (filter (λ y. p y && q (f y)) xs)) ≡ filter q (map f (cond b (x ∷ filter p xs) (filter p xs)))) [
        | true ↦ elim (q (f x)) as (λ c. map f (cond c (x ∷ filter (λ y. p y && q (f y)) xs) (filter (λ y. p y && q (f y)) xs)) ≡ cond c (f x ∷ filter q (map f (filter p xs))) (filter q (map f (filter p xs)))) [
          | true ↦ ap (λ ys. f x ∷ ys) (filter-map-filter xs)
          | false ↦ filter-map-filter xs
        ]
        | false ↦ filter-map-filter xs
      ]

  pub count-map-filter : (xs : List X) → count_by (λ x. p x && q (f x)) xs ≡ count_by q (map f (filter p xs))
  count-map-filter xs =
      sym (length-filter (λ x. p x && q (f x)) xs) ∙ sym (length-map (filter (λ x. p x && q (f x)) xs) f)
      ∙ ap length (filter-map-filter xs) ∙ length-filter q (map f (filter p xs))

pub length-map-filter : {X Y : Type 0} (p : X → Bool) (f : X → Y) (xs : List X) → count_by p xs ≡ length (map f (filter p xs))
length-map-filter p f xs = sym (length-map (filter p xs) f ∙ length-filter p xs)

-- the same of the entries of a view that are expected
module _ (view : View) (index : ℕ) where
  pub length_expected : count_by (λ (e : Entry). performs e.since index) view.entries ≡ length (expected_nodes view index)
  unfolding expected_nodes
  length_expected = length-map-filter (λ (e : Entry). performs e.since index) (λ (e : Entry). e.node) view.entries

  pub any_expected : (q : ℕ → Bool) → list_any (λ (e : Entry). performs e.since index && q e.node) view.entries ≡ list_any q (expected_nodes view index)
  unfolding expected_nodes
  any_expected q = any-map-filter (λ (e : Entry). performs e.since index) (λ (e : Entry). e.node) q view.entries

  pub all_expected : (q : ℕ → Bool) → list_all (λ (e : Entry). not (performs e.since index) || q e.node) view.entries ≡ list_all q (expected_nodes view index)
  unfolding expected_nodes
  all_expected q = all-map-filter (λ (e : Entry). performs e.since index) (λ (e : Entry). e.node) q view.entries

  pub count_expected : (q : ℕ → Bool) → count_by (λ (e : Entry). performs e.since index && q e.node) view.entries ≡ count_by q (expected_nodes view index)
  unfolding expected_nodes
  count_expected q = count-map-filter (λ (e : Entry). performs e.since index) (λ (e : Entry). e.node) q view.entries
