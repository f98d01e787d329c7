-- The founders of a troupe: each is another node, and each is an entry of the troupe's first view.
use Rattle.std.proofs.Common.{◌≡◌, ℕ, zero, suc, ◌+◌, ◌<◌, true, false, ◌||◌, List, [], ◌∷◌, ◌++◌, map, Some, refl, sym, ap, subst, ◌∙◌, arith}
use Rattle.std.specs.Prelude.{slice_get, ◌==◌, if◌then◌else◌}
use Rattle.std.proofs.lemmas.Bool.{ne_eqb}
use Rattle.std.proofs.lemmas.Option.{none-some, same_Some}
use Rattle.circus_value.specs.Among.{is_among}
use Rattle.circus_collate.specs.Deployment.{IsDeployment, hosts, hosting_from}
use Rattle.circus_collate.specs.declared.deployment.Deployment.{Deployment}
use Rattle.circus_collate.specs.declared.deployment.Host.{Host}
use Rattle.circus_collate.specs.declared.deployment.Troupe.{Troupe}
use Rattle.circus_collate.specs.declared.view.View.{View}
use Rattle.circus_collate.specs.declared.view.Entry.{Entry}
use Rattle.circus_ring.specs.RingTable.{boot_entry, boot_view, boot_views, boot_views_from}
use Rattle.circus_world_theory.proofs.Quiescence.Once.{AreApart, AreOthers, neither}

none_below : (place n number : ℕ) (hs : List Host) → number < n → is_among (hosting_from n place hs) number ≡ false
none_below place n number [] below = refl
none_below place n number (h ∷ hs) below =
    let rest = none_below place (suc n) number hs (omega (arith, below)) in
    let other : (n == number) ≡ false = ne_eqb n number (omega (arith, below)) in
    elim (hosts place h) as (λ b. is_among (if b then n ∷ hosting_from (suc n) place hs else hosting_from (suc n) place hs) number ≡ false) [
      | true ↦ ap (λ x. x || is_among (hosting_from (suc n) place hs) number) other ∙ rest
      | false ↦ rest
    ]

hosting_apart : (place n : ℕ) (hs : List Host) → AreApart (hosting_from n place hs)
hosting_apart place n [] = tt
hosting_apart place n (h ∷ hs) =
    let rest = hosting_apart place (suc n) hs in
    elim (hosts place h) as (λ b. AreApart (if b then n ∷ hosting_from (suc n) place hs else hosting_from (suc n) place hs)) [
      | true ↦ (none_below place (suc n) n hs (omega arith), rest)
      | false ↦ rest
    ]

front_apart : (xs ys : List ℕ) → AreApart (xs ++ ys) → AreApart xs
front_apart [] ys are = tt
front_apart (x ∷ xs) ys are = (front_among xs are.0, front_apart xs ys are.1)
  where
    front_among : (l : List ℕ) → is_among (l ++ ys) x ≡ false → is_among l x ≡ false
    front_among [] none = refl
    front_among (y ∷ l) none =
        let parts = neither (y == x) (is_among (l ++ ys) x) none in
        ap (λ b. b || is_among l x) parts.0 ∙ front_among l parts.1

pub founders_apart : (d : Deployment) → IsDeployment d → (place : ℕ) (t : Troupe) → slice_get d.troupes place ≡ Some t → AreApart t.founders
founders_apart d good place t at =
    front_apart t.founders t.spares (subst AreApart (sym (good.troupes place t at).members) (hosting_apart place 0 d.nodes))

entry_nodes : (founders : List ℕ) → map (λ (e : Entry). e.node) (map boot_entry founders) ≡ founders
entry_nodes [] = refl
entry_nodes (x ∷ founders) = ap (λ l. x ∷ l) (entry_nodes founders)

-- a first view is that of a troupe
pub record IsBootView (troupes : List Troupe) (k : ℕ) (view : View) : Type 0 where
  pub troupe : Troupe
  pub number : ℕ
  pub there : slice_get troupes k ≡ Some troupe
  pub is : view ≡ boot_view number troupe

pub boot_view_of : (t k : ℕ) (troupes : List Troupe) (view : View) → slice_get (boot_views_from t troupes) k ≡ Some view → IsBootView troupes k view
boot_view_of t k [] view at = absurd (none-some view at)
boot_view_of t zero (troupe ∷ troupes) view at = record { troupe = troupe; number = t; there = refl; is = sym (same_Some (boot_view t troupe) view at) }
boot_view_of t (suc k) (troupe ∷ troupes) view at =
    let rest = boot_view_of (t + 1) k troupes view at in
    record { troupe = rest.troupe; number = rest.number; there = rest.there; is = rest.is }

pub boot_nodes : (troupes : List Troupe) (k : ℕ) (view : View) (is : IsBootView troupes k view) → map (λ (e : Entry). e.node) view.entries ≡ is.troupe.founders
boot_nodes troupes k view is = ap (λ (v : View). map (λ (e : Entry). e.node) v.entries) is.is ∙ entry_nodes is.troupe.founders

-- each entry of a first view is another node
pub boot_others : (d : Deployment) → IsDeployment d → (t : ℕ) (view : View) → slice_get (boot_views d.troupes) t ≡ Some view → AreOthers view
boot_others d good t view at =
    let v = boot_view_of 0 t d.troupes view at in
    subst AreApart (sym (boot_nodes d.troupes t view v)) (founders_apart d good t v.troupe v.there)
