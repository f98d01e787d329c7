-- The least of one list of faults and another.
use Rattle.std.proofs.Common.{◌≡◌, ℕ, List, [], ◌∷◌, ◌++◌, Option, refl, sym, ◌∙◌, ap}
use Rattle.circus_fault.specs.declared.fault.Fault.{Fault}
use Rattle.circus_fault.specs.Least.{lesser, least_from}

module _ {C : Type 0} (rank : C → ℕ) where
  pub least_more : (best : Option (Fault C)) (xs ys : List (Fault C)) → least_from rank best (xs ++ ys) ≡ least_from rank (least_from rank best xs) ys
  least_more best [] ys = refl
  least_more best (x ∷ xs) ys = least_more (lesser rank best x) xs ys

  -- first these faults, then those
  pub least_then : (best mid new : Option (Fault C)) (xs ys : List (Fault C)) → mid ≡ least_from rank best xs → new ≡ least_from rank mid ys → new ≡ least_from rank best (xs ++ ys)
  least_then best mid new xs ys first then = then ∙ ap (λ b. least_from rank b ys) first ∙ sym (least_more best xs ys)

  -- one more of a list is looked at
  pub least_step : (new mid whole : Option (Fault C)) (xs ys : List (Fault C)) → new ≡ least_from rank mid xs → least_from rank mid (xs ++ ys) ≡ whole → least_from rank new ys ≡ whole
  least_step new mid whole xs ys then before = ap (λ b. least_from rank b ys) then ∙ sym (least_more mid xs ys) ∙ before
