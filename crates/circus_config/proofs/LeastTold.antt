-- The least of faults that are told one by one is the least fault, told.
use Rattle.std.proofs.Common.{◌≡◌, ℕ, Bool, true, false, cond, List, [], ◌∷◌, map, refl, ◌∙◌, ap, Option, Some, None, nat_lt}
use Rattle.std.specs.Prelude.{◌==◌, ◌&&◌, ◌||◌, option_map}
use Rattle.circus_fault.specs.declared.fault.Fault.{Fault}
use Rattle.circus_fault.specs.Least.{is_before, lesser, least_from}

-- faults stay at their places, and their causes in their order
pub record KeepsOrder {C D : Type 0} (rank : C → ℕ) (rank_told : D → ℕ) (told : Fault C → Fault D) : Type 0 where
  pub place : (f : Fault C) → (told f).place ≡ f.place
  pub order : (f g : Fault C) → nat_lt (rank_told (told f).cause) (rank_told (told g).cause) ≡ nat_lt (rank f.cause) (rank g.cause)

module _ {C D : Type 0} {rank : C → ℕ} {rank_told : D → ℕ} {told : Fault C → Fault D} (K : KeepsOrder rank rank_told told) where
  before_told : (f g : Fault C) → is_before rank_told (told f) (told g) ≡ is_before rank f g
  before_told f g = λ i. nat_lt (K.place f i) (K.place g i) || ((K.place f i == K.place g i) && K.order f g i)

  picked : (b : Bool) (f g : Fault C) → cond b (Some (told f)) (Some (told g)) ≡ option_map told (cond b (Some f) (Some g))
  picked true f g = refl
  picked false f g = refl

  pub least_told : (best : Option (Fault C)) (fs : List (Fault C)) → least_from rank_told (option_map told best) (map told fs) ≡ option_map told (least_from rank best fs)
  least_told best [] = refl
  least_told None (f ∷ fs) = least_told (Some f) fs
  least_told (Some b) (f ∷ fs) =
      ap (λ o. least_from rank_told o (map told fs)) (ap (λ t. cond t (Some (told f)) (Some (told b))) (before_told f b) ∙ picked (is_before rank f b) f b)
      ∙ least_told (lesser rank (Some b) f) fs
