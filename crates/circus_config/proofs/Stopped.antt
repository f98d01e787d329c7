-- A fault that is found again changes nothing.
use Rattle.std.proofs.Common.{◌≡◌, ℕ, Bool, true, false, cond, List, [], ◌∷◌, refl, ◌∙◌, ap, arith, Option, Some, None, nat_lt}
use Rattle.std.specs.Prelude.{◌==◌, ◌&&◌, ◌||◌}
use Rattle.std.proofs.lemmas.Bool.Decides.{nat_tests}
use Rattle.circus_syntax.specs.declared.stopping.Stop.{Stop}
use Rattle.circus_fault.specs.declared.fault.Fault.{Fault}
use Rattle.circus_fault.specs.Least.{is_before, lesser, least_from}
use Rattle.circus_fault.specs.Stopping.{cause_of, stop_faults}

never_itself : (p r : ℕ) → (nat_lt p p || ((p == p) && nat_lt r r)) ≡ false
never_itself p r = grind (arith, nat_tests)

-- what isn't before something isn't before what comes before that
nor_before : (p r q s t u : ℕ) → (nat_lt p q || ((p == q) && nat_lt r s)) ≡ false → (nat_lt t q || ((t == q) && nat_lt u s)) ≡ true → (nat_lt p t || ((p == t) && nat_lt r u)) ≡ false
nor_before p r q s t u not_before earlier = grind (arith, nat_tests)

module _ {C : Type 0} (rank : C → ℕ) where
  not_before : (b s : Fault C) (t : Bool) → is_before rank s b ≡ t → cond t (Some s) (Some b) ≡ Some b → is_before rank s b ≡ false
  not_before b s true before same = let is : s ≡ b = cc in ap (λ f. is_before rank f b) is ∙ never_itself b.place (rank b.cause)
  not_before b s false before same = before

  lesser_stays : (best : Option (Fault C)) (s f : Fault C) → lesser rank best s ≡ best → lesser rank (lesser rank best f) s ≡ lesser rank best f
  lesser_stays None s f same = absurd (cc)
  lesser_stays (Some b) s f same = by_test (is_before rank f b) refl
    where
      later : is_before rank s b ≡ false
      later = not_before b s (is_before rank s b) refl same

      by_test : (t : Bool) → is_before rank f b ≡ t → lesser rank (cond t (Some f) (Some b)) s ≡ cond t (Some f) (Some b)
      by_test true earlier = ap (λ t. cond t (Some s) (Some f)) (nor_before s.place (rank s.cause) b.place (rank b.cause) f.place (rank f.cause) later earlier)
      by_test false _ = same

  least_stays : (best : Option (Fault C)) (s : Fault C) (fs : List (Fault C)) → lesser rank best s ≡ best → lesser rank (least_from rank best fs) s ≡ least_from rank best fs
  least_stays best s [] same = same
  least_stays best s (f ∷ fs) same = least_stays (lesser rank best f) s fs (lesser_stays best s f same)

  -- where a stop is found already, it is so behind further faults
  pub stop_stays : (unexpected too_deep : C) (stop : Option Stop) (best : Option (Fault C)) (fs : List (Fault C))
      → least_from rank best (stop_faults unexpected too_deep stop) ≡ best → least_from rank (least_from rank best fs) (stop_faults unexpected too_deep stop) ≡ least_from rank best fs
  stop_stays unexpected too_deep None best fs same = refl
  stop_stays unexpected too_deep (Some s) best fs same = least_stays best _ fs same

  -- a stop is found
  pub stop_found : (unexpected too_deep : C) (stop : Option Stop) → least_from rank (least_from rank None (stop_faults unexpected too_deep stop)) (stop_faults unexpected too_deep stop) ≡ least_from rank None (stop_faults unexpected too_deep stop)
  stop_found unexpected too_deep None = refl
  stop_found unexpected too_deep (Some s) =
      let f : Fault C = record { place = s.place; cause = cause_of unexpected too_deep s.cause } in
      ap (λ t. cond t (Some f) (Some f)) (never_itself s.place (rank f.cause))
