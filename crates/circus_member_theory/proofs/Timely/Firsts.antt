-- What was given first, along a past.
use Rattle.std.proofs.Common.{◌≡◌, ℕ, ◌<◌, ◌≤◌, Option, None, Some, refl, ap, sym, ◌∙◌, arith}
use Rattle.circus_member_theory.specs.Past.{Past, booted, followed, now, Rises}
use Rattle.circus_member_theory.specs.First.{at_end, or_else, first_given}

module _ {A : Type 0} where
  -- what was given before the end of a past
  abbrev pub earlier : (Past → Option A) → Past → Option (ℕ × A)
  earlier gives booted = None
  earlier gives (followed p step o) = first_given gives p

  pub first_is : (gives : Past → Option A) (p : Past) → first_given gives p ≡ or_else (earlier gives p) (at_end p (gives p))
  unfolding first_given
  first_is gives booted = refl
  first_is gives (followed p step o) = refl

  -- what is given at the end, where nothing was before
  pub first_now : (gives : Past → Option A) (p : Past) (a : A) → earlier gives p ≡ None → gives p ≡ Some a → first_given gives p ≡ Some (now p, a)
  first_now gives p a none some = first_is gives p ∙ ap (λ o. or_else o (at_end p (gives p))) none ∙ ap (at_end p) some

  pub none_yet : (gives : Past → Option A) (p : Past) → earlier gives p ≡ None → gives p ≡ None → first_given gives p ≡ None
  none_yet gives p none nothing = first_is gives p ∙ ap (λ o. or_else o (at_end p (gives p))) none ∙ ap (at_end p) nothing

  -- what was given before stays
  pub given_before : (gives : Past → Option A) (p : Past) (given : ℕ × A) → earlier gives p ≡ Some given → first_given gives p ≡ Some given
  given_before gives p given some = first_is gives p ∙ ap (λ o. or_else o (at_end p (gives p))) some

  -- where nothing was given, nothing is at the end
  pub none_now : (gives : Past → Option A) (p : Past) → first_given gives p ≡ None → gives p ≡ None
  none_now gives p none = by_both (earlier gives p) (gives p) (sym (first_is gives p) ∙ none)
    where
      by_both : (before : Option (ℕ × A)) (last : Option A) → or_else before (at_end p last) ≡ None → last ≡ None
      by_both None None is = refl
      by_both None (Some a) is = cc
      by_both (Some given) last is = cc

  -- ---- the same at each step

  pub same_first : (gives other : Past → Option A) (last : ℕ) (p : Past) → Rises p → now p ≤ last → ((q : Past) → now q ≤ last → gives q ≡ other q)
      → first_given gives p ≡ first_given other p
  unfolding first_given
  same_first gives other last booted rises below same = ap (at_end booted) (same booted below)
  same_first gives other last (followed p step o) rises below same =
      let before = same_first gives other last p rises.0 (omega (arith, rises.1)) same in
      ap (λ x. or_else x (at_end (followed p step o) (gives (followed p step o)))) before
      ∙ ap (λ x. or_else (first_given other p) (at_end (followed p step o) x)) (same (followed p step o) below)

  pub none_first : (gives : Past → Option A) (last : ℕ) (p : Past) → Rises p → now p ≤ last → ((q : Past) → now q ≤ last → gives q ≡ None) → first_given gives p ≡ None
  unfolding first_given
  none_first gives last booted rises below none = ap (at_end booted) (none booted below)
  none_first gives last (followed p step o) rises below none =
      let before = none_first gives last p rises.0 (omega (arith, rises.1)) none in
      none_yet gives (followed p step o) before (none (followed p step o) below)

  pub none_earlier : (gives : Past → Option A) (p : Past) → Rises p → ((q : Past) → now q < now p → gives q ≡ None) → earlier gives p ≡ None
  none_earlier gives booted rises none = refl
  none_earlier gives (followed p step o) rises none = none_first gives (now p) p rises.0 (omega arith) (λ q before. none q (omega (arith, before, rises.1)))
