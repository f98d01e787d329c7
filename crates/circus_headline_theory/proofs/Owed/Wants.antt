-- What is wanted of the troupes, as a function of the troupe.
use Rattle.std.proofs.Common.{◌≡◌, ℕ, zero, suc, ◌+◌, ◌<◌, Bool, true, false, ◌||◌, ◌⊎◌, inl, inr, if◌then◌else◌, List, [], ◌∷◌, Option, Some, None, refl, sym, ap, ◌∙◌, arith}
use Rattle.std.specs.Prelude.{nat_eq, slice_get, slice_set, ◌==◌}
use Rattle.std.specs.Option.{option_map_or}
use Rattle.std.proofs.lemmas.Bool.{eq-eqb, ne_eqb}
use Rattle.std.proofs.lemmas.Bool.Decides.{eqb_tells}
use Rattle.circus_value.specs.Among.{is_among}
use Rattle.circus_collate.specs.declared.view.View.{View}
use Rattle.circus_fanout.specs.declared.known.Want.{Want}
use Rattle.circus_fanout.specs.Knowing.{with_want, asked_all}

-- the wants of as many troupes as there are views, the first having this number
abbrev pub wants_of : (ℕ → Want) → ℕ → List View → List Want
wants_of f n [] = []
wants_of f n (view ∷ views) = f n ∷ wants_of f (n + 1) views

pub wants_same : (f g : ℕ → Want) → ((i : ℕ) → f i ≡ g i) → (n : ℕ) (views : List View) → wants_of f n views ≡ wants_of g n views
wants_same f g same n [] = refl
wants_same f g same n (view ∷ views) = λ j. same n j ∷ wants_same f g same (n + 1) views j

-- with that of one troupe changed
abbrev pub changed : (Want → Want) → ℕ → (ℕ → Want) → ℕ → Want
changed change troupe f i = if nat_eq i troupe then change (f i) else f i

changed_here : (change : Want → Want) (troupe : ℕ) (f : ℕ → Want) (i : ℕ) → i ≡ troupe → changed change troupe f i ≡ change (f i)
changed_here change troupe f i is = ap (λ b. if b then change (f i) else f i) (eq-eqb i troupe is)

changed_else : (change : Want → Want) (troupe : ℕ) (f : ℕ → Want) (i : ℕ) → (i ≡ troupe → ⊥) → changed change troupe f i ≡ f i
changed_else change troupe f i other = ap (λ b. if b then change (f i) else f i) (ne_eqb i troupe other)

above : (change : Want → Want) (troupe : ℕ) (f : ℕ → Want) (n : ℕ) (views : List View) → troupe < n → wants_of f n views ≡ wants_of (changed change troupe f) n views
above change troupe f n [] below = refl
above change troupe f n (view ∷ views) below =
    λ j. sym (changed_else change troupe f n (λ is. absurd (omega (arith, is, below)))) j ∷ above change troupe f (n + 1) views (omega (arith, below)) j

pub with_want_of : (change : Want → Want) (f : ℕ → Want) (n k troupe : ℕ) (views : List View) → troupe ≡ n + k → with_want change (wants_of f n views) k ≡ wants_of (changed change troupe f) n views
with_want_of change f n k troupe [] is = refl
with_want_of change f n zero troupe (view ∷ views) is =
    λ j. sym (changed_here change troupe f n (omega (arith, is))) j ∷ above change troupe f (n + 1) views (omega (arith, is)) j
with_want_of change f n (suc k) troupe (view ∷ views) is =
    by_want (slice_get (wants_of f (n + 1) views) k)
    ∙ (λ j. sym (changed_else change troupe f n (λ same. absurd (omega (arith, is, same)))) j ∷ with_want_of change f (n + 1) k troupe views (omega (arith, is)) j)
  where
    by_want : (o : Option Want) → option_map_or (λ want. slice_set (f n ∷ wants_of f (n + 1) views) (suc k) (change want)) o (f n ∷ wants_of f (n + 1) views) ≡ f n ∷ option_map_or (λ want. slice_set (wants_of f (n + 1) views) k (change want)) o (wants_of f (n + 1) views)
    by_want None = refl
    by_want (Some want) = refl

-- once the views of these were asked for
abbrev pub asked_too : List ℕ → (ℕ → Want) → ℕ → Want
asked_too troupes f i = record { incarnation = (f i).incarnation; asked = is_among troupes i || (f i).asked }

or_true : (b : Bool) → (b || true) ≡ true
or_true true = refl
or_true false = refl

pub asked_all_of : (f : ℕ → Want) (troupes : List ℕ) (views : List View) → asked_all (wants_of f 0 views) troupes ≡ wants_of (asked_too troupes f) 0 views
asked_all_of f [] views = refl
asked_all_of f (t ∷ ts) views =
    ap (λ wants. asked_all wants ts) (with_want_of set f 0 t t views (omega arith))
    ∙ asked_all_of (changed set t f) ts views
    ∙ wants_same (asked_too ts (changed set t f)) (asked_too (t ∷ ts) f) same 0 views
  where
    set : Want → Want
    set w = record { incarnation = w.incarnation; asked = true }

    same : (i : ℕ) → asked_too ts (changed (λ w. record { incarnation = w.incarnation; asked = true }) t f) i ≡ asked_too (t ∷ ts) f i
    same i = by_test (eqb_tells i t)
      where
        by_test : ((nat_eq i t ≡ true) × (i ≡ t)) ⊎ ((nat_eq i t ≡ false) × (i ≡ t → ⊥)) → asked_too ts (changed (λ w. record { incarnation = w.incarnation; asked = true }) t f) i ≡ asked_too (t ∷ ts) f i
        by_test (inl here) =
            let there : (t == i) ≡ true = eq-eqb t i (sym here.1) in
            (λ j. record { incarnation = (if here.0 j then record { incarnation = (f i).incarnation; asked = true } else f i).incarnation; asked = is_among ts i || (if here.0 j then record { incarnation = (f i).incarnation; asked = true } else f i).asked })
            ∙ (λ j. record { incarnation = (f i).incarnation; asked = or_true (is_among ts i) j })
            ∙ sym (λ j. record { incarnation = (f i).incarnation; asked = (there j || is_among ts i) || (f i).asked })
        by_test (inr other) =
            let apart : (t == i) ≡ false = ne_eqb t i (λ is. other.1 (sym is)) in
            ap (λ (w : Want). let x : Want = record { incarnation = w.incarnation; asked = is_among ts i || w.asked } in x) (ap (λ b. if b then record { incarnation = (f i).incarnation; asked = true } else f i) other.0)
            ∙ sym (λ j. record { incarnation = (f i).incarnation; asked = (apart j || is_among ts i) || (f i).asked })
