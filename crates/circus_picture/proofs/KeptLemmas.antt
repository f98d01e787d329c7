-- What is kept of members' deeds, as they are added.
use Rattle.std.proofs.Common.{◌≡◌, ℕ, ◌<◌, ◌≤◌, Bool, true, false, cond, List, [], ◌∷◌, ◌++◌, length, map, refl, sym, ap, subst, ◌∙◌, append-nil, arith, eqb, eq-eqb, Option, Some}
use Rattle.std.specs.Prelude.{slice_get, slice_set}
use Rattle.std.proofs.lemmas.Bool.{eqb-true, eqb-false, ne_eqb}
use Rattle.std.proofs.lemmas.List.{map-append, length-set}
use Rattle.std.proofs.lemmas.List.Elements.{filter-append}
use Rattle.std.proofs.lemmas.Option.{slice_get_within}
use Rattle.circus_ring.proofs.Performing.{get_set_same, get_set_other}
use Rattle.circus_picture.specs.declared.deeds.Deed as keeps
use Rattle.circus_picture.specs.Deeds.{Deed, deeds_in}
use Rattle.circus_picture.specs.Seen.Kept.{deed_at, AreKept}

-- in its own step a deed stands behind those before
here : (before : List Deed) (deed : Deed) → deeds_in deed.step (before ++ deed ∷ []) ≡ deeds_in deed.step before ++ deed ∷ []
here before deed =
    filter-append (λ (d : Deed). eqb d.step deed.step) before (deed ∷ [])
    ∙ ap (λ b. deeds_in deed.step before ++ cond b (deed ∷ []) []) (eq-eqb deed.step deed.step refl)

-- in another step it doesn't stand
elsewhere : (before : List Deed) (step : ℕ) (deed : Deed) → (deed.step ≡ step → ⊥) → deeds_in step (before ++ deed ∷ []) ≡ deeds_in step before
elsewhere before step deed other =
    filter-append (λ (d : Deed). eqb d.step step) before (deed ∷ [])
    ∙ ap (λ b. deeds_in step before ++ cond b (deed ∷ []) []) (ne_eqb deed.step step other)
    ∙ append-nil (deeds_in step before)

same_some : {A : Type 0} (x y : A) → ◌≡◌ {A = Option A} (Some x) (Some y) → x ≡ y
same_some x y e = cc

-- a deed is added to those of its step
pub kept-noted : (count : ℕ) (before : List Deed) (lists : List (List keeps.Deed)) (step : ℕ) (deed : keeps.Deed) (own : List keeps.Deed)
    → slice_get lists step ≡ Some own → AreKept count before lists → AreKept count (before ++ deed_at step deed ∷ []) (slice_set lists step (own ++ deed ∷ []))
kept-noted count before lists step deed own at kept =
    record {
      all = length-set lists step (own ++ deed ∷ []) ∙ kept.all;
      each = λ other found is. by_step other found is (eqb other step) refl;
    }
  where
    within : step < length lists
    within = slice_get_within lists step own at

    by_step : (other : ℕ) (found : List keeps.Deed) → slice_get (slice_set lists step (own ++ deed ∷ [])) other ≡ Some found
        → (b : Bool) → eqb other step ≡ b → map (deed_at other) found ≡ deeds_in other (before ++ deed_at step deed ∷ [])
    by_step other found is true same =
        let at_step : other ≡ step = eqb-true other step same in
        let found_is : found ≡ own ++ deed ∷ [] =
        same_some found (own ++ deed ∷ []) (sym is ∙ ap (slice_get (slice_set lists step (own ++ deed ∷ []))) at_step ∙ get_set_same lists step (own ++ deed ∷ []) within) in
        ap (map (deed_at other)) found_is ∙ ap (λ s. map (deed_at s) (own ++ deed ∷ [])) at_step
        ∙ map-append (deed_at step) own (deed ∷ [])
        ∙ ap (λ l. l ++ deed_at step deed ∷ []) (kept.each step own at)
        ∙ sym (here before (deed_at step deed))
        ∙ ap (λ s. deeds_in s (before ++ deed_at step deed ∷ [])) (sym at_step)
    by_step other found is false same =
        let differs : other ≡ step → ⊥ = eqb-false other step same in
        kept.each other found (sym (get_set_other lists step other (own ++ deed ∷ []) differs) ∙ is)
        ∙ sym (elsewhere before other (deed_at step deed) (λ e. differs (sym e)))

-- one of a step behind the last isn't
pub kept-late : (count : ℕ) (before : List Deed) (lists : List (List keeps.Deed)) (step : ℕ) (deed : keeps.Deed)
    → length lists ≤ step → AreKept count before lists → AreKept count (before ++ deed_at step deed ∷ []) lists
kept-late count before lists step deed late kept =
    record {
      all = kept.all;
      each = λ other found is.
          let low : other < length lists = slice_get_within lists other found is in
          kept.each other found is ∙ sym (elsewhere before other (deed_at step deed) (λ (e : step ≡ other). omega (arith, e, low, late)));
    }

-- lists, in other words
pub kept-in : (count : ℕ) (deeds : List Deed) (lists also : List (List keeps.Deed)) → lists ≡ also → AreKept count deeds lists → AreKept count deeds also
kept-in count deeds lists also same kept = subst (λ (l : List (List keeps.Deed)). AreKept count deeds l) same kept

-- deeds, in other words
pub kept-as : (count : ℕ) (before also : List Deed) (lists : List (List keeps.Deed)) → before ≡ also → AreKept count before lists → AreKept count also lists
kept-as count before also lists same kept = subst (λ (l : List Deed). AreKept count l lists) same kept
