-- Which datagrams are marked, line by line.
use Rattle.std.proofs.Common.{◌≡◌, ℕ, ◌<◌, ◌≤◌, Bool, true, false, List, [], ◌∷◌, ◌++◌, length, refl, sym, ap, subst, ◌∙◌, arith, eqb, Some}
use Rattle.std.specs.Prelude.{slice_get, slice_set, ◌||◌}
use Rattle.std.proofs.lemmas.Bool.{eqb-true, eqb-false, ne_eqb}
use Rattle.std.proofs.lemmas.List.Folds.{list_any-append}
use Rattle.std.proofs.lemmas.Option.{slice_get_within}
use Rattle.circus_ring.proofs.Performing.{get_set_same, get_set_other}
use Rattle.circus_schedule.specs.declared.line.Line.{Line}
use Rattle.circus_schedule.specs.declared.line.Line.TheVariants.{Deliver}
use Rattle.circus_picture.specs.Rows.{is_delivery_of, is_delivered}
use Rattle.circus_picture.specs.Seen.Drawing.{AreMarked}

or_false : (b : Bool) → (b || false) ≡ b
or_false true = refl
or_false false = refl

or_true : (b : Bool) → (b || true) ≡ true
or_true true = refl
or_true false = refl

-- one line more, which delivers this or doesn't
more : (before : List Line) (line : Line) (number : ℕ) → is_delivered (before ++ line ∷ []) number ≡ (is_delivered before number || is_delivery_of number line)
more before line number = list_any-append (is_delivery_of number) before (line ∷ []) ∙ ap (λ b. is_delivered before number || b) (or_false (is_delivery_of number line))

-- a delivery marks its datagram
pub marked-more : (count : ℕ) (before : List Line) (delivered : ℕ) (marks : List Bool) → delivered < length marks
    → AreMarked count before marks → AreMarked count (before ++ Deliver delivered ∷ []) (slice_set marks delivered true)
marked-more count before delivered marks there marked = λ number low. by_number number low (eqb delivered number) refl
  where
    by_number : (number : ℕ) → number < count → (b : Bool) → eqb delivered number ≡ b
        → slice_get (slice_set marks delivered true) number ≡ Some (is_delivered (before ++ Deliver delivered ∷ []) number)
    by_number number low true same =
        let e : delivered ≡ number = eqb-true delivered number same in
        subst (λ n. slice_get (slice_set marks delivered true) n ≡ Some true) e (get_set_same marks delivered true there)
        ∙ ap Some (sym (more before (Deliver delivered) number ∙ ap (λ b. is_delivered before number || b) same ∙ or_true (is_delivered before number)))
    by_number number low false same =
        get_set_other marks delivered number true (λ e. eqb-false delivered number same (sym e)) ∙ marked number low
        ∙ ap Some (sym (more before (Deliver delivered) number ∙ ap (λ b. is_delivered before number || b) same ∙ or_false (is_delivered before number)))

-- one that isn't there can't be marked
pub marked-late : (count : ℕ) (before : List Line) (delivered : ℕ) (marks : List Bool) → length marks ≤ delivered
    → AreMarked count before marks → AreMarked count (before ++ Deliver delivered ∷ []) marks
marked-late count before delivered marks late marked = λ number low.
    let within : number < length marks = slice_get_within marks number (is_delivered before number) (marked number low) in
    marked number low
    ∙ ap Some (sym (more before (Deliver delivered) number
    ∙ ap (λ b. is_delivered before number || b) (ne_eqb delivered number (λ (e : delivered ≡ number). omega (arith, e, within, late)))
    ∙ or_false (is_delivered before number)))
