-- A comparison that is seen is read by its sign.
use Rattle.std.proofs.Common.{◌≡◌, Bool, true, false, cond, List, [], ◌∷◌, refl, subst}
use Rattle.std.specs.Prelude.{Option, Some, None}
use Rattle.circus_syntax.specs.declared.stopping.Stop.{Stop}
use Rattle.circus_syntax.specs.Placed.{Placed, is_lexeme}
use Rattle.circus_syntax.specs.Reader.{Reader, next, next_of, token_in, skipped_by}
use Rattle.circus_syntax.specs.Reading.{expect_token}
use Rattle.circus_place.specs.declared.condition.Comparison.{Comparison}
use Rattle.circus_place.specs.declared.condition.Comparison.TheVariants as by
use Rattle.circus_place.specs.Grammar.{sign_of}
use Rattle.circus_place.specs.Seen.Reading.{comparison_of, seen_comparison}

-- what holds of the one that is seen holds of it, and else of a later one
one_or_later : (holds : Comparison → Bool) (d c : Comparison) (later : Option Comparison) (b : Bool) → holds d ≡ b → (later ≡ Some c → holds c ≡ true) → cond b (Some d) later ≡ Some c → holds c ≡ true
one_or_later holds d c later true is others found = let same : d ≡ c = cc in subst (λ k. holds k ≡ true) same is
one_or_later holds d c later false is others found = others found

has_its_sign : (t : Placed) (c : Comparison) → comparison_of (Some t) ≡ Some c → is_lexeme (sign_of c) t ≡ true
has_its_sign t c found =
    let holds : Comparison → Bool = λ k. is_lexeme (sign_of k) t in
    one_or_later holds by.Equal c _ (holds by.Equal) refl
    (one_or_later holds by.Unequal c _ (holds by.Unequal) refl
    (one_or_later holds by.Less c _ (holds by.Less) refl
    (one_or_later holds by.AtMost c _ (holds by.AtMost) refl
    (one_or_later holds by.Greater c _ (holds by.Greater) refl
    (one_or_later holds by.AtLeast c _ (holds by.AtLeast) refl (λ none. absurd (cc)))))))
    found

-- its sign is the token that is left behind
pub sign_is : (c : Comparison) (r : Reader) → seen_comparison (next r) ≡ Some c → (expect_token (sign_of c) r).1 ≡ skipped_by r.stop r.rest r.end
unfolding seen_comparison expect_token
sign_is c r found = of_parts r.stop r.rest found
  where
    of_parts : (stop : Option Stop) (ts : List Placed) → comparison_of (next_of stop ts) ≡ Some c → (token_in {A = Unit {0}} (is_lexeme (sign_of c)) (λ t. tt) (λ at. tt) stop ts r.end).1 ≡ skipped_by stop ts r.end
    of_parts (Some s) ts found = refl
    of_parts None [] found = absurd (cc)
    of_parts None (t ∷ ts) found = rw (has_its_sign t c found) refl
