-- What is shown of lists that aren't empty, and one thing written behind another.
use Rattle.std.proofs.Common.{◌≡◌, ℕ, ◌+◌, ◌<◌, drop, get_or, List, [], ◌∷◌, ◌++◌, refl, ◌∙◌, ap, append_assoc, append-nil, sym, false, nat_eq, length, Result, Ok, Err}
use Rattle.std.specs.Prelude.{codes, OnOk}
use Rattle.circus_value.specs.ShapeTree.{FieldTree}
use Rattle.circus_idl.specs.declared.interface.DeclaredError.{DeclaredError}
use Rattle.circus_syntax.specs.Placed.{word}
use Rattle.circus_idl.specs.Lexemes.{lexemes_behind_spaces}
use Rattle.circus_idl.specs.Shown.{results_lexemes, fields_lexemes, reports_lexemes, names_lexemes}
use Rattle.circus_text.specs.Token.{Lexeme, text_with_spaces}
use Rattle.std.proofs.lemmas.Grind.{flat_map-append}
use Rattle.std.specs.List.{flat_map}
use Rattle.circus_type.proofs.Dropped.{drop_more}

pub results_some : (fs : List FieldTree) → (fs ≡ [] → ⊥) → results_lexemes fs ≡ word (codes "RETURNS") ∷ fields_lexemes fs
results_some [] some = absurd (some refl)
results_some (f ∷ fs) some = refl

pub reports_some : (errors : List DeclaredError) (numbers : List ℕ) → nat_eq (length numbers) 0 ≡ false → reports_lexemes errors numbers ≡ word (codes "REPORTS") ∷ names_lexemes errors numbers
reports_some errors [] some = absurd (cc)
reports_some errors (n ∷ numbers) some = refl

-- the first token has no space before it
pub spaced_led : (l : Lexeme) (ls : List Lexeme) → text_with_spaces (l ∷ ls) ≡ l.bytes ++ lexemes_behind_spaces ls
spaced_led l [] = sym (append-nil l.bytes)
spaced_led l (m ∷ ls) = ap (λ xs. l.bytes ++ 32 ∷ xs) (spaced_led m ls)

-- what is written behind a
pub onward : {A E : Type 0} (r : Result A E) (new mid old a b : List ℕ) → mid ≡ old ++ a → OnOk r (new ≡ mid ++ b) → OnOk r (new ≡ old ++ (a ++ b))
onward (Ok x) new mid old a b first then = then ∙ ap (λ xs. xs ++ b) first ∙ append_assoc old a b
onward (Err e) new mid old a b first then = then

-- four parts, one behind the other
pub whole : (n : List ℕ) (a b e : List Lexeme) → ((n ++ lexemes_behind_spaces a) ++ lexemes_behind_spaces b) ++ lexemes_behind_spaces e ≡ n ++ lexemes_behind_spaces ((a ++ b) ++ e)
whole n a b e = simp (flat_map-append, append_assoc)

-- one list of tokens behind another
pub led_more : (old : List ℕ) (a b : List Lexeme) → (old ++ lexemes_behind_spaces a) ++ lexemes_behind_spaces b ≡ old ++ lexemes_behind_spaces (a ++ b)
led_more old a b = simp (flat_map-append, append_assoc)

pub led_onward : {A E : Type 0} (r : Result A E) (new mid old : List ℕ) (a b : List Lexeme) → mid ≡ old ++ lexemes_behind_spaces a → OnOk r (new ≡ mid ++ lexemes_behind_spaces b) → OnOk r (new ≡ old ++ lexemes_behind_spaces (a ++ b))
led_onward (Ok x) new mid old a b first then = then ∙ ap (λ xs. xs ++ lexemes_behind_spaces b) first ∙ led_more old a b
led_onward (Err e) new mid old a b first then = then

-- one more item is written
pub each_more : {X : Type 0} (f : X → List Lexeme) (xs : List X) (i : ℕ) (x : X) (new mid whole : List ℕ) → i < length xs → x ≡ get_or xs i x → new ≡ mid ++ lexemes_behind_spaces (f x) → mid ++ lexemes_behind_spaces (flat_map f (drop i xs)) ≡ whole → new ++ lexemes_behind_spaces (flat_map f (drop (i + 1) xs)) ≡ whole
each_more f xs i x new mid whole below is then before =
    ap (λ w. w ++ lexemes_behind_spaces (flat_map f (drop (i + 1) xs))) then ∙ led_more mid (f x) (flat_map f (drop (i + 1) xs))
    ∙ ap (λ ys. mid ++ lexemes_behind_spaces (flat_map f ys)) (sym (drop_more xs i x below is)) ∙ before
