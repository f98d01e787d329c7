-- Tokens that are these lexemes and stand at these places.
use Rattle.std.proofs.Common.{◌≡◌, ℕ, ◌≤◌, false, List, [], ◌∷◌, ◌++◌, length, refl, ap, map}
use Rattle.std.specs.Prelude.{nat_lt}
use Rattle.circus_text.specs.declared.token.TokenKind.TheVariants.{Word, Sign}
use Rattle.circus_text.specs.Form.{IsWord, IsSign, longest_word, greatest_number}
use Rattle.circus_text.specs.Token.{Lexeme, IsSpelling, AreSpelled}
use Rattle.circus_text.proofs.Numbers.{decimal_spelling}
use Rattle.circus_syntax.specs.declared.named.Named.{Named}
use Rattle.circus_syntax.specs.declared.named.Numeral.{Numeral}
use Rattle.circus_syntax.specs.Placed.{word, Placed, Due, due, due_at, due_name, due_number, open_level, IsDue, AreDue}
use Rattle.circus_idl.specs.Lexemes.{number}
use Rattle.circus_type.specs.Obeys.{IsName}

-- the first of the places, and those behind it
abbrev pub here : List ℕ → ℕ
here [] = 0
here (p ∷ ps) = p

abbrev pub next : List ℕ → List ℕ
next [] = []
next (p ∷ ps) = ps

-- the places behind those of the lexemes
abbrev pub past : List Lexeme → List ℕ → List ℕ
past [] ps = ps
past (l ∷ ls) ps = past ls (next ps)

-- a lexeme at the first of the places, and lexemes at the places
abbrev pub token_at : Lexeme → List ℕ → Placed
token_at l ps = record { kind = l.kind; bytes = l.bytes; start = here ps }

abbrev pub placed : List Lexeme → List ℕ → List Placed
placed [] ps = []
placed (l ∷ ls) ps = token_at l ps ∷ placed ls (next ps)

-- a token without its place
abbrev pub lexeme_in : Placed → Lexeme
lexeme_in t = record { kind = t.kind; bytes = t.bytes }

-- tokens are their lexemes at their places
pub placed_is : (ts : List Placed) → ts ≡ placed (map lexeme_in ts) (map (λ (t : Placed). t.start) ts)
placed_is [] = refl
placed_is (t ∷ ts) = ap (λ us. t ∷ us) (placed_is ts)

-- the lexemes may stand in a text, and at the places they are what is due
pub data AreShown : List Due → List Lexeme → List ℕ → Type 0 where
  none : {ps : List ℕ} → AreShown [] [] ps
  more : {d : Due} {l : Lexeme} {ds : List Due} {ls : List Lexeme} {ps : List ℕ} → IsDue d (token_at l ps) → IsSpelling l.kind l.bytes → AreShown ds ls (next ps) → AreShown (d ∷ ds) (l ∷ ls) ps

pub are_due : {ds : List Due} {ls : List Lexeme} {ps : List ℕ} → AreShown ds ls ps → AreDue ds (placed ls ps)
are_due none = tt
are_due (more is spelled rest) = (is, are_due rest)

pub are_spelled : {ds : List Due} {ls : List Lexeme} {ps : List ℕ} → AreShown ds ls ps → AreSpelled ls
are_spelled none = tt
are_spelled (more is spelled rest) = (spelled, are_spelled rest)

-- what is shown, and what is shown behind it
pub shown_then : {ds es : List Due} {ls ms : List Lexeme} {ps : List ℕ} → AreShown ds ls ps → AreShown es ms (past ls ps) → AreShown (ds ++ es) (ls ++ ms) ps
shown_then none back = back
shown_then (more is spelled rest) back = more is spelled (shown_then rest back)

-- so is a level of it
pub level_shown : {ds : List Due} {ls : List Lexeme} {ps : List ℕ} → AreShown ds ls ps → AreShown (open_level ds) ls ps
level_shown none = none
level_shown (more is spelled rest) = more is spelled (level_shown rest)

abbrev pub named_at : List ℕ → List ℕ → Named
named_at name ps = record { name = name; at = here ps }

abbrev pub numeral_at : ℕ → List ℕ → Numeral
numeral_at n ps = record { value = n; at = here ps }

-- a name, a number, a word or a sign, and what is shown behind it
pub name_then : {name ps : List ℕ} {ds : List Due} {ls : List Lexeme} → IsName name → AreShown ds ls (next ps) → AreShown (due_name (named_at name ps) ∷ ds) (word name ∷ ls) ps
name_then named rest = more (refl, refl, refl) named.0 rest

pub number_then : {n : ℕ} {ps : List ℕ} {ds : List Due} {ls : List Lexeme} → n ≤ greatest_number → AreShown ds ls (next ps) → AreShown (due_number (numeral_at n ps) ∷ ds) (number n ∷ ls) ps
number_then {n} fits rest = let (spelled, value) = decimal_spelling n fits in more (refl, spelled, value, refl) spelled rest

pub fixed_then : {l : Lexeme} {ps : List ℕ} {ds : List Due} {ls : List Lexeme} → IsSpelling l.kind l.bytes → AreShown ds ls (next ps) → AreShown (due l ∷ ds) (l ∷ ls) ps
fixed_then spelled rest = more (refl, refl) spelled rest

pub first_then : {l : Lexeme} {ps : List ℕ} {ds : List Due} {ls : List Lexeme} → IsSpelling l.kind l.bytes → AreShown ds ls (next ps) → AreShown (due_at l (here ps) ∷ ds) (l ∷ ls) ps
first_then spelled rest = more (refl, refl, refl) spelled rest

-- words and signs that are written out
pub a_word : (w : List ℕ) → IsWord w → nat_lt longest_word (length w) ≡ false → IsSpelling Word w
a_word w formed short = record { formed = formed; no_bad_byte = rw short refl; no_long_number = refl }

pub a_sign : (w : List ℕ) → IsSign w → IsSpelling Sign w
a_sign w formed = record { formed = formed; no_bad_byte = refl; no_long_number = refl }
