-- Names of nodes: which bytes they have.
use Rattle.std.proofs.Common.{◌≡◌, ◌∙◌, ◌≤◌, ◌||◌, ◌&&◌, ℕ, Bool, true, false, List, [], ◌∷◌, length, get_or, drop, ap, refl, sym, arith}
use Rattle.std.specs.Char.{is_ascii_alphabetic, is_ascii_alphanumeric}
use Rattle.std.specs.Int.{is_in_range}
use Rattle.std.specs.List.{list_all}
use Rattle.std.proofs.lemmas.Bool.{and_parts, or_left, or_right, false≢true, ne_eqb}
use Rattle.circus_collate.specs.Deployment.{is_word}
use Rattle.circus_schedule.specs.WrittenLine.{IsName}
use Rattle.circus_schedule.specs.Seen.Cut.{Lacks}

-- a word by its first byte and the others
pub is_word_by_first : (word : List ℕ) → 1 ≤ length word → is_word word ≡ (is_ascii_alphabetic (get_or word 0 0) && list_all is_ascii_alphanumeric (drop 1 word))
is_word_by_first [] some = absurd (omega arith)
is_word_by_first (b ∷ word) some = refl

others_lack : (byte : ℕ) → is_ascii_alphanumeric byte ≡ false → (name : List ℕ) → list_all is_ascii_alphanumeric name ≡ true → Lacks byte name
others_lack byte none [] all = tt
others_lack byte none (c ∷ name) all =
    let parts = and_parts (is_ascii_alphanumeric c) (list_all is_ascii_alphanumeric name) all in
    (ne_eqb c byte (λ same. false≢true (sym none ∙ ap is_ascii_alphanumeric (sym same) ∙ parts.0)), others_lack byte none name parts.1)

letter_in_word : (digit upper lower : Bool) → (upper || lower) ≡ true → ((digit || upper) || lower) ≡ true
letter_in_word digit true lower letter = or_left (digit || true) lower (or_right digit true refl)
letter_in_word digit false lower letter = or_right (digit || false) lower letter

-- a letter is a letter or a digit
alphabetic_in_word : (c : ℕ) → is_ascii_alphabetic c ≡ true → is_ascii_alphanumeric c ≡ true
alphabetic_in_word c letter = letter_in_word (is_in_range 48 57 c) (is_in_range 65 90 c) (is_in_range 97 122 c) letter

-- a name has letters and digits alone
pub name_lacks : (byte : ℕ) → is_ascii_alphanumeric byte ≡ false → (name : List ℕ) → IsName name → Lacks byte name
name_lacks byte none [] named = tt
name_lacks byte none (c ∷ name) named =
    let parts = and_parts (is_ascii_alphabetic c) (list_all is_ascii_alphanumeric name) named.0 in
    (ne_eqb c byte (λ same. false≢true (sym none ∙ ap is_ascii_alphanumeric (sym same) ∙ alphabetic_in_word c parts.0)), others_lack byte none name parts.1)
