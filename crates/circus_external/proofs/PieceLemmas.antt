-- What stands at a place of bytes, read there.
use Rattle.std.proofs.Common.{◌≡◌, ℕ, ◌+◌, ◌<◌, ◌≤◌, nat_eq, not, List, [], ◌∷◌, length, drop, Some, sym, ap, ◌∙◌, arith, length-drop}
use Rattle.std.specs.Prelude.{slice_index}
use Rattle.std.proofs.lemmas.List.{drop-drop, get_or-drop}
use Rattle.std.proofs.lemmas.Option.{slice_get-get_or}
use Rattle.std.specs.Option.{option_eq}
use Rattle.std.specs.List.{slice_get}
use Rattle.circus_external.specs.Octets.{first_word, first_long}
use Rattle.circus_external.specs.Answer.{found}
use Rattle.circus_external.specs.Reading.{word_read, long_read, number_read}

first_word_len : (bs : List ℕ) (n : ℕ) → first_word bs ≡ Some n → 2 ≤ length bs
first_word_len [] n is = cc
first_word_len (a ∷ []) n is = cc
first_word_len (a ∷ b ∷ bs) n is = omega arith

first_long_len : (bs : List ℕ) (n : ℕ) → first_long bs ≡ Some n → 4 ≤ length bs
first_long_len [] n is = cc
first_long_len (a ∷ []) n is = cc
first_long_len (a ∷ b ∷ []) n is = cc
first_long_len (a ∷ b ∷ c ∷ []) n is = cc
first_long_len (a ∷ b ∷ c ∷ d ∷ bs) n is = omega arith

pub word_given : (bs : List ℕ) (at n : ℕ) → first_word (drop at bs) ≡ Some n → (at + 2 ≤ length bs) × (word_read at (drop at bs) ≡ found n (at + 2) (drop (at + 2) bs))
word_given bs at n is =
    (omega (arith, first_word_len (drop at bs) n is, length-drop at bs), ap (λ o. number_read o 2 at (drop at bs)) is ∙ ap (found n (at + 2)) (drop-drop 2 at bs))

pub long_given : (bs : List ℕ) (at n : ℕ) → first_long (drop at bs) ≡ Some n → (at + 4 ≤ length bs) × (long_read at (drop at bs) ≡ found n (at + 4) (drop (at + 4) bs))
long_given bs at n is =
    (omega (arith, first_long_len (drop at bs) n is, length-drop at bs), ap (λ o. number_read o 4 at (drop at bs)) is ∙ ap (found n (at + 4)) (drop-drop 4 at bs))

-- whether the byte behind is not zero
pub bad_byte : (bs : List ℕ) (at n : ℕ) → at + n < length bs → not (option_eq nat_eq (slice_get bs (at + n)) (Some 0)) ≡ not (nat_eq (slice_index (drop at bs) n) 0)
bad_byte bs at n few =
    ap (λ o. not (option_eq nat_eq o (Some 0))) (slice_get-get_or bs (at + n) 0 few) ∙ ap (λ b. not (nat_eq b 0)) (sym (get_or-drop at bs n 0))
