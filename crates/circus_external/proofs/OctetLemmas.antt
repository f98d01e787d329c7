-- Numbers of two and of four bytes by the bytes at their places.
use Rattle.std.proofs.Common.{◌≡◌, ℕ, zero, suc, ◌+◌, ◌<◌, ◌^◌, List, [], ◌∷◌, ◌++◌, length, drop, get_or, slice_get, Some, None, refl, sym, ap, ◌∙◌, arith}
use Rattle.std.proofs.lemmas.Nat.{be_bytes_2, be_bytes_4, from_be_bytes-to_be_bytes_2, from_be_bytes-to_be_bytes_4}
use Rattle.std.specs.Int.{w16, w32, from_be_bytes}
use Rattle.circus_external.specs.Octets.{word, long, first_word, first_long}

pub first_word_none : (bs : List ℕ) (at : ℕ) → length bs < at + 2 → first_word (drop at bs) ≡ None
first_word_none [] zero short = refl
first_word_none [] (suc at) short = refl
first_word_none (a ∷ []) zero short = refl
first_word_none (a ∷ b ∷ bs) zero short = absurd (omega arith)
first_word_none (a ∷ bs) (suc at) short = first_word_none bs at (omega arith)

pub first_long_none : (bs : List ℕ) (at : ℕ) → length bs < at + 4 → first_long (drop at bs) ≡ None
first_long_none [] zero short = refl
first_long_none [] (suc at) short = refl
first_long_none (a ∷ []) zero short = refl
first_long_none (a ∷ b ∷ []) zero short = refl
first_long_none (a ∷ b ∷ c ∷ []) zero short = refl
first_long_none (a ∷ b ∷ c ∷ d ∷ bs) zero short = absurd (omega arith)
first_long_none (a ∷ bs) (suc at) short = first_long_none bs at (omega arith)

drop_at_byte : (octets : List ℕ) (at b : ℕ) → slice_get octets at ≡ Some b → drop at octets ≡ b ∷ drop (at + 1) octets
drop_at_byte [] zero b e = cc
drop_at_byte [] (suc at) b e = cc
drop_at_byte (x ∷ xs) zero b e = let same : x ≡ b = cc in ap (λ w. w ∷ xs) same
drop_at_byte (x ∷ xs) (suc at) b e =
    let place : suc at + 1 ≡ suc (at + 1) = omega arith in
    drop_at_byte xs at b e ∙ ap (λ k. b ∷ drop k (x ∷ xs)) (sym place)

two_small : (a b i : ℕ) → a < 256 → b < 256 → get_or (a ∷ b ∷ []) i 0 < 256
two_small a b zero p q = p
two_small a b (suc zero) p q = q
two_small a b (suc (suc i)) p q = omega arith

four_small : (a b c d i : ℕ) → a < 256 → b < 256 → c < 256 → d < 256 → get_or (a ∷ b ∷ c ∷ d ∷ []) i 0 < 256
four_small a b c d zero p q r s = p
four_small a b c d (suc zero) p q r s = q
four_small a b c d (suc (suc zero)) p q r s = r
four_small a b c d (suc (suc (suc zero))) p q r s = s
four_small a b c d (suc (suc (suc (suc i)))) p q r s = omega arith

-- the word of two bytes stands where they do
pub word_stands : (octets : List ℕ) (at a b n : ℕ) → slice_get octets at ≡ Some a → slice_get octets (at + 1) ≡ Some b
    → a < 256 → b < 256 → n ≡ from_be_bytes w16 (a ∷ b ∷ []) → drop at octets ≡ word n ++ drop (at + 2) octets
word_stands octets at a b n first second p q is =
    let bytes = be_bytes_2 (a ∷ b ∷ []) n refl (λ i. two_small a b i p q) is in
    let place : (at + 1) + 1 ≡ at + 2 = omega arith in
    let here : drop at octets ≡ a ∷ b ∷ drop (at + 2) octets =
    drop_at_byte octets at a first ∙ ap (λ w. a ∷ w) (drop_at_byte octets (at + 1) b second ∙ ap (λ k. b ∷ drop k octets) place) in
    here ∙ ap (λ w. w ++ drop (at + 2) octets) (sym bytes)

-- the number of four bytes stands where they do
pub long_stands : (octets : List ℕ) (at a b c d n : ℕ) → slice_get octets at ≡ Some a → slice_get octets (at + 1) ≡ Some b
    → slice_get octets (at + 2) ≡ Some c → slice_get octets (at + 3) ≡ Some d
    → a < 256 → b < 256 → c < 256 → d < 256 → n ≡ from_be_bytes w32 (a ∷ b ∷ c ∷ d ∷ []) → drop at octets ≡ long n ++ drop (at + 4) octets
long_stands octets at a b c d n first second third fourth p q r s is =
    let bytes = be_bytes_4 (a ∷ b ∷ c ∷ d ∷ []) n refl (λ i. four_small a b c d i p q r s) is in
    let two : (at + 1) + 1 ≡ at + 2 = omega arith in
    let three : (at + 2) + 1 ≡ at + 3 = omega arith in
    let four : (at + 3) + 1 ≡ at + 4 = omega arith in
    let low : drop (at + 2) octets ≡ c ∷ d ∷ drop (at + 4) octets =
    drop_at_byte octets (at + 2) c third ∙ ap (λ k. c ∷ drop k octets) three
    ∙ ap (λ w. c ∷ w) (drop_at_byte octets (at + 3) d fourth ∙ ap (λ k. d ∷ drop k octets) four) in
    let here : drop at octets ≡ a ∷ b ∷ c ∷ d ∷ drop (at + 4) octets =
    drop_at_byte octets at a first
    ∙ ap (λ w. a ∷ w) (drop_at_byte octets (at + 1) b second ∙ ap (λ k. b ∷ drop k octets) two ∙ ap (λ w. b ∷ w) low) in
    here ∙ ap (λ w. w ++ drop (at + 4) octets) (sym bytes)

-- what stands at a place is the first word from there on
pub first_word_some : (octets : List ℕ) (at n : ℕ) → n < 65536 → drop at octets ≡ word n ++ drop (at + 2) octets → first_word (drop at octets) ≡ Some n
first_word_some octets at n room stands = ap first_word stands ∙ ap Some (from_be_bytes-to_be_bytes_2 n room)

pub first_long_some : (octets : List ℕ) (at n : ℕ) → n < 2 ^ 32 → drop at octets ≡ long n ++ drop (at + 4) octets → first_long (drop at octets) ≡ Some n
first_long_some octets at n room stands = ap first_long stands ∙ ap Some (from_be_bytes-to_be_bytes_4 n room)
