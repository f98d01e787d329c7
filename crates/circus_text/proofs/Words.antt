-- Words are ASCII.
use Rattle.std.proofs.Common.{◌≡◌, ℕ, ◌<◌, Bool, true, false, List, [], ◌∷◌, sym, subst, arith}
use Rattle.std.specs.Prelude.{◌==◌, if◌then◌else◌, IsAscii}
use Rattle.std.specs.List.{AllByRecursion, list_all}
use Rattle.std.specs.Char.{is_ascii_digit, is_ascii_alphabetic}
use Rattle.std.proofs.lemmas.Bool.{and_parts}
use Rattle.std.proofs.lemmas.Bool.Decides.{nat_tests}
use Rattle.std.proofs.lemmas.List.Elements.{All-from_recursion}
use Rattle.std.proofs.lemmas.Str.Ascii.{IsAscii-from_all}
use Rattle.circus_text.specs.declared.byte_class.ByteClass.TheVariants.{Letter, Digit, Quote, Space, Mark, Other}
use Rattle.circus_text.specs.ByteClass.{quote, is_space, is_mark, class_of, is_word_class}
use Rattle.circus_text.specs.Form.{IsWord}

letter_small : (b : ℕ) → is_ascii_alphabetic b ≡ true → b < 128
letter_small b is = grind (arith, nat_tests)

digit_small : (b : ℕ) → is_ascii_digit b ≡ true → b < 128
digit_small b is = grind (arith, nat_tests)

word_byte : (b : ℕ) → is_word_class (class_of b) ≡ true → b < 128
word_byte b is = by_class (is_ascii_alphabetic b) (is_ascii_digit b) (b == quote) (is_space b) (is_mark b) (letter_small b) (digit_small b) is
  where
    by_class : (l d q s m : Bool) → (l ≡ true → b < 128) → (d ≡ true → b < 128) → is_word_class (if l then Letter else (if d then Digit else (if q then Quote else (if s then Space else (if m then Mark else Other))))) ≡ true → b < 128
    by_class true d q s m letter digit is = letter (λ i. true)
    by_class false true q s m letter digit is = digit (λ i. true)
    by_class false false true s m letter digit is = absurd (cc)
    by_class false false false true m letter digit is = absurd (cc)
    by_class false false false false true letter digit is = absurd (cc)
    by_class false false false false false letter digit is = absurd (cc)

bytes_small : (bs : List ℕ) → list_all (λ c. is_word_class (class_of c)) bs ≡ true → AllByRecursion (λ b. b < 128) bs
bytes_small [] all = tt
bytes_small (b ∷ bs) all =
    let (own, rest) = and_parts (is_word_class (class_of b)) (list_all (λ c. is_word_class (class_of c)) bs) all in
    (word_byte b own, bytes_small bs rest)

pub word_ascii : (w : List ℕ) → IsWord w → IsAscii w
word_ascii [] is = absurd is
word_ascii (b ∷ bs) is =
    let letter : is_word_class (class_of b) ≡ true = subst (λ c. is_word_class c ≡ true) (sym is.0) (λ i. true) in
    IsAscii-from_all (b ∷ bs) (All-from_recursion (λ c. c < 128) (b ∷ bs) (word_byte b letter, bytes_small bs is.1))
