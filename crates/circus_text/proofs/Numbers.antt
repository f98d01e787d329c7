-- The value of digits, digit by digit, and the digits of a value.
use Rattle.std.proofs.Common.{◌≡◌, ℕ, ◌+◌, ◌-◌, ◌*◌, ◌/◌, ◌<◌, ◌≤◌, true, false, List, [], ◌∷◌, length, get_or, take, refl, arith}
use Rattle.std.specs.Char.{digit_value, is_ascii_digit, is_ascii_alphabetic}
use Rattle.std.specs.Fmt.{decimal}
use Rattle.std.specs.List.{list_all}
use Rattle.std.specs.Str.Parse.{AllDigits}
use Rattle.std.proofs.lemmas.Bool.Decides.{nat_tests}
use Rattle.std.proofs.lemmas.Fmt.{decimal_is_IsNumeral}
use Rattle.std.proofs.lemmas.Int.Digits.{digits_value_more}
use Rattle.std.proofs.lemmas.List.Sums.{AllPass-from_list_all}
use Rattle.std.proofs.lemmas.Str.Parse.{digits_value-take-le}
use Rattle.circus_text.specs.declared.token.TokenKind.TheVariants.{Number}
use Rattle.circus_text.specs.ByteClass.{class_of, is_digit_class}
use Rattle.circus_text.specs.Form.{IsNumber, greatest_number, number_value}
use Rattle.circus_text.specs.Token.{IsSpelling}
use Rattle.circus_text.proofs.Fronts.{digit_class, class_chain}

-- what a digit is worth
digit_worth : (b : ℕ) → is_digit_class (class_of b) ≡ true → digit_value b ≡ b - 48
digit_worth b e =
    let digit : is_ascii_digit b ≡ true = (class_chain _ (is_ascii_digit b) _ _ _ (class_of b) refl).digit (digit_class (class_of b) e) in
    grind (arith, nat_tests)

-- the value with the next digit
pub value_more : (xs : List ℕ) (i : ℕ) → IsNumber xs → i < length xs → number_value (take (i + 1) xs) ≡ 10 * number_value (take i xs) + (get_or xs i 0 - 48)
value_more xs i number within =
    omega (arith, digits_value_more 10 xs i within, digit_worth (get_or xs i 0) (AllPass-from_list_all (λ c. is_digit_class (class_of c)) xs number.1 i 0 within))

-- the next digit makes the value too great
pub too_great : (xs : List ℕ) (i value unit : ℕ) → IsNumber xs → i < length xs → value ≡ number_value (take i xs) → unit ≡ get_or xs i 0 - 48 → (greatest_number - unit) / 10 < value → number_value xs ≤ greatest_number → ⊥
too_great xs i value unit number within is digit great fits =
    omega (arith, value_more xs i number within, digits_value-take-le 10 xs (i + 1) (omega arith))

digit_byte : (b : ℕ) → digit_value b < 10 → is_digit_class (class_of b) ≡ true
digit_byte b digit =
    let no_letter : is_ascii_alphabetic b ≡ false = grind (arith, nat_tests) in
    let yes : is_ascii_digit b ≡ true = grind (arith, nat_tests) in
    rw (no_letter, yes) refl

all_digits : (w : List ℕ) → AllDigits 10 w → list_all (λ c. is_digit_class (class_of c)) w ≡ true
all_digits [] digits = refl
all_digits (b ∷ bs) (digit, digits) = rw (digit_byte b digit, all_digits bs digits) refl

-- What `{}` writes for a number is a number of that value.
pub decimal_spelling : (n : ℕ) → n ≤ greatest_number → IsSpelling Number (decimal n) × (number_value (decimal n) ≡ n)
decimal_spelling n fits =
    let (numeral, value) = decimal_is_IsNumeral n (omega arith) in (
      record {
        formed = (numeral.0, all_digits (decimal n) numeral.1);
        no_bad_byte = refl;
        no_long_number = grind (arith, nat_tests, value);
      },
      value,
    )
