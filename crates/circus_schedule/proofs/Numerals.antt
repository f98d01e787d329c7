-- Texts, and the numbers that they spell in decimal.
use Rattle.std.proofs.Common.{◌≡◌, ◌≢◌, ◌+◌, ◌*◌, ◌<◌, ◌^◌, ℕ, zero, suc, List, [], ◌∷◌, Option, Some, None, length, get_or, take, inl, inr, subst, sym, ap, ◌∙◌, arith}
use Rattle.std.specs.Char.{digit_value}
use Rattle.std.specs.Fmt.{decimal}
use Rattle.std.specs.Option.{IfNone, IfSome, SomeIff}
use Rattle.std.specs.Str.Parse.{AllDigits, digits_value}
use Rattle.std.proofs.lemmas.Bool.{cases_lt}
use Rattle.std.proofs.lemmas.Fmt.{decimal-digits_value, decimal_digit, decimal_nonempty, digits_decimal, digits_value-decimal, first_decimal}
use Rattle.std.proofs.lemmas.Int.Digits.{digits_value_more}
use Rattle.std.proofs.lemmas.Str.Parse.{IsNumeralModel, digits_value-take-le, not_in_digits, numerals_by_value, tells_digits}

-- decimal digits and their number, in std's words
pub own : IsNumeralModel (AllDigits 10) (digits_value 10)
own = numerals_by_value (AllDigits 10) tells_digits

-- how a number begins: with no sign, and with a zero only where it is zero
abbrev pub BeginsAsDecimal : List ℕ → Type 0
BeginsAsDecimal text = (0 < length text) × (get_or text 0 0 ≢ 43) × (get_or text 0 0 ≡ 48 → length text ≡ 1)

one_digit : (n : ℕ) → n < 2 ^ 64 → get_or (decimal n) 0 0 ≡ 48 → length (decimal n) ≡ 1
one_digit n small begins =
    elim (cases_lt 0 n) [
      | inl positive ↦ absurd (omega (arith, begins, first_decimal n positive small))
      | inr none ↦ ap length (decimal_digit n (omega arith))
    ]

pub decimal_begins : (n : ℕ) → n < 2 ^ 64 → BeginsAsDecimal (decimal n)
decimal_begins n small = (
  decimal_nonempty n small,
  not_in_digits own (decimal n) 43 (digits_decimal own n small) (λ range. omega arith) 0 (decimal_nonempty n small),
  one_digit n small,
)

-- each byte of digits is one
digit_below : (text : List ℕ) (place : ℕ) → AllDigits 10 text → place < length text → digit_value (get_or text place 0) < 10
digit_below [] place all inside = absurd (omega arith)
digit_below (byte ∷ text) zero all inside = all.0
digit_below (byte ∷ text) (suc place) all inside = digit_below text place all.1 (omega arith)

-- where one byte more is no digit, or makes the number too great, the text is no number
pub ends_no_number : (text : List ℕ) (place number : ℕ) → place < length text → number ≡ digits_value 10 (take place text)
    → ((digit_value (get_or text place 0) < 10) × (number * 10 + digit_value (get_or text place 0) < 2 ^ 64) → ⊥) → AllDigits 10 text × (digits_value 10 text < 2 ^ 64) → ⊥
ends_no_number text place number inside is none whole =
    none (
      digit_below text place whole.0 inside,
      omega (arith, whole.1, is, digits_value_more 10 text place inside, digits_value-take-le 10 text (place + 1) (omega arith)),
    )

-- what is read of digits is what the text spells, and where nothing is read it spells no number
pub read_is_spelled : (text : List ℕ) (r : Option ℕ) → BeginsAsDecimal text → SomeIff r (AllDigits 10 text × (digits_value 10 text < 2 ^ 64)) (digits_value 10 text)
    → IfSome r (λ n. text ≡ decimal n) × IfNone r ((n : ℕ) → n < 2 ^ 64 → text ≢ decimal n)
read_is_spelled text (Some n) begins read =
    (sym (decimal-digits_value own text read.0.0 begins.0 begins.2 read.0.1) ∙ ap decimal (sym read.1), tt)
read_is_spelled text None begins read = (
  tt,
  λ n small spelled.
      read (subst (AllDigits 10) (sym spelled) (digits_decimal own n small), omega (arith, small, ap (digits_value 10) spelled, digits_value-decimal own n small)),
)
