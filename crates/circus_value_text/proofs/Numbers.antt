-- Numbers in front of a text.
use Rattle.std.proofs.Common.{◌≡◌, ◌∙◌, ℕ, zero, suc, ◌+◌, ◌-◌, ◌<◌, ◌≤◌, ◌^◌, ℤ, pos, negsuc, Bool, true, false, cond, ◌&&◌, ◌||◌, not, nat_eq, nat_le, List, [], ◌∷◌, ◌++◌, length, get_or, take, drop, Option, Some, None, refl, sym, ap, arith, take-append-drop, eq-eqb, ne_eqb, le-leb, lt-ltb, leb-true, one-add, true≢false}
use Rattle.std.specs.Char.{is_ascii_digit}
use Rattle.std.specs.Int.{IsInRange}
use Rattle.std.specs.Fmt.{decimal, signed_decimal}
use Rattle.std.specs.List.{prefix_len}
use Rattle.std.specs.Str.Parse.{AllDigits, digits_value}
use Rattle.std.proofs.lemmas.Bool.{eqb-true, ltb-true}
use Rattle.std.proofs.lemmas.Bool.Decides.{nat_tests}
use Rattle.std.proofs.lemmas.Fmt.{decimal-digits_value, digits_decimal, digits_value-decimal}
use Rattle.std.proofs.lemmas.Str.Parse.{digit_from_value}
use Rattle.circus_value.specs.Fits.{is_signed_below}
use Rattle.circus_schedule.proofs.Numerals.{own, decimal_begins}
use Rattle.circus_value_text.specs.Reading.{and_then, seen_as, behind_prefix, read_meaning, is_numeral, number_of, number_read, negate, negative_read, by_sign, signed_read}
use Rattle.circus_value_text.specs.Stopping.{Stops}
use Rattle.circus_value_text.proofs.Marks.{pair_is, passed_stands, and_then_some, seen_as_some}

-- ---- digits

digit_is : (b : ℕ) (rest : List ℕ) → AllDigits 10 (b ∷ rest) → is_ascii_digit b ≡ true
digit_is b rest all = let range = digit_from_value b all.0 in grind (arith, nat_tests)

-- digits before what begins with none
digits_before : (digits rest : List ℕ) → AllDigits 10 digits → Stops rest → prefix_len is_ascii_digit (digits ++ rest) ≡ length digits
digits_before [] rest all stops = stops
digits_before (b ∷ digits) rest all stops =
    let others = digits_before digits rest all.1 stops in
    let longer : 1 + prefix_len is_ascii_digit (digits ++ rest) ≡ suc (length digits) = omega (arith, others) in
    ap (λ is. cond is (1 + prefix_len is_ascii_digit (digits ++ rest)) 0) (digit_is b digits all) ∙ longer

digit_value_small : (b : ℕ) (rest : List ℕ) → is_ascii_digit b ≡ true → AllDigits 10 rest → AllDigits 10 (b ∷ rest)
digit_value_small b rest is all = own.from (b ∷ rest) (own.to (b ∷ rest) (grind (arith, nat_tests), all))

pub all_digits : (text : List ℕ) → AllDigits 10 (take (prefix_len is_ascii_digit text) text)
all_digits [] = tt
all_digits (b ∷ text) = by_digit (is_ascii_digit b) refl (all_digits text)
  where
    by_digit : (is : Bool) → is_ascii_digit b ≡ is → AllDigits 10 (take (prefix_len is_ascii_digit text) text) → AllDigits 10 (take (cond is (1 + prefix_len is_ascii_digit text) 0) (b ∷ text))
    by_digit true is others = rw one-add (digit_value_small b (take (prefix_len is_ascii_digit text) text) is others)
    by_digit false is others = tt

-- ---- numerals

begins_numeral : (digits : List ℕ) → 0 < length digits → (get_or digits 0 0 ≡ 48 → length digits ≡ 1) → is_numeral digits ≡ true
begins_numeral [] some alone = absurd (omega (arith, some))
begins_numeral (b ∷ []) some alone = by_zero (nat_eq b 48)
  where
    by_zero : (is : Bool) → (not is || true) ≡ true
    by_zero true = refl
    by_zero false = refl
begins_numeral (b ∷ c ∷ digits) some alone = by_zero (nat_eq b 48) refl
  where
    by_zero : (is : Bool) → nat_eq b 48 ≡ is → (not is || false) ≡ true
    by_zero true is = let one = alone (eqb-true b 48 is) in absurd (omega (arith, one))
    by_zero false is = refl

numeral_begins : (digits : List ℕ) → is_numeral digits ≡ true → (0 < length digits) × (get_or digits 0 0 ≡ 48 → length digits ≡ 1)
numeral_begins [] is = cc
numeral_begins (b ∷ []) is = (omega arith, λ same. refl)
numeral_begins (b ∷ c ∷ digits) is = (omega arith, λ same. absurd (true≢false (sym is ∙ ap (λ z. not z || false) (eq-eqb b 48 same))))

pub number_of_decimal : (greatest n : ℕ) → n ≤ greatest → greatest < 2 ^ 64 → number_of greatest (decimal n) ≡ Some n
number_of_decimal greatest n small short =
    let begins = decimal_begins n (omega arith) in
    let value : digits_value 10 (decimal n) ≡ n = digits_value-decimal own n (omega arith) in
    ap (λ is. cond (is && nat_le (digits_value 10 (decimal n)) greatest) (Some (digits_value 10 (decimal n))) None) (begins_numeral (decimal n) begins.0 begins.2)
    ∙ ap (λ v. cond (nat_le v greatest) (Some v) None) value
    ∙ ap (λ is. cond is (Some n) None) (le-leb n greatest small)

pub decimal_of_number : (greatest n : ℕ) (digits : List ℕ) → greatest < 2 ^ 64 → AllDigits 10 digits → number_of greatest digits ≡ Some n → (digits ≡ decimal n) × (n ≤ greatest)
decimal_of_number greatest n digits short all is = by_tests (is_numeral digits) (nat_le (digits_value 10 digits) greatest) refl refl is
  where
    by_tests : (numeral within : Bool) → is_numeral digits ≡ numeral → nat_le (digits_value 10 digits) greatest ≡ within → cond (numeral && within) (Some (digits_value 10 digits)) None ≡ Some n → (digits ≡ decimal n) × (n ≤ greatest)
    by_tests true true numeral within is =
        let value : digits_value 10 digits ≡ n = cc in
        let small : digits_value 10 digits ≤ greatest = leb-true (digits_value 10 digits) greatest within in
        let begins = numeral_begins digits numeral in
        (sym (decimal-digits_value own digits all begins.0 begins.1 (omega arith)) ∙ ap decimal value, omega (arith, small, value))
    by_tests true false numeral within is = cc
    by_tests false within numeral tested is = cc

-- ---- numbers

drop_exactly : (xs ys : List ℕ) → drop (length xs) (xs ++ ys) ≡ ys
drop_exactly [] ys = refl
drop_exactly (x ∷ xs) ys = drop_exactly xs ys

take_exactly : (xs ys : List ℕ) → take (length xs) (xs ++ ys) ≡ xs
take_exactly [] ys = refl
take_exactly (x ∷ xs) ys = ap (λ zs. x ∷ zs) (take_exactly xs ys)

pub number_complete : (greatest n : ℕ) (rest : List ℕ) → n ≤ greatest → greatest < 2 ^ 64 → Stops rest → number_read greatest (decimal n ++ rest) ≡ Some (n, rest)
number_complete greatest n rest small short stops =
    let count : prefix_len is_ascii_digit (decimal n ++ rest) ≡ length (decimal n) = digits_before (decimal n) rest (digits_decimal own n (omega arith)) stops in
    ap (λ k. read_meaning (number_of greatest (take k (decimal n ++ rest))) (drop k (decimal n ++ rest))) count
    ∙ ap (λ digits. read_meaning (number_of greatest digits) (drop (length (decimal n)) (decimal n ++ rest))) (take_exactly (decimal n) rest)
    ∙ ap (λ found. read_meaning found (drop (length (decimal n)) (decimal n ++ rest))) (number_of_decimal greatest n small short)
    ∙ ap (λ later. Some (n, later)) (drop_exactly (decimal n) rest)

meant_some : {A : Type 0} (found : Option A) (later : List ℕ) (a : A) (rest : List ℕ) → read_meaning found later ≡ Some (a, rest) → (found ≡ Some a) × (later ≡ rest)
meant_some (Some b) later a rest is = let parts = pair_is b a later rest is in ((λ i. Some (parts.0 i)), parts.1)
meant_some None later a rest is = cc

pub number_sound : (greatest n : ℕ) (text rest : List ℕ) → greatest < 2 ^ 64 → number_read greatest text ≡ Some (n, rest) → (text ≡ decimal n ++ rest) × (n ≤ greatest)
number_sound greatest n text rest short is =
    let k = prefix_len is_ascii_digit text in
    let parts = meant_some (number_of greatest (take k text)) (drop k text) n rest is in
    let digits = decimal_of_number greatest n (take k text) short (all_digits text) parts.0 in
    (sym (take-append-drop k text) ∙ (λ i. digits.0 i ++ parts.1 i), digits.1)

-- ---- signed numbers

-- a mark that is no digit begins no number
no_number : (mark : ℕ) (digits rest : List ℕ) → ((d : ℕ) → IsInRange 48 57 d → d ≡ mark → ⊥) → AllDigits 10 digits → 0 < length digits → behind_prefix (mark ∷ []) (digits ++ rest) ≡ None
no_number mark [] rest other all some = absurd (omega (arith, some))
no_number mark (b ∷ digits) rest other all some =
    ap (λ same. cond same (Some (digits ++ rest)) None) (ne_eqb b mark (other b (digit_from_value b all.0)))

no_sign : (digits : List ℕ) (rest : List ℕ) → AllDigits 10 digits → 0 < length digits → behind_prefix (45 ∷ []) (digits ++ rest) ≡ None
no_sign digits rest all some = no_number 45 digits rest (λ d range same. omega (arith, range, same)) all some

-- as a closing brace
pub no_brace : (n : ℕ) (rest : List ℕ) → n < 2 ^ 64 → behind_prefix (125 ∷ []) (decimal n ++ rest) ≡ None
no_brace n rest small = no_number 125 (decimal n) rest (λ d range same. omega (arith, range, same)) (digits_decimal own n small) (decimal_begins n small).0

pub signed_complete : (limit : ℕ) (z : ℤ) (rest : List ℕ) → is_signed_below limit z ≡ true → limit < 2 ^ 63 → Stops rest → signed_read limit (signed_decimal z ++ rest) ≡ Some (z, rest)
signed_complete limit (pos n) rest below small stops =
    let less : n < limit = ltb-true n limit below in
    let short : n < 2 ^ 64 = omega (arith, less) in
    ap (by_sign limit (decimal n ++ rest)) (no_sign (decimal n) rest (digits_decimal own n short) (decimal_begins n short).0)
    ∙ ap (seen_as (λ (m : ℕ). pos m)) (number_complete (limit - 1) n rest (omega (arith, less)) (omega arith) stops)
signed_complete limit (negsuc n) rest below small stops =
    let less : n < limit = ltb-true n limit below in
    ap (λ r. and_then r (λ m later. read_meaning (negate m) later)) (number_complete limit (suc n) rest (omega (arith, less)) (omega arith) stops)

pub negative_sound : (limit : ℕ) (z : ℤ) (text rest : List ℕ) → limit < 2 ^ 63 → negative_read limit text ≡ Some (z, rest) → (45 ∷ text ≡ signed_decimal z ++ rest) × (is_signed_below limit z ≡ true)
negative_sound limit z text rest small is =
    let read = and_then_some (number_read limit text) (λ m later. read_meaning (negate m) later) (z, rest) is in
    by_number read.0.0 read.0.1 read.1 read.2
  where
    by_number : (m : ℕ) (later : List ℕ) → number_read limit text ≡ Some (m, later) → read_meaning (negate m) later ≡ Some (z, rest) → (45 ∷ text ≡ signed_decimal z ++ rest) × (is_signed_below limit z ≡ true)
    by_number zero later read is = cc
    by_number (suc m) later read is =
        let parts = pair_is (negsuc m) z later rest is in
        let spelled = number_sound limit (suc m) text later (omega arith) read in
        let less : m < limit = omega (arith, spelled.1) in
        let below : is_signed_below limit (negsuc m) ≡ true = lt-ltb m limit less in
        (ap (λ x. 45 ∷ x) spelled.0 ∙ (λ i. signed_decimal (parts.0 i) ++ parts.1 i), sym (ap (is_signed_below limit) parts.0) ∙ below)

pub signed_sound : (limit : ℕ) (z : ℤ) (text rest : List ℕ) → 1 ≤ limit → limit < 2 ^ 63 → signed_read limit text ≡ Some (z, rest) → (text ≡ signed_decimal z ++ rest) × (is_signed_below limit z ≡ true)
signed_sound limit z text rest some small is = by_mark (behind_prefix (45 ∷ []) text) refl is
  where
    by_mark : (r : Option (List ℕ)) → behind_prefix (45 ∷ []) text ≡ r → by_sign limit text r ≡ Some (z, rest) → (text ≡ signed_decimal z ++ rest) × (is_signed_below limit z ≡ true)
    by_mark (Some digits) mark is =
        let read = negative_sound limit z digits rest small is in
        (passed_stands (45 ∷ []) text digits mark ∙ read.0, read.1)
    by_mark None mark is =
        let read = seen_as_some (λ (m : ℕ). pos m) (number_read (limit - 1) text) z rest is in
        let spelled = number_sound (limit - 1) read.0 text rest (omega arith) read.1 in
        let less : read.0 < limit = omega (arith, spelled.1) in
        let below : is_signed_below limit (pos read.0) ≡ true = lt-ltb read.0 limit less in
        (spelled.0 ∙ (λ i. signed_decimal (sym read.2 i) ++ rest), ap (is_signed_below limit) read.2 ∙ below)
