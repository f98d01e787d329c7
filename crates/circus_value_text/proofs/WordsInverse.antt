-- Clocks, the asks of a path and bytes, in front of a text.
use Rattle.std.proofs.Common.{◌≡◌, ◌∙◌, ℕ, zero, suc, ◌+◌, ◌*◌, ◌/◌, ◌%◌, ◌<◌, ◌≤◌, ◌^◌, List, [], ◌∷◌, ◌++◌, length, slice_index, codes, Option, Some, None, refl, sym, ap, subst, arith, append_assoc}
use Rattle.std.specs.Fmt.{decimal}
use Rattle.std.specs.List.{AllByRecursion}
use Rattle.hex.specs.Hex.{lower_digits, encode_with, encode_lower}
use Rattle.circus_value.specs.Shown.{hexadecimal_digit}
use Rattle.circus_value.specs.ThreadText.{numbers_behind, clock_text}
use Rattle.circus_value_text.specs.Reading.{Read, and_then, behind_prefix, behind, number_read, nibble}
use Rattle.circus_value_text.specs.WordReading.{number_more, counts_read, asks_if, asks_read, pair_of, byte_of, byte_more, bytes_of}
use Rattle.circus_value_text.specs.Stopping.{Stops}
use Rattle.circus_value_text.proofs.Marks.{pair_is, passed_front, passed_stands, behind_some, and_then_some, seen_as_some}
use Rattle.circus_value_text.proofs.Numbers.{number_complete, number_sound}
use Rattle.circus_value_text.proofs.Octets.{nibble_of, of_nibble}

-- ---- clocks

-- counts, the first of them behind this, and the others behind a comma
abbrev pub counts_text : List ℕ → List ℕ → List ℕ
counts_text mark [] = []
counts_text mark (n ∷ ns) = mark ++ (decimal n ++ numbers_behind 44 ns)

pub clock_is : (ns : List ℕ) → counts_text [] ns ≡ clock_text ns
clock_is [] = refl
clock_is (n ∷ ns) = refl

commas : (ns : List ℕ) → counts_text (codes ",") ns ≡ numbers_behind 44 ns
commas [] = refl
commas (n ∷ ns) = refl

commas_stop : (ns rest : List ℕ) → Stops rest → Stops (counts_text (codes ",") ns ++ rest)
commas_stop [] rest stops = stops
commas_stop (n ∷ ns) rest stops = refl

more_counts : (mark ns rest : List ℕ) (n : ℕ) → counts_text mark (n ∷ ns) ++ rest ≡ mark ++ (decimal n ++ (counts_text (codes ",") ns ++ rest))
more_counts mark ns rest n =
    append_assoc mark (decimal n ++ numbers_behind 44 ns) rest
    ∙ ap (λ x. mark ++ x) (append_assoc (decimal n) (numbers_behind 44 ns) rest)
    ∙ ap (λ x. mark ++ (decimal n ++ (x ++ rest))) (sym (commas ns))

counts_complete : (mark ns rest : List ℕ) → AllByRecursion (λ n. n < 2 ^ 32) ns → Stops rest → counts_read (length ns) mark (counts_text mark ns ++ rest) ≡ Some (ns, rest)
counts_complete mark [] rest small stops = refl
counts_complete mark (n ∷ ns) rest small stops =
    let go_on = λ (m : ℕ) (later : List ℕ). number_more m (counts_read (length ns) (codes ",") later) in
    let later = counts_text (codes ",") ns ++ rest in
    let first : n < 2 ^ 32 = small.0 in
    ap (λ text. behind (behind_prefix mark text) (λ inner. and_then (number_read 4294967295 inner) go_on)) (more_counts mark ns rest n)
    ∙ ap (λ r. behind r (λ inner. and_then (number_read 4294967295 inner) go_on)) (passed_front mark (decimal n ++ later))
    ∙ ap (λ r. and_then r go_on) (number_complete 4294967295 n later (omega (arith, first)) (omega arith) (commas_stop ns rest stops))
    ∙ ap (number_more n) (counts_complete (codes ",") ns rest small.1 stops)

pub clock_complete : (ns rest : List ℕ) → AllByRecursion (λ n. n < 2 ^ 32) ns → Stops rest → counts_read (length ns) [] (clock_text ns ++ rest) ≡ Some (ns, rest)
clock_complete ns rest small stops = ap (λ text. counts_read (length ns) [] (text ++ rest)) (sym (clock_is ns)) ∙ counts_complete [] ns rest small stops

-- a number, and others behind it
record IsNumber (greatest : ℕ) (text : List ℕ) (others : List ℕ → Read (List ℕ)) (ns rest : List ℕ) : Type 0 where
  first : ℕ
  more : List ℕ
  later : List ℕ
  are : ns ≡ first ∷ more
  text_is : text ≡ decimal first ++ later
  small : first ≤ greatest
  others_are : others later ≡ Some (more, rest)

one_number : (greatest : ℕ) (text : List ℕ) (others : List ℕ → Read (List ℕ)) (ns rest : List ℕ) → greatest < 2 ^ 64 → and_then (number_read greatest text) (λ n later. number_more n (others later)) ≡ Some (ns, rest) → IsNumber greatest text others ns rest
one_number greatest text others ns rest short is =
    let number = and_then_some (number_read greatest text) (λ n later. number_more n (others later)) (ns, rest) is in
    let spelled = number_sound greatest number.0.0 text number.0.1 short number.1 in
    let chain = seen_as_some (λ ms. number.0.0 ∷ ms) (others number.0.1) ns rest number.2 in
    record {
      first = number.0.0;
      more = chain.0;
      later = number.0.1;
      are = chain.2;
      text_is = spelled.0;
      small = spelled.1;
      others_are = chain.1;
    }

counts_sound : (count : ℕ) (mark text ns rest : List ℕ) → counts_read count mark text ≡ Some (ns, rest) → (text ≡ counts_text mark ns ++ rest) × (length ns ≡ count) × AllByRecursion (λ n. n < 2 ^ 32) ns
counts_sound zero mark text ns rest is =
    let parts = pair_is [] ns text rest is in
    (parts.1 ∙ ap (λ ms. counts_text mark ms ++ rest) parts.0, sym (ap length parts.0), subst (AllByRecursion (λ n. n < 2 ^ 32)) parts.0 tt)
counts_sound (suc count) mark text ns rest is =
    let opened = behind_some (behind_prefix mark text) (λ inner. and_then (number_read 4294967295 inner) (λ n later. number_more n (counts_read count (codes ",") later))) (ns, rest) is in
    let one = one_number 4294967295 opened.0 (counts_read count (codes ",")) ns rest (omega arith) opened.2 in
    let others = counts_sound count (codes ",") one.later one.more rest one.others_are in (
      passed_stands mark text opened.0 opened.1 ∙ ap (λ x. mark ++ x) (one.text_is ∙ ap (λ x. decimal one.first ++ x) others.0) ∙ sym (more_counts mark one.more rest one.first) ∙ ap (λ ms. counts_text mark ms ++ rest) (sym one.are),
      ap length one.are ∙ ap suc others.1,
      subst (AllByRecursion (λ n. n < 2 ^ 32)) (sym one.are) (omega (arith, one.small), others.2),
    )

pub clock_sound : (count : ℕ) (text ns rest : List ℕ) → counts_read count [] text ≡ Some (ns, rest) → (text ≡ clock_text ns ++ rest) × (length ns ≡ count) × AllByRecursion (λ n. n < 2 ^ 32) ns
clock_sound count text ns rest is =
    let read = counts_sound count [] text ns rest is in
    (read.0 ∙ ap (λ x. x ++ rest) (clock_is ns), read.1, read.2)

-- ---- paths

asks_stop : (ns rest : List ℕ) → Stops rest → Stops (numbers_behind 46 ns ++ rest)
asks_stop [] rest stops = stops
asks_stop (n ∷ ns) rest stops = refl

pub asks_complete : (most : ℕ) (ns rest : List ℕ) → length ns ≤ most → AllByRecursion (λ n. n < 2 ^ 16) ns → Stops rest → behind_prefix (codes ".") rest ≡ None → asks_read most (numbers_behind 46 ns ++ rest) ≡ Some (ns, rest)
asks_complete zero [] rest few small stops ends = refl
asks_complete (suc most) [] rest few small stops ends = ap (λ r. asks_if rest r (λ inner. and_then (number_read 65535 inner) (λ n later. number_more n (asks_read most later)))) ends
asks_complete zero (n ∷ ns) rest few small stops ends = absurd (omega (arith, few))
asks_complete (suc most) (n ∷ ns) rest few small stops ends =
    let go_on = λ (m : ℕ) (later : List ℕ). number_more m (asks_read most later) in
    let first : n < 2 ^ 16 = small.0 in
    ap (λ text. and_then (number_read 65535 text) go_on) (append_assoc (decimal n) (numbers_behind 46 ns) rest)
    ∙ ap (λ r. and_then r go_on) (number_complete 65535 n (numbers_behind 46 ns ++ rest) (omega (arith, first)) (omega arith) (asks_stop ns rest stops))
    ∙ ap (number_more n) (asks_complete most ns rest (omega (arith, few)) small.1 stops ends)

no_asks : (text ns rest : List ℕ) → ◌≡◌ {A = Read (List ℕ)} (Some ([], text)) (Some (ns, rest)) → (text ≡ numbers_behind 46 ns ++ rest) × AllByRecursion (λ n. n < 2 ^ 16) ns
no_asks text ns rest is =
    let parts = pair_is [] ns text rest is in
    (parts.1 ∙ ap (λ ms. numbers_behind 46 ms ++ rest) parts.0, subst (AllByRecursion (λ n. n < 2 ^ 16)) parts.0 tt)

pub asks_sound : (most : ℕ) (text ns rest : List ℕ) → asks_read most text ≡ Some (ns, rest) → (text ≡ numbers_behind 46 ns ++ rest) × AllByRecursion (λ n. n < 2 ^ 16) ns
asks_sound zero text ns rest is = no_asks text ns rest is
asks_sound (suc most) text ns rest is = by_point (behind_prefix (codes ".") text) refl (asks_sound most) is
  where
    by_point : (r : Option (List ℕ)) → behind_prefix (codes ".") text ≡ r → ((later ms more : List ℕ) → asks_read most later ≡ Some (ms, more) → (later ≡ numbers_behind 46 ms ++ more) × AllByRecursion (λ n. n < 2 ^ 16) ms) → asks_if text r (λ inner. and_then (number_read 65535 inner) (λ n later. number_more n (asks_read most later))) ≡ Some (ns, rest) → (text ≡ numbers_behind 46 ns ++ rest) × AllByRecursion (λ n. n < 2 ^ 16) ns
    by_point (Some inner) point go_on is =
        let one = one_number 65535 inner (asks_read most) ns rest (omega arith) is in
        let others = go_on one.later one.more rest one.others_are in (
          passed_stands (codes ".") text inner point ∙ ap (λ x. 46 ∷ x) (one.text_is ∙ ap (λ x. decimal one.first ++ x) others.0 ∙ sym (append_assoc (decimal one.first) (numbers_behind 46 one.more) rest)) ∙ ap (λ ms. numbers_behind 46 ms ++ rest) (sym one.are),
          subst (AllByRecursion (λ n. n < 2 ^ 16)) (sym one.are) (omega (arith, one.small), others.1),
        )
    by_point None point go_on is = no_asks text ns rest is

-- ---- bytes

digit_same : (n : ℕ) → n < 16 → slice_index lower_digits n ≡ hexadecimal_digit n
digit_same zero small = refl
digit_same (suc zero) small = refl
digit_same (suc (suc zero)) small = refl
digit_same (suc (suc (suc zero))) small = refl
digit_same (suc (suc (suc (suc zero)))) small = refl
digit_same (suc (suc (suc (suc (suc zero))))) small = refl
digit_same (suc (suc (suc (suc (suc (suc zero)))))) small = refl
digit_same (suc (suc (suc (suc (suc (suc (suc zero))))))) small = refl
digit_same (suc (suc (suc (suc (suc (suc (suc (suc zero)))))))) small = refl
digit_same (suc (suc (suc (suc (suc (suc (suc (suc (suc zero))))))))) small = refl
digit_same (suc (suc (suc (suc (suc (suc (suc (suc (suc (suc zero)))))))))) small = refl
digit_same (suc (suc (suc (suc (suc (suc (suc (suc (suc (suc (suc zero))))))))))) small = refl
digit_same (suc (suc (suc (suc (suc (suc (suc (suc (suc (suc (suc (suc zero)))))))))))) small = refl
digit_same (suc (suc (suc (suc (suc (suc (suc (suc (suc (suc (suc (suc (suc zero))))))))))))) small = refl
digit_same (suc (suc (suc (suc (suc (suc (suc (suc (suc (suc (suc (suc (suc (suc zero)))))))))))))) small = refl
digit_same (suc (suc (suc (suc (suc (suc (suc (suc (suc (suc (suc (suc (suc (suc (suc zero))))))))))))))) small = refl
digit_same (suc (suc (suc (suc (suc (suc (suc (suc (suc (suc (suc (suc (suc (suc (suc (suc n)))))))))))))))) small = absurd (omega (arith, small))

digit_read : (n : ℕ) → n < 16 → nibble (slice_index lower_digits n) ≡ Some n
digit_read n small = ap nibble (digit_same n small) ∙ nibble_of n small

byte_complete : (b : ℕ) → b < 256 → byte_of (slice_index lower_digits (b / 16)) (slice_index lower_digits (b % 16)) ≡ Some b
byte_complete b small =
    let whole : 16 * (b / 16) + b % 16 ≡ b = omega arith in
    ap (λ high. pair_of high (nibble (slice_index lower_digits (b % 16)))) (digit_read (b / 16) (omega (arith, small)))
    ∙ ap (λ low. pair_of (Some (b / 16)) low) (digit_read (b % 16) (omega arith))
    ∙ ap (λ n. Some n) whole

pub bytes_complete : (bytes : List ℕ) → AllByRecursion (λ b. b < 2 ^ 8) bytes → bytes_of (encode_lower bytes) ≡ Some bytes
unfolding encode_with
bytes_complete [] small = refl
bytes_complete (b ∷ bytes) small =
    ap (λ first. byte_more first (bytes_of (encode_lower bytes))) (byte_complete b small.0)
    ∙ ap (byte_more (Some b)) (bytes_complete bytes small.1)

byte_sound : (high low b : ℕ) → byte_of high low ≡ Some b → (high ≡ slice_index lower_digits (b / 16)) × (low ≡ slice_index lower_digits (b % 16)) × (b < 2 ^ 8)
byte_sound high low b is = by_digits (nibble high) (nibble low) refl refl is
  where
    by_digits : (h l : Option ℕ) → nibble high ≡ h → nibble low ≡ l → pair_of h l ≡ Some b → (high ≡ slice_index lower_digits (b / 16)) × (low ≡ slice_index lower_digits (b % 16)) × (b < 2 ^ 8)
    by_digits (Some h) (Some l) high_is low_is is =
        let value : 16 * h + l ≡ b = cc in
        let upper = of_nibble high h high_is in
        let lower = of_nibble low l low_is in
        let first : b / 16 ≡ h = omega (arith, value, lower.1) in
        let last : b % 16 ≡ l = omega (arith, value, lower.1) in (
          sym (ap (slice_index lower_digits) first ∙ digit_same h upper.1 ∙ upper.0),
          sym (ap (slice_index lower_digits) last ∙ digit_same l lower.1 ∙ lower.0),
          omega (arith, value, upper.1, lower.1),
        )
    by_digits (Some h) None high_is low_is is = cc
    by_digits None l high_is low_is is = cc

more_some : (first : Option ℕ) (others : Option (List ℕ)) (bytes : List ℕ) → byte_more first others ≡ Some bytes → (b : ℕ) × (bs : List ℕ) × (first ≡ Some b) × (others ≡ Some bs) × (bytes ≡ b ∷ bs)
more_some (Some b) (Some bs) bytes is = (b, bs, refl, refl, (let same : b ∷ bs ≡ bytes = cc in sym same))
more_some (Some b) None bytes is = cc
more_some None others bytes is = cc

pub bytes_sound : (text bytes : List ℕ) → bytes_of text ≡ Some bytes → (text ≡ encode_lower bytes) × AllByRecursion (λ b. b < 2 ^ 8) bytes
unfolding encode_with
bytes_sound [] bytes is =
    let none : [] ≡ bytes = cc in
    (ap encode_lower none, subst (AllByRecursion (λ b. b < 2 ^ 8)) none tt)
bytes_sound (high ∷ []) bytes is = cc
bytes_sound (high ∷ low ∷ text) bytes is =
    let parts = more_some (byte_of high low) (bytes_of text) bytes is in
    let first = byte_sound high low parts.0 parts.2 in
    let others = bytes_sound text parts.1 parts.3 in
    ((λ i. first.0 i ∷ first.1 i ∷ others.0 i) ∙ ap encode_lower (sym parts.4), subst (AllByRecursion (λ b. b < 2 ^ 8)) (sym parts.4) (first.2, others.1))
