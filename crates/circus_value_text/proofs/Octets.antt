-- The bytes of strings in front of a text.
use Rattle.std.proofs.Common.{◌≡◌, ◌∙◌, ℕ, zero, suc, ◌+◌, ◌*◌, ◌/◌, ◌%◌, ◌<◌, ◌≤◌, Bool, true, false, cond, ◌&&◌, nat_eq, nat_lt, List, [], ◌∷◌, ◌++◌, length, Option, Some, None, refl, sym, ap, arith, append_assoc, lt-ltb}
use Rattle.std.specs.List.{list_all}
use Rattle.std.proofs.lemmas.Bool.{eqb-true, and_parts, ltb-true}
use Rattle.std.proofs.lemmas.Bool.Decides.{nat_tests}
use Rattle.circus_value.specs.Shown.{hexadecimal_digit, is_plain, shown_byte, shown_bytes}
use Rattle.circus_value_text.specs.Reading.{Read, seen_as, read_meaning, nibble, hidden_byte, hidden_read, octet_read, octets_if, octets_read}
use Rattle.circus_value_text.proofs.Marks.{pair_is, seen_as_some}

-- ---- digits

pub nibble_of : (n : ℕ) → n < 16 → nibble (hexadecimal_digit n) ≡ Some n
nibble_of n small = by_ten (nat_lt n 10) refl
  where
    by_ten : (is : Bool) → nat_lt n 10 ≡ is → nibble (cond is (48 + n) (87 + n)) ≡ Some n
    by_ten true is = grind (arith, nat_tests)
    by_ten false is = grind (arith, nat_tests)

pub of_nibble : (c n : ℕ) → nibble c ≡ Some n → (hexadecimal_digit n ≡ c) × (n < 16)
of_nibble c n is = (grind (arith, nat_tests), grind (arith, nat_tests))

-- ---- bytes

pub octet_complete : (b : ℕ) (rest : List ℕ) → b < 256 → octet_read (shown_byte b ++ rest) ≡ Some (b, rest)
octet_complete b rest small = by_plain (is_plain b) refl
  where
    whole : 16 * (b / 16) + b % 16 ≡ b
    whole = omega arith

    by_plain : (is : Bool) → is_plain b ≡ is → octet_read (cond is (b ∷ []) (92 ∷ hexadecimal_digit (b / 16) ∷ hexadecimal_digit (b % 16) ∷ []) ++ rest) ≡ Some (b, rest)
    by_plain true is =
        let no_mark : nat_eq b 92 ≡ false = grind (arith, nat_tests) in
        ap (λ mark. cond mark (hidden_read rest) (cond (is_plain b) (Some (b, rest)) None)) no_mark
        ∙ ap (λ plain. cond plain (Some (b, rest)) None) is
    by_plain false is =
        ap (λ high. read_meaning (hidden_byte high (nibble (hexadecimal_digit (b % 16)))) rest) (nibble_of (b / 16) (omega arith))
        ∙ ap (λ low. read_meaning (hidden_byte (Some (b / 16)) low) rest) (nibble_of (b % 16) (omega arith))
        ∙ ap (λ n. read_meaning (cond (is_plain n) None (Some n)) rest) whole
        ∙ ap (λ plain. read_meaning (cond plain None (Some b)) rest) is

hidden_sound : (high low b : ℕ) → hidden_byte (nibble high) (nibble low) ≡ Some b → (92 ∷ high ∷ low ∷ [] ≡ shown_byte b) × (b < 256)
hidden_sound high low b is = by_digits (nibble high) (nibble low) refl refl is
  where
    by_digits : (h l : Option ℕ) → nibble high ≡ h → nibble low ≡ l → hidden_byte h l ≡ Some b → (92 ∷ high ∷ low ∷ [] ≡ shown_byte b) × (b < 256)
    by_digits (Some h) (Some l) high_is low_is is = by_plain (is_plain (16 * h + l)) refl is
      where
        by_plain : (plain : Bool) → is_plain (16 * h + l) ≡ plain → cond plain None (Some (16 * h + l)) ≡ Some b → (92 ∷ high ∷ low ∷ [] ≡ shown_byte b) × (b < 256)
        by_plain true plain is = cc
        by_plain false plain is =
            let value : 16 * h + l ≡ b = cc in
            let upper = of_nibble high h high_is in
            let lower = of_nibble low l low_is in
            let first : b / 16 ≡ h = omega (arith, value, lower.1) in
            let last : b % 16 ≡ l = omega (arith, value, lower.1) in
            let hidden : is_plain b ≡ false = ap is_plain (sym value) ∙ plain in
            let above : hexadecimal_digit (b / 16) ≡ high = ap hexadecimal_digit first ∙ upper.0 in
            let below : hexadecimal_digit (b % 16) ≡ low = ap hexadecimal_digit last ∙ lower.0 in
            (sym (ap (λ p. cond p (b ∷ []) (92 ∷ hexadecimal_digit (b / 16) ∷ hexadecimal_digit (b % 16) ∷ [])) hidden ∙ (λ i. 92 ∷ above i ∷ below i ∷ [])), omega (arith, value, upper.1, lower.1))
    by_digits (Some h) None high_is low_is is = cc
    by_digits None l high_is low_is is = cc

meant_is : (found : Option ℕ) (later : List ℕ) (b : ℕ) (rest : List ℕ) → read_meaning found later ≡ Some (b, rest) → (found ≡ Some b) × (later ≡ rest)
meant_is (Some a) later b rest is = let parts = pair_is a b later rest is in ((λ i. Some (parts.0 i)), parts.1)
meant_is None later b rest is = cc

plain_small : (b : ℕ) → is_plain b ≡ true → b < 256
plain_small b is = grind (arith, nat_tests)

pub octet_sound : (text : List ℕ) (b : ℕ) (rest : List ℕ) → octet_read text ≡ Some (b, rest) → (text ≡ shown_byte b ++ rest) × (b < 256)
octet_sound [] b rest is = cc
octet_sound (c ∷ text) b rest is = by_mark (nat_eq c 92) refl is
  where
    hidden : (later : List ℕ) → c ≡ 92 → hidden_read later ≡ Some (b, rest) → (c ∷ later ≡ shown_byte b ++ rest) × (b < 256)
    hidden [] mark is = cc
    hidden (high ∷ []) mark is = cc
    hidden (high ∷ low ∷ later) mark is =
        let parts = meant_is (hidden_byte (nibble high) (nibble low)) later b rest is in
        let read = hidden_sound high low b parts.0 in
        ((λ i. mark i ∷ high ∷ low ∷ parts.1 i) ∙ ap (λ x. x ++ rest) read.0, read.1)

    by_plain : (plain : Bool) → is_plain c ≡ plain → cond {A = Read ℕ} plain (Some (c, text)) None ≡ Some (b, rest) → (c ∷ text ≡ shown_byte b ++ rest) × (b < 256)
    by_plain true plain is =
        let parts = pair_is c b text rest is in
        let stays : is_plain b ≡ true = ap is_plain (sym parts.0) ∙ plain in
        ((λ i. parts.0 i ∷ parts.1 i) ∙ sym (ap (λ p. cond p (b ∷ []) (92 ∷ hexadecimal_digit (b / 16) ∷ hexadecimal_digit (b % 16) ∷ []) ++ rest) stays), plain_small b stays)
    by_plain false plain is = cc

    by_mark : (mark : Bool) → nat_eq c 92 ≡ mark → cond {A = Read ℕ} mark (hidden_read text) (cond {A = Read ℕ} (is_plain c) (Some (c, text)) None) ≡ Some (b, rest) → (c ∷ text ≡ shown_byte b ++ rest) × (b < 256)
    by_mark true mark is = hidden text (eqb-true c 92 mark) is
    by_mark false mark is = by_plain (is_plain c) refl is

-- ---- the bytes of a string

pub octets_complete : (most : ℕ) (bytes rest : List ℕ) → length bytes ≤ most → list_all (λ b. nat_lt b 256) bytes ≡ true → octets_read most (shown_bytes bytes ++ (34 ∷ rest)) ≡ Some (bytes, 34 ∷ rest)
octets_complete zero [] rest few all = refl
octets_complete (suc most) [] rest few all = refl
octets_complete zero (b ∷ bytes) rest few all = absurd (omega (arith, few))
octets_complete (suc most) (b ∷ bytes) rest few all =
    let parts = and_parts (nat_lt b 256) (list_all (λ c. nat_lt c 256) bytes) all in
    let text = shown_byte b ++ (shown_bytes bytes ++ (34 ∷ rest)) in
    ap (λ whole. octets_if whole (octet_read whole) (octets_read most)) (append_assoc (shown_byte b) (shown_bytes bytes) (34 ∷ rest))
    ∙ ap (λ r. octets_if text r (octets_read most)) (octet_complete b (shown_bytes bytes ++ (34 ∷ rest)) (ltb-true b 256 parts.0))
    ∙ ap (seen_as (λ bs. b ∷ bs)) (octets_complete most bytes rest (omega (arith, few)) parts.1)

no_octets : (most : ℕ) (text bytes rest : List ℕ) → ◌≡◌ {A = Read (List ℕ)} (Some ([], text)) (Some (bytes, rest)) → (text ≡ shown_bytes bytes ++ rest) × (length bytes ≤ most) × (list_all (λ b. nat_lt b 256) bytes ≡ true)
no_octets most text bytes rest is =
    let parts = pair_is [] bytes text rest is in
    (parts.1 ∙ ap (λ bs. shown_bytes bs ++ rest) parts.0, omega (arith, ap length parts.0), sym (ap (list_all (λ b. nat_lt b 256)) parts.0))

pub octets_sound : (most : ℕ) (text bytes rest : List ℕ) → octets_read most text ≡ Some (bytes, rest) → (text ≡ shown_bytes bytes ++ rest) × (length bytes ≤ most) × (list_all (λ b. nat_lt b 256) bytes ≡ true)
octets_sound zero text bytes rest is = no_octets zero text bytes rest is
octets_sound (suc most) text bytes rest is = by_octet (octet_read text) refl (octets_sound most) is
  where
    by_octet : (r : Read ℕ) → octet_read text ≡ r → ((later bs more : List ℕ) → octets_read most later ≡ Some (bs, more) → (later ≡ shown_bytes bs ++ more) × (length bs ≤ most) × (list_all (λ b. nat_lt b 256) bs ≡ true)) → octets_if text r (octets_read most) ≡ Some (bytes, rest) → (text ≡ shown_bytes bytes ++ rest) × (length bytes ≤ suc most) × (list_all (λ b. nat_lt b 256) bytes ≡ true)
    by_octet None read go_on is = no_octets (suc most) text bytes rest is
    by_octet (Some r) read go_on is =
        let others = seen_as_some (λ bs. r.0 ∷ bs) (octets_read most r.1) bytes rest is in
        let first = octet_sound text r.0 r.1 read in
        let later = go_on r.1 others.0 rest others.1 in
        let small : nat_lt r.0 256 ≡ true = lt-ltb r.0 256 first.1 in (
          first.0 ∙ ap (λ x. shown_byte r.0 ++ x) later.0 ∙ sym (append_assoc (shown_byte r.0) (shown_bytes others.0) rest) ∙ ap (λ bs. shown_bytes bs ++ rest) (sym others.2),
          omega (arith, later.1, ap length others.2),
          ap (list_all (λ b. nat_lt b 256)) others.2 ∙ ap (λ is. is && list_all (λ b. nat_lt b 256) others.0) small ∙ later.2,
        )
