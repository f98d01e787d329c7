-- Texts of what a record says stand on one line.
use Rattle.std.specs.Fmt.{digits, digits_onto, digit_glyph}
use Rattle.std.specs.List.{AllByRecursion, list_all}
use Rattle.std.specs.Fmt.{decimal, signed_decimal}
use Rattle.std.proofs.Common.{◌≡◌, ◌∙◌, ℕ, ℤ, pos, negsuc, zero, suc, ◌+◌, ◌/◌, ◌%◌, ◌<◌, ◌^◌, Bool, true, false, cond, not, ◌&&◌, nat_eq, nat_lt, nat_le, List, [], ◌∷◌, ◌++◌, length, slice_index, codes, refl, ap, arith, le-leb}
use Rattle.std.proofs.lemmas.List.Folds.{list_all-append}
use Rattle.hex.specs.Hex.{lower_digits, encode_with, encode_lower}
use Rattle.circus_value.specs.ValueTree.{ValueTree, ValueTrees, none, more, value_trees}
use Rattle.circus_value.specs.ValueTree as V
use Rattle.circus_value.specs.Shown.{hexadecimal_digit, is_plain, shown_byte, shown_bytes, text_of_value, shown_items, shown_others, shown_list}
use Rattle.circus_value.specs.ThreadText.{numbers_behind, clock_text}
use Rattle.circus_value.specs.OutcomeText.{outcome_text}
use Rattle.circus_value.specs.declared.outcome.Outcome.{Outcome}
use Rattle.circus_value.specs.declared.outcome.Outcome.TheVariants.{Returned, Raised}

-- no byte is below a blank
abbrev pub is_clean : List ℕ → Bool
is_clean text = list_all (λ b. nat_le 32 b) text

pub clean_both : (xs ys : List ℕ) → is_clean xs ≡ true → is_clean ys ≡ true → is_clean (xs ++ ys) ≡ true
clean_both xs ys first second = list_all-append (λ b. nat_le 32 b) xs ys ∙ ap (λ t. t && is_clean ys) first ∙ second

clean_more : (b : ℕ) (xs : List ℕ) → nat_le 32 b ≡ true → is_clean xs ≡ true → is_clean (b ∷ xs) ≡ true
clean_more b xs first others = ap (λ t. t && is_clean xs) first ∙ others

-- ---- numbers

glyph_clean : (d : ℕ) → nat_le 32 (digit_glyph false d) ≡ true
glyph_clean d = by_test (nat_lt d 10)
  where
    by_test : (b : Bool) → nat_le 32 (cond b (48 + d) (87 + d)) ≡ true
    by_test true = le-leb 32 (48 + d) (omega arith)
    by_test false = le-leb 32 (87 + d) (omega arith)

onto_clean : (k n : ℕ) (acc : List ℕ) → is_clean acc ≡ true → is_clean (digits_onto k 10 false n acc) ≡ true
onto_clean zero n acc clean = clean
onto_clean (suc k) n acc clean =
    let next = clean_more (digit_glyph false (n % 10)) acc (glyph_clean (n % 10)) clean in
    by_test (nat_eq (n / 10) 0) next (onto_clean k (n / 10) (digit_glyph false (n % 10) ∷ acc) next)
  where
    by_test : (b : Bool) → is_clean (digit_glyph false (n % 10) ∷ acc) ≡ true → is_clean (digits_onto k 10 false (n / 10) (digit_glyph false (n % 10) ∷ acc)) ≡ true → is_clean (cond b (digit_glyph false (n % 10) ∷ acc) (digits_onto k 10 false (n / 10) (digit_glyph false (n % 10) ∷ acc))) ≡ true
    by_test true next later = next
    by_test false next later = later

pub decimal_clean : (n : ℕ) → is_clean (decimal n) ≡ true
unfolding digits
decimal_clean n = onto_clean 64 n [] refl

signed_clean : (z : ℤ) → is_clean (signed_decimal z) ≡ true
signed_clean (pos n) = decimal_clean n
signed_clean (negsuc n) = decimal_clean (suc n)

pub behind_clean : (byte : ℕ) (ns : List ℕ) → nat_le 32 byte ≡ true → is_clean (numbers_behind byte ns) ≡ true
behind_clean byte [] mark = refl
behind_clean byte (n ∷ ns) mark = clean_more byte (decimal n ++ numbers_behind byte ns) mark (clean_both (decimal n) (numbers_behind byte ns) (decimal_clean n) (behind_clean byte ns mark))

pub clock_clean : (ns : List ℕ) → is_clean (clock_text ns) ≡ true
clock_clean [] = refl
clock_clean (n ∷ ns) = clean_both (decimal n) (numbers_behind 44 ns) (decimal_clean n) (behind_clean 44 ns refl)

-- ---- bytes

index_clean : (xs : List ℕ) (n : ℕ) → n < length xs → is_clean xs ≡ true → nat_le 32 (slice_index xs n) ≡ true
index_clean [] n within clean = absurd (omega (arith, within))
index_clean (x ∷ xs) zero within clean = first_of (nat_le 32 x) (is_clean xs) clean
  where
    first_of : (a b : Bool) → (a && b) ≡ true → a ≡ true
    first_of true b is = refl
    first_of false b is = is
index_clean (x ∷ xs) (suc n) within clean = index_clean xs n (omega (arith, within)) (others_of (nat_le 32 x) (is_clean xs) clean)
  where
    others_of : (a b : Bool) → (a && b) ≡ true → b ≡ true
    others_of true b is = is
    others_of false b is = cc

pub bytes_clean : (bytes : List ℕ) → AllByRecursion (λ b. b < 2 ^ 8) bytes → is_clean (encode_lower bytes) ≡ true
unfolding encode_with
bytes_clean [] small = refl
bytes_clean (b ∷ bytes) small =
    let first : b < 2 ^ 8 = small.0 in
    let high = index_clean lower_digits (b / 16) (omega (arith, first)) refl in
    let low = index_clean lower_digits (b % 16) (omega arith) refl in
    clean_more (slice_index lower_digits (b / 16)) (slice_index lower_digits (b % 16) ∷ encode_lower bytes) high (clean_more (slice_index lower_digits (b % 16)) (encode_lower bytes) low (bytes_clean bytes small.1))

-- ---- values

hexadecimal_clean : (n : ℕ) → nat_le 32 (hexadecimal_digit n) ≡ true
hexadecimal_clean n = by_test (nat_lt n 10)
  where
    by_test : (b : Bool) → nat_le 32 (cond b (48 + n) (87 + n)) ≡ true
    by_test true = le-leb 32 (48 + n) (omega arith)
    by_test false = le-leb 32 (87 + n) (omega arith)

byte_clean : (b : ℕ) → is_clean (shown_byte b) ≡ true
byte_clean b = by_plain (nat_le 32 b) refl
  where
    by_test : (plain : Bool) → nat_le 32 b ≡ true → is_clean (cond plain (b ∷ []) (92 ∷ hexadecimal_digit (b / 16) ∷ hexadecimal_digit (b % 16) ∷ [])) ≡ true
    by_test true is = clean_more b [] is refl
    by_test false is = clean_more (hexadecimal_digit (b / 16)) (hexadecimal_digit (b % 16) ∷ []) (hexadecimal_clean (b / 16)) (clean_more (hexadecimal_digit (b % 16)) [] (hexadecimal_clean (b % 16)) refl)

    by_plain : (high : Bool) → nat_le 32 b ≡ high → is_clean (shown_byte b) ≡ true
    by_plain true is = by_test (is_plain b) is
    by_plain false is =
        let hidden : is_plain b ≡ false = ap (λ h. ((h && nat_le b 126) && not (nat_eq b 34)) && not (nat_eq b 92)) is in
        ap (λ plain. is_clean (cond plain (b ∷ []) (92 ∷ hexadecimal_digit (b / 16) ∷ hexadecimal_digit (b % 16) ∷ []))) hidden
        ∙ clean_more (hexadecimal_digit (b / 16)) (hexadecimal_digit (b % 16) ∷ []) (hexadecimal_clean (b / 16)) (clean_more (hexadecimal_digit (b % 16)) [] (hexadecimal_clean (b % 16)) refl)

shown_bytes_clean : (bytes : List ℕ) → is_clean (shown_bytes bytes) ≡ true
shown_bytes_clean [] = refl
shown_bytes_clean (b ∷ bytes) = clean_both (shown_byte b) (shown_bytes bytes) (byte_clean b) (shown_bytes_clean bytes)

mutual
  pub shown_clean : (t : ValueTree) → is_clean (text_of_value t) ≡ true
  shown_clean (V.boolean true) = refl
  shown_clean (V.boolean false) = refl
  shown_clean (V.cardinal n) = decimal_clean n
  shown_clean (V.long_cardinal n) = decimal_clean n
  shown_clean (V.integer z) = signed_clean z
  shown_clean (V.long_integer z) = signed_clean z
  shown_clean (V.text bytes) = clean_both (shown_bytes bytes) (34 ∷ []) (shown_bytes_clean bytes) refl
  shown_clean (V.enumeration n) = decimal_clean n
  shown_clean (V.array items) = clean_both (shown_items items) (125 ∷ []) (items_clean items) refl
  shown_clean (V.sequence items) = clean_both (shown_items items) (125 ∷ []) (items_clean items) refl
  shown_clean (V.«record» items) = clean_both (shown_items items) (93 ∷ []) (items_clean items) refl
  shown_clean (V.choice n t) = clean_both (decimal n) (40 ∷ (text_of_value t ++ 41 ∷ [])) (decimal_clean n) (clean_both (text_of_value t) (41 ∷ []) (shown_clean t) refl)

  pub items_clean : (ts : ValueTrees) → is_clean (shown_items ts) ≡ true
  items_clean none = refl
  items_clean (more t ts) = clean_both (text_of_value t) (shown_others ts) (shown_clean t) (others_clean ts)

  pub others_clean : (ts : ValueTrees) → is_clean (shown_others ts) ≡ true
  others_clean none = refl
  others_clean (more t ts) = clean_both (text_of_value t) (shown_others ts) (shown_clean t) (others_clean ts)

pub list_clean : (ts : List ValueTree) → is_clean (shown_list ts) ≡ true
list_clean ts = clean_both (shown_items (value_trees ts)) (93 ∷ []) (items_clean (value_trees ts)) refl

pub outcome_clean : (o : Outcome) → is_clean (outcome_text o) ≡ true
outcome_clean (Returned results) = list_clean results
outcome_clean (Raised number values) = clean_both ((codes "raised " ++ decimal number) ++ codes " ") (shown_list values) (clean_both (codes "raised " ++ decimal number) (codes " ") (clean_both (codes "raised ") (decimal number) refl (decimal_clean number)) refl) (list_clean values)
