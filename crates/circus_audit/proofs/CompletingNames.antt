-- Names that are words and differ are each found at their place.
use Rattle.std.specs.List.{AllByRecursion, list_all, position_or_len}
use Rattle.std.specs.Char.{is_ascii_alphabetic, is_ascii_digit, is_ascii_alphanumeric}
use Rattle.std.specs.Prelude.{◌==◌, if◌then◌else◌, slice_get, unwrap_or}
use Rattle.std.specs.Str.{bytes_eq}
use Rattle.std.proofs.Common.{◌≡◌, ◌≢◌, ◌∙◌, ℕ, zero, suc, ◌+◌, ◌<◌, Bool, true, false, cond, not, ◌&&◌, nat_le, nat_lt, List, [], ◌∷◌, length, Some, None, refl, ap, arith, lt-ltb}
use Rattle.std.proofs.lemmas.Bool.{and_parts}
use Rattle.std.proofs.lemmas.Bool.Decides.{nat_tests}
use Rattle.std.proofs.lemmas.Slice.Eq.{bytes_eq-Decides}
use Rattle.circus_text.specs.declared.byte_class.ByteClass.TheVariants.{Letter, Digit, Quote, Space, Mark, Other}
use Rattle.circus_text.specs.ByteClass.{quote, is_space, is_mark, class_of, is_word_class}
use Rattle.circus_text.specs.Form.{IsWord}
use Rattle.circus_collate.specs.Deployment.{is_word}
use Rattle.circus_audit.specs.Seen.Names.{place_of, name_at}
use Rattle.circus_audit.proofs.Completing.{AreNames}
use Rattle.circus_audit.proofs.OneLine.{is_clean}

both_true : (a b : Bool) → a ≡ true → b ≡ true → (a && b) ≡ true
both_true true b one two = two
both_true false b one two = one

-- ---- words

letter_or_digit : (b : ℕ) → is_word_class (class_of b) ≡ true → is_ascii_alphanumeric b ≡ true
letter_or_digit b is = by_class (is_ascii_alphabetic b) (is_ascii_digit b) (b == quote) (is_space b) (is_mark b) (λ l. letter l) (λ d. digit d) is
  where
    letter : is_ascii_alphabetic b ≡ true → is_ascii_alphanumeric b ≡ true
    letter l = grind (arith, nat_tests)

    digit : is_ascii_digit b ≡ true → is_ascii_alphanumeric b ≡ true
    digit d = grind (arith, nat_tests)

    by_class : (l d q s m : Bool) → (l ≡ true → is_ascii_alphanumeric b ≡ true) → (d ≡ true → is_ascii_alphanumeric b ≡ true)
        → is_word_class (if l then Letter else (if d then Digit else (if q then Quote else (if s then Space else (if m then Mark else Other))))) ≡ true → is_ascii_alphanumeric b ≡ true
    by_class true d q s m letter digit is = letter (λ i. true)
    by_class false true q s m letter digit is = digit (λ i. true)
    by_class false false true s m letter digit is = absurd (cc)
    by_class false false false true m letter digit is = absurd (cc)
    by_class false false false false true letter digit is = absurd (cc)
    by_class false false false false false letter digit is = absurd (cc)

letters : (bs : List ℕ) → list_all (λ c. is_word_class (class_of c)) bs ≡ true → list_all is_ascii_alphanumeric bs ≡ true
letters [] all = refl
letters (b ∷ bs) all =
    let parts = and_parts (is_word_class (class_of b)) (list_all (λ c. is_word_class (class_of c)) bs) all in
    both_true (is_ascii_alphanumeric b) (list_all is_ascii_alphanumeric bs) (letter_or_digit b parts.0) (letters bs parts.1)

-- a name of a module
pub word_letters : (word : List ℕ) → IsWord word → list_all is_ascii_alphanumeric word ≡ true
word_letters [] is = absurd is
word_letters (b ∷ bs) is = both_true (is_ascii_alphanumeric b) (list_all is_ascii_alphanumeric bs) (letter_or_digit b (ap is_word_class is.0)) (letters bs is.1)

-- a name of a node
pub host_letters : (word : List ℕ) → is_word word ≡ true → list_all is_ascii_alphanumeric word ≡ true
host_letters [] is = refl
host_letters (b ∷ bs) is =
    let parts = and_parts (is_ascii_alphabetic b) (list_all is_ascii_alphanumeric bs) is in
    both_true (is_ascii_alphanumeric b) (list_all is_ascii_alphanumeric bs) (first parts.0) parts.1
  where
    first : is_ascii_alphabetic b ≡ true → is_ascii_alphanumeric b ≡ true
    first l = grind (arith, nat_tests)

byte_clean : (b : ℕ) → is_ascii_alphanumeric b ≡ true → nat_le 32 b ≡ true
byte_clean b is = grind (arith, nat_tests)

letters_clean : (name : List ℕ) → list_all is_ascii_alphanumeric name ≡ true → is_clean name ≡ true
letters_clean [] all = refl
letters_clean (b ∷ name) all =
    let parts = and_parts (is_ascii_alphanumeric b) (list_all is_ascii_alphanumeric name) all in
    both_true (nat_le 32 b) (is_clean name) (byte_clean b parts.0) (letters_clean name parts.1)

pub name_clean : (names : List (List ℕ)) → AreNames names → (n : ℕ) → n < length names → is_clean (name_at names n) ≡ true
name_clean names are n within = letters_clean (name_at names n) (are.letters n within)

-- ---- places

-- names of which no two are the same
abbrev pub Differ : List (List ℕ) → Type 0
Differ [] = Unit {0}
Differ (name ∷ names) = AllByRecursion (λ other. name ≢ other) names × Differ names

at_all : {X : Type 0} (P : X → Type 0) (xs : List X) (n : ℕ) (d : X) → n < length xs → AllByRecursion P xs → P (unwrap_or (slice_get xs n) d)
at_all P [] n d within all = absurd (omega (arith, within))
at_all P (x ∷ xs) zero d within all = all.0
at_all P (x ∷ xs) (suc n) d within all = at_all P xs n d (omega (arith, within)) all.1

same_name : (a : List ℕ) → bytes_eq a a ≡ true
same_name a = by_test (bytes_eq a a) (bytes_eq-Decides a a).1
  where
    by_test : (b : Bool) → (a ≡ a → b ≡ true) → b ≡ true
    by_test b is = is refl

other_name : (a b : List ℕ) → a ≢ b → bytes_eq a b ≡ false
other_name a b differ = by_test (bytes_eq a b) refl
  where
    by_test : (t : Bool) → bytes_eq a b ≡ t → t ≡ false
    by_test true is = absurd (differ ((bytes_eq-Decides a b).0 is))
    by_test false is = refl

first_place : (names : List (List ℕ)) (n : ℕ) → n < length names → Differ names → position_or_len (λ each. bytes_eq each (name_at names n)) names ≡ n
first_place [] n within differ = absurd (omega (arith, within))
first_place (name ∷ names) zero within differ = ap (λ t. cond (not t) (1 + position_or_len (λ each. bytes_eq each name) names) 0) (same_name name)
first_place (name ∷ names) (suc n) within differ =
    let here = name_at names n in
    let other : name ≢ here = at_all (λ o. name ≢ o) names n [] (omega (arith, within)) differ.0 in
    ap (λ t. cond (not t) (1 + position_or_len (λ each. bytes_eq each here) names) 0) (other_name name here other)
    ∙ ap (λ k. 1 + k) (first_place names n (omega (arith, within)) differ.1) ∙ omega arith

pub place_found : (names : List (List ℕ)) (n : ℕ) → n < length names → Differ names → place_of names (name_at names n) ≡ Some n
place_found names n within differ =
    ap (λ k. cond (nat_lt k (length names)) (Some k) None) (first_place names n within differ)
    ∙ ap (λ t. cond t (Some n) None) (lt-ltb n (length names) within)

pub are_names : (names : List (List ℕ)) → AllByRecursion (λ name. list_all is_ascii_alphanumeric name ≡ true) names → Differ names → AreNames names
are_names names words differ = record {
  letters = λ n within. at_all (λ name. list_all is_ascii_alphanumeric name ≡ true) names n [] within words;
  places = λ n within. place_found names n within differ;
}
