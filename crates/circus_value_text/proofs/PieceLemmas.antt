-- Marks, digits and bytes at a place of a text.
use Rattle.std.proofs.Common.{◌≡◌, ◌≢◌, ◌∙◌, ℕ, suc, ◌+◌, ◌-◌, ◌<◌, ◌≤◌, ◌^◌, Bool, true, false, cond, not, nat_lt, List, [], ◌∷◌, ◌++◌, length, take, drop, position, Option, Some, None, Err, refl, sym, ap, arith, append_assoc, append-nil, drop-drop, length-drop, subst, ltb-false}
use Rattle.std.specs.Char.{is_ascii_digit}
use Rattle.std.specs.Fmt.{decimal}
use Rattle.std.specs.List.{prefix_len, position_or_len}
use Rattle.std.specs.Str.Parse.{AllDigits}
use Rattle.circus_value_text.specs.Reading.{Read, seen_as, behind_prefix, read_meaning, number_of, number_read, octet_read, octets_if, octets_read, behind, with_end, between}
use Rattle.circus_value_text.specs.declared.unread.Unread.{Unread}
use Rattle.circus_value_text.specs.declared.unread.Unread.TheVariants as unread
use Rattle.circus_value_text.specs.Seen.Given.{Gives}
use Rattle.circus_value_text.proofs.Marks.{passed_front, passed_stands}
use Rattle.circus_value_text.proofs.Numbers.{all_digits, decimal_of_number, number_of_decimal}

-- ---- marks

pub passed_where : (front text rest : List ℕ) → text ≡ front ++ rest → behind_prefix front text ≡ Some rest
passed_where front text rest is = ap (behind_prefix front) is ∙ passed_front front rest

pub passed_nowhere : (front text : List ℕ) → ((rest : List ℕ) → text ≢ front ++ rest) → behind_prefix front text ≡ None
passed_nowhere front text none = by_answer (behind_prefix front text) refl
  where
    by_answer : (r : Option (List ℕ)) → behind_prefix front text ≡ r → r ≡ None
    by_answer (Some rest) is = absurd (none rest (passed_stands front text rest is))
    by_answer None is = refl

-- ---- digits

not_not : (p : ℕ → Bool) (xs : List ℕ) → prefix_len (λ x. not (not (p x))) xs ≡ prefix_len p xs
not_not p [] = refl
not_not p (x ∷ xs) = by_test (p x) (not_not p xs)
  where
    by_test : (b : Bool) → prefix_len (λ y. not (not (p y))) xs ≡ prefix_len p xs → cond (not (not b)) (1 + prefix_len (λ y. not (not (p y))) xs) 0 ≡ cond b (1 + prefix_len p xs) 0
    by_test true others = ap (λ n. 1 + n) others
    by_test false others = refl

prefix_most : (p : ℕ → Bool) (xs : List ℕ) → prefix_len p xs ≤ length xs
prefix_most p [] = omega arith
prefix_most p (x ∷ xs) = by_test (p x) (prefix_most p xs)
  where
    by_test : (b : Bool) → prefix_len p xs ≤ length xs → cond b (1 + prefix_len p xs) 0 ≤ length (x ∷ xs)
    by_test true others = omega (arith, others)
    by_test false others = omega arith

-- the first byte that is none of these, or the length
pub first_other : (p : ℕ → Bool) (xs : List ℕ) (r : Option ℕ) → r ≡ position (λ x. not (p x)) xs → (i : ℕ) → r ≡ Some i → i ≡ prefix_len p xs
first_other p xs r is i some = by_order (nat_lt (position_or_len (λ x. not (p x)) xs) (length xs)) (sym some ∙ is)
  where
    by_order : (b : Bool) → Some i ≡ cond b (Some (position_or_len (λ x. not (p x)) xs)) None → i ≡ prefix_len p xs
    by_order true same = let place : i ≡ position_or_len (λ x. not (p x)) xs = cc in place ∙ not_not p xs
    by_order false same = cc

pub no_other : (p : ℕ → Bool) (xs : List ℕ) (r : Option ℕ) → r ≡ position (λ x. not (p x)) xs → r ≡ None → length xs ≡ prefix_len p xs
no_other p xs r is none = by_order (nat_lt (position_or_len (λ x. not (p x)) xs) (length xs)) refl (sym none ∙ is)
  where
    by_order : (b : Bool) → nat_lt (position_or_len (λ x. not (p x)) xs) (length xs) ≡ b → None ≡ cond b (Some (position_or_len (λ x. not (p x)) xs)) None → length xs ≡ prefix_len p xs
    by_order true order same = cc
    by_order false order same =
        let most = ltb-false (position_or_len (λ x. not (p x)) xs) (length xs) order in
        let few = prefix_most p xs in
        let place = not_not p xs in
        omega (arith, most, few, place)

-- ---- numbers

pub number_found : (greatest n k : ℕ) (text : List ℕ) → k ≡ prefix_len is_ascii_digit text → take k text ≡ decimal n → n ≤ greatest → greatest < 2 ^ 64 → number_read greatest text ≡ Some (n, drop k text)
number_found greatest n k text count digits small short =
    ap (λ j. read_meaning (number_of greatest (take j text)) (drop j text)) (sym count)
    ∙ ap (λ ds. read_meaning (number_of greatest ds) (drop k text)) digits
    ∙ ap (λ r. read_meaning r (drop k text)) (number_of_decimal greatest n small short)

pub number_missing : (greatest k : ℕ) (text : List ℕ) → k ≡ prefix_len is_ascii_digit text → ((n : ℕ) → n ≤ greatest → take k text ≢ decimal n) → greatest < 2 ^ 64 → number_read greatest text ≡ None
number_missing greatest k text count none short =
    ap (λ j. read_meaning (number_of greatest (take j text)) (drop j text)) (sym count)
    ∙ by_number (number_of greatest (take k text)) refl
  where
    by_number : (r : Option ℕ) → number_of greatest (take k text) ≡ r → read_meaning r (drop k text) ≡ None
    by_number (Some n) is =
        let spelled = decimal_of_number greatest n (take k text) short (subst (λ j. AllDigits 10 (take j text)) (sym count) (all_digits text)) is in
        absurd (none n spelled.1 spelled.0)
    by_number None is = refl

-- ---- the bytes of strings

-- these bytes in front of the others
abbrev pub octets_before : List ℕ → Read (List ℕ) → Read (List ℕ)
octets_before done r = seen_as (λ bs. done ++ bs) r

before_more : (done : List ℕ) (b : ℕ) (r : Read (List ℕ)) → octets_before done (seen_as (λ bs. b ∷ bs) r) ≡ octets_before (done ++ b ∷ []) r
before_more done b (Some r) = ap (λ bs. Some (bs, r.1)) (sym (append_assoc done (b ∷ []) r.0))
before_more done b None = refl

abbrev pub octets_left : ℕ → ℕ → List ℕ → Read (List ℕ)
octets_left most i text = octets_read (most - i) text

left_is : (most i : ℕ) (text : List ℕ) → i < most → octets_left most i text ≡ octets_if text (octet_read text) (octets_left most (i + 1))
left_is most i text few =
    let left : most - i ≡ suc (most - (i + 1)) = omega arith in
    ap (λ n. octets_read n text) left

pub octets_more : (most i b : ℕ) (done text rest : List ℕ) (whole : Read (List ℕ)) → i < most → octet_read text ≡ Some (b, rest) → whole ≡ octets_before done (octets_left most i text) → whole ≡ octets_before (done ++ b ∷ []) (octets_left most (i + 1) rest)
octets_more most i b done text rest whole few read all =
    all ∙ ap (octets_before done) (left_is most i text few ∙ ap (λ r. octets_if text r (octets_left most (i + 1))) read) ∙ before_more done b (octets_left most (i + 1) rest)

pub octets_end : (most i : ℕ) (done text : List ℕ) (whole : Read (List ℕ)) → i < most → octet_read text ≡ None → whole ≡ octets_before done (octets_left most i text) → whole ≡ Some (done, text)
octets_end most i done text whole few read all =
    all ∙ ap (octets_before done) (left_is most i text few ∙ ap (λ r. octets_if text r (octets_left most (i + 1))) read) ∙ ap (λ bs. Some (bs, text)) (append-nil done)

pub found_behind : {X : Type 0} (text : List ℕ) (at len : ℕ) (x : X) (answer : Read X) → at ≤ length text → len ≤ length (drop at text) → answer ≡ Some (x, drop len (drop at text)) → (at + len ≤ length text) × (answer ≡ Some (x, drop (at + len) text))
found_behind text at len x answer within short is =
    let left = length-drop at text in
    (omega (arith, within, short, left), is ∙ ap (λ rest. Some (x, rest)) (drop-drop len at text))

-- ---- between two marks

pub between_fault : {X Y Z : Type 0} (tree : Y → X) (other : Z → X) (octets : List ℕ) (f : Unread) (opening closing text inner : List ℕ) (read : List ℕ → Read X) → behind_prefix opening text ≡ Some inner → Gives tree octets (Err f) (read inner) → Gives other octets (Err f) (between opening closing read text)
between_fault tree other octets unread.Unlike opening closing text inner read mark fault =
    ap (λ r. behind r (λ x. with_end closing (read x))) mark ∙ ap (with_end closing) fault
between_fault tree other octets unread.NoMemory opening closing text inner read mark fault = tt
