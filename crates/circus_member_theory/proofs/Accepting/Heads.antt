-- Headers: what is written is read, and what was read was written.
use Rattle.std.proofs.Common.{◌≡◌, ℕ, zero, suc, ◌+◌, ◌<◌, ◌≤◌, Bool, true, false, ◌&&◌, List, [], ◌∷◌, ◌++◌, length, drop, get_or, All, Option, Some, None, Result, Ok, Err, refl, sym, ap, ◌∙◌, arith, append_assoc}
use Rattle.std.specs.Prelude.{nat_eq, nat_le, if◌then◌else◌}
use Rattle.std.specs.Int.{w16, w32, to_be_bytes, from_be_bytes}
use Rattle.std.specs.Result.{result_ok}
use Rattle.std.proofs.lemmas.Bool.{le-leb, leb-true, eqb-true}
use Rattle.std.proofs.lemmas.List.{drop-drop}
use Rattle.std.proofs.lemmas.List.Elements.{All-head, All-tail}
use Rattle.std.proofs.lemmas.Nat.{be_bytes_2, be_bytes_4, from_be_bytes-to_be_bytes_2, from_be_bytes-to_be_bytes_4}
use Rattle.circus_value.specs.Parts.{AreOctets}
use Rattle.circus_external.proofs.ShapesAlike.{and_both}
use Rattle.circus_external.proofs.Promises.{octets_rest}
use Rattle.circus_external.specs.Octets.{first_word, first_long}
use Rattle.circus_header.specs.Field.{Field, word, long, HasRoom, field_bytes, bytes_of}
use Rattle.circus_header.specs.Seen.Layout.{Size, of_word, of_long, field_of, size_len, Layout, end, field}
use Rattle.circus_header.specs.declared.header_fault.HeaderFault.{HeaderFault}
use Rattle.circus_header.specs.declared.header_fault.HeaderFault.TheVariants.{BadField}
use Rattle.circus_header.proofs.Accepting.{Accepts, accepts_field}
use Rattle.circus_node.specs.Headers.{first_number, in_range, read_by, whole}

-- ---- what is written is read

in_its_range : {A : Type 0} (least most at n : ℕ) (next : ℕ → Result A HeaderFault) → least ≤ n → n ≤ most → in_range least most at next (Some n) ≡ next n
in_its_range least most at n next low high =
    ap (λ b. if b && nat_le n most then next n else Err (BadField at)) (le-leb least n low)
    ∙ ap (λ b. if b then next n else Err (BadField at)) (le-leb n most high)

pub reads : {A : Type 0} (t : Layout A) (at : ℕ) (bytes : List ℕ) (fs : List Field) (x : A) (rest : List ℕ)
    → Accepts t fs x → All HasRoom fs → drop at bytes ≡ bytes_of fs ++ rest → read_by t at bytes ≡ Ok (x, at + length (bytes_of fs))
reads (end y) at bytes [] x rest a room here =
    let place : at ≡ at + 0 = omega arith in
    ap (λ z. Ok (z, at)) (sym a) ∙ ap (λ k. Ok (x, k)) place
reads (end y) at bytes (f ∷ fs) x rest a room here = absurd a
reads (field s l m next) at bytes [] x rest a room here = absurd a
reads (field of_word l m next) at bytes (word n ∷ fs) x rest a room here =
    let front : first_word (drop at bytes) ≡ Some n = ap first_word here ∙ ap Some (from_be_bytes-to_be_bytes_2 n (All-head HasRoom (word n) fs room)) in
    let behind : drop (at + 2) bytes ≡ bytes_of fs ++ rest = sym (drop-drop 2 at bytes) ∙ ap (drop 2) here in
    let place : (at + 2) + length (bytes_of fs) ≡ at + suc (suc (length (bytes_of fs))) = omega arith in
    ap (in_range l m at (λ k. read_by (next k) (at + 2) bytes)) front
    ∙ in_its_range l m at n (λ k. read_by (next k) (at + 2) bytes) a.1 a.2
    ∙ reads (next n) (at + 2) bytes fs x rest a.3 (All-tail HasRoom (word n) fs room) behind
    ∙ ap (λ k. Ok (x, k)) place
reads (field of_long l m next) at bytes (long n ∷ fs) x rest a room here =
    let front : first_long (drop at bytes) ≡ Some n = ap first_long here ∙ ap Some (from_be_bytes-to_be_bytes_4 n (All-head HasRoom (long n) fs room)) in
    let behind : drop (at + 4) bytes ≡ bytes_of fs ++ rest = sym (drop-drop 4 at bytes) ∙ ap (drop 4) here in
    let place : (at + 4) + length (bytes_of fs) ≡ at + suc (suc (suc (suc (length (bytes_of fs))))) = omega arith in
    ap (in_range l m at (λ k. read_by (next k) (at + 4) bytes)) front
    ∙ in_its_range l m at n (λ k. read_by (next k) (at + 4) bytes) a.1 a.2
    ∙ reads (next n) (at + 4) bytes fs x rest a.3 (All-tail HasRoom (long n) fs room) behind
    ∙ ap (λ k. Ok (x, k)) place
reads (field of_word l m next) at bytes (long n ∷ fs) x rest a room here = let no : of_long ≡ of_word = a.0 in cc
reads (field of_long l m next) at bytes (word n ∷ fs) x rest a room here = let no : of_word ≡ of_long = a.0 in cc

-- ---- what was read was written

word_front : (bytes : List ℕ) (n : ℕ) → AreOctets bytes → first_word bytes ≡ Some n → bytes ≡ to_be_bytes w16 n ++ drop 2 bytes
word_front [] n octets is = cc
word_front (a ∷ []) n octets is = cc
word_front (a ∷ b ∷ bytes) n octets is =
    let number : Some (from_be_bytes w16 (a ∷ b ∷ [])) ≡ Some n = is in
    let same : n ≡ from_be_bytes w16 (a ∷ b ∷ []) = cc in
    ap (λ w. w ++ bytes) (sym (be_bytes_2 (a ∷ b ∷ []) n refl small same))
  where
    small : (i : ℕ) → get_or (a ∷ b ∷ []) i 0 < 256
    small zero = octets 0
    small (suc zero) = octets 1
    small (suc (suc i)) = omega arith

long_front : (bytes : List ℕ) (n : ℕ) → AreOctets bytes → first_long bytes ≡ Some n → bytes ≡ to_be_bytes w32 n ++ drop 4 bytes
long_front [] n octets is = cc
long_front (a ∷ []) n octets is = cc
long_front (a ∷ b ∷ []) n octets is = cc
long_front (a ∷ b ∷ c ∷ []) n octets is = cc
long_front (a ∷ b ∷ c ∷ d ∷ bytes) n octets is =
    let number : Some (from_be_bytes w32 (a ∷ b ∷ c ∷ d ∷ [])) ≡ Some n = is in
    let same : n ≡ from_be_bytes w32 (a ∷ b ∷ c ∷ d ∷ []) = cc in
    ap (λ w. w ++ bytes) (sym (be_bytes_4 (a ∷ b ∷ c ∷ d ∷ []) n refl small same))
  where
    small : (i : ℕ) → get_or (a ∷ b ∷ c ∷ d ∷ []) i 0 < 256
    small zero = octets 0
    small (suc zero) = octets 1
    small (suc (suc zero)) = octets 2
    small (suc (suc (suc zero))) = octets 3
    small (suc (suc (suc (suc i)))) = omega arith

pub number_front : (s : Size) (at : ℕ) (bytes : List ℕ) (n : ℕ) → AreOctets bytes → first_number s (drop at bytes) ≡ Some n
    → drop at bytes ≡ field_bytes (field_of s n) ++ drop (at + size_len s) bytes
number_front of_word at bytes n octets is =
    word_front (drop at bytes) n (octets_rest bytes at octets) is ∙ ap (λ w. to_be_bytes w16 n ++ w) (drop-drop 2 at bytes)
number_front of_long at bytes n octets is =
    long_front (drop at bytes) n (octets_rest bytes at octets) is ∙ ap (λ w. to_be_bytes w32 n ++ w) (drop-drop 4 at bytes)

-- what was read is what fields mean, which stand there if these are bytes
pub record IsReadBy {A : Type 0} (t : Layout A) (at : ℕ) (bytes : List ℕ) (x : A) (to : ℕ) : Type 0 where
  pub fields : List Field
  pub taken : Accepts t fields x
  pub here : AreOctets bytes → drop at bytes ≡ bytes_of fields ++ drop to bytes

pub read_back : {A : Type 0} (t : Layout A) (at : ℕ) (bytes : List ℕ) (x : A) (to : ℕ) → read_by t at bytes ≡ Ok (x, to) → IsReadBy t at bytes x to
read_back (end y) at bytes x to e =
    let pair : (y, at) ≡ (x, to) = cc in
    record { fields = []; taken = sym (ap (λ (p : _ × ℕ). p.0) pair); here = λ _. ap (λ k. drop k bytes) (ap (λ (p : _ × ℕ). p.1) pair) }
read_back {A = A} (field s l m next) at bytes x to e =
    by_number (λ n. read_back (next n) (at + size_len s) bytes x to) (first_number s (drop at bytes)) refl e
  where
    by_test : (n : ℕ) → (read_by (next n) (at + size_len s) bytes ≡ Ok (x, to) → IsReadBy (next n) (at + size_len s) bytes x to) → first_number s (drop at bytes) ≡ Some n
        → (b : Bool) → (nat_le l n && nat_le n m) ≡ b → (if b then read_by (next n) (at + size_len s) bytes else Err (BadField at)) ≡ Ok (x, to) → IsReadBy (field s l m next) at bytes x to
    by_test n others is true inside e =
        let both = and_both (nat_le l n) (nat_le n m) inside in
        let q = others e in
        record {
          fields = field_of s n ∷ q.fields;
          taken = accepts_field s l m n next q.fields x (leb-true l n both.0) (leb-true n m both.1) q.taken;
          here = λ octets.
              number_front s at bytes n octets is ∙ ap (λ w. field_bytes (field_of s n) ++ w) (q.here octets)
              ∙ sym (append_assoc (field_bytes (field_of s n)) (bytes_of q.fields) (drop to bytes));
        }
    by_test n others is false inside e = cc

    by_number : ((n : ℕ) → read_by (next n) (at + size_len s) bytes ≡ Ok (x, to) → IsReadBy (next n) (at + size_len s) bytes x to) → (o : Option ℕ) → first_number s (drop at bytes) ≡ o
        → in_range l m at (λ n. read_by (next n) (at + size_len s) bytes) o ≡ Ok (x, to) → IsReadBy (field s l m next) at bytes x to
    by_number others None is e = cc
    by_number others (Some n) is e = by_test n (others n) is (nat_le l n && nat_le n m) refl e

-- ---- whole headers

-- a header was read, and where nothing may stand behind it, nothing does
pub record IsRead {A : Type 0} (t : Layout A) (goes_on : A → Bool) (bytes : List ℕ) (read : A × ℕ) : Type 0 where
  pub by : read_by t 0 bytes ≡ Ok read
  pub all : goes_on read.0 ≡ false → read.1 ≡ length bytes

pub whole_read : {A : Type 0} (t : Layout A) (goes_on : A → Bool) (bytes : List ℕ) (read : A × ℕ)
    → result_ok (whole goes_on bytes (read_by t 0 bytes)) ≡ Some read → IsRead t goes_on bytes read
whole_read {A = A} t goes_on bytes read e = by_result (read_by t 0 bytes) refl e
  where
    by_tests : (x : A × ℕ) → read_by t 0 bytes ≡ Ok x → (on : Bool) → goes_on x.0 ≡ on → (at_end : Bool) → nat_eq x.1 (length bytes) ≡ at_end
        → result_ok (if on then Ok x else if at_end then Ok x else Err (BadField x.1)) ≡ Some read → IsRead t goes_on bytes read
    by_tests x is true on at_end last e =
        let same : x ≡ read = cc in
        record { by = is ∙ ap Ok same; all = λ none. absurd (let no : true ≡ false = sym on ∙ ap (λ (y : A × ℕ). goes_on y.0) same ∙ none in cc) }
    by_tests x is false on true last e =
        let same : x ≡ read = cc in
        record { by = is ∙ ap Ok same; all = λ none. ap (λ (y : A × ℕ). y.1) (sym same) ∙ eqb-true x.1 (length bytes) last }
    by_tests x is false on false last e = cc

    by_result : (r : Result (A × ℕ) HeaderFault) → read_by t 0 bytes ≡ r → result_ok (whole goes_on bytes r) ≡ Some read → IsRead t goes_on bytes read
    by_result (Ok x) is e = by_tests x is (goes_on x.0) refl (nat_eq x.1 (length bytes)) refl e
    by_result (Err fault) is e = cc
