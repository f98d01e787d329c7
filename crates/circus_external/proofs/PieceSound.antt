-- Reading a number, and reading a string's bytes.
use Rattle.std.proofs.Common.{◌≡◌, ◌≢◌, ◌⊎◌, inl, inr, ℕ, zero, suc, ◌+◌, ◌%◌, ◌<◌, ◌≤◌, Bool, true, false, cond, not, ◌&&◌, nat_eq, nat_lt, ltb, Option, Some, None, List, [], ◌∷◌, ◌++◌, length, take, drop, get_or, replicate, refl, sym, ap, ◌∙◌, subst, arith, append_assoc, append-nil, length-append}
use Rattle.std.specs.List.{list_all}
use Rattle.std.specs.Int.{w16, w32, from_be_bytes}
use Rattle.std.proofs.lemmas.Bool.{ltb-true, ltb-false, lt-ltb, eqb-true, eq-eqb}
use Rattle.std.proofs.lemmas.Nat.{be_bytes_2, be_bytes_4}
use Rattle.std.proofs.lemmas.List.{take-append-drop, length-replicate, length-take-le}
use Rattle.std.proofs.Math.Dec.{eqb-suc-zero}
use Rattle.std.proofs.Math.Seq.{drop-cons}
use Rattle.circus_external.specs.Octets.{word, long}
use Rattle.circus_external.specs.Spelling.{Piece, number, content, contents, pad, bytes_of_pieces}
use Rattle.circus_external.specs.Answer.{found, short, bad_pad}
use Rattle.circus_value.specs.Parts.{AreOctets}
use Rattle.circus_external.specs.Refusal.{GoesOn}
use Rattle.circus_external.specs.Reading.{meaning_or_fault, one_word, two_words, is_bad_pad, content_read}
use Rattle.circus_external.proofs.ShapesAlike.{and_both}
use Rattle.circus_external.proofs.Sound.{Sound}

-- ---- one number

-- values that are spelled as one number, and what each number means
pub record Meaning {X : Type 0} (h : Type 0) (bound : ℕ) (digits : ℕ → List ℕ) (admits : X → Bool) (pieces_of : X → List Piece) (mean : ℕ → Option X) : Type 0 where
  pub means : (n : ℕ) (x : X) → n < bound → mean n ≡ Some x → (admits x ≡ true) × (pieces_of x ≡ number (digits n) ∷ [])
  pub nothing : h → (n : ℕ) → n < bound → mean n ≡ None → (x : X) (others : List Piece) → admits x ≡ true → pieces_of x ≡ number (digits n) ∷ others → ⊥
  pub some : h → (x : X) × (m : ℕ) × (admits x ≡ true) × (pieces_of x ≡ number (digits m) ∷ [])

some_goes : {X : Type 0} {h : Type 0} {bound : ℕ} {digits : ℕ → List ℕ} {admits : X → Bool} {pieces_of : X → List Piece} {mean : ℕ → Option X} → (m : Meaning h bound digits admits pieces_of mean) (holds : h) → let s = m.some holds in GoesOn admits pieces_of [] (number (digits s.1))
some_goes m holds = let s = m.some holds in record { value = s.0; admitted = s.2; others = []; pieces = s.3 }

missing_sound : {X : Type 0} {h : Type 0} {bound : ℕ} {digits : ℕ → List ℕ} {admits : X → Bool} {pieces_of : X → List Piece} {mean : ℕ → Option X} → Meaning h bound digits admits pieces_of mean
    → (at : ℕ) (bytes : List ℕ) → ((n : ℕ) → length bytes < length (digits n)) → Sound h admits pieces_of at bytes (short at)
missing_sound {digits = digits} m at bytes few = λ holds.
    (0, omega arith, record { done = []; next = number (digits (m.some holds).1); rest = bytes; goes_on = some_goes m holds; whole = refl; missing = few (m.some holds).1; offset_is = refl })

number_sound : {X : Type 0} {h : Type 0} {bound : ℕ} {digits : ℕ → List ℕ} {admits : X → Bool} {pieces_of : X → List Piece} {mean : ℕ → Option X} → Meaning h bound digits admits pieces_of mean
    → (at n size : ℕ) (bytes rest : List ℕ) → n < bound → bytes ≡ digits n ++ rest → size ≡ length (digits n) → ((k : ℕ) → length (digits k) ≡ size)
    → (o : Option X) → mean n ≡ o → Sound h admits pieces_of at bytes (meaning_or_fault o at (at + size) rest)
number_sound {digits = digits} {pieces_of = pieces_of} m at n size bytes rest few whole sized sizes (Some x) is =
    let p = m.means n x few is in
    let all : bytes_of_pieces (pieces_of x) ≡ digits n = ap bytes_of_pieces p.1 ∙ append-nil (digits n) in
    (size, refl, record { admitted = p.0; whole = whole ∙ ap (λ l. l ++ rest) (sym all); offset_is = sized ∙ ap length (sym all) })
number_sound {digits = digits} m at n size bytes rest few whole sized sizes None is = λ holds. (
  0,
  omega arith,
  record {
    done = [];
    next = digits (m.some holds).1;
    digits = digits n;
    rest = rest;
    goes_on = some_goes m holds;
    whole = whole;
    size = sym sized ∙ sym (sizes (m.some holds).1);
    refused = λ g. m.nothing holds n few is g.value g.others g.admitted g.pieces;
    offset_is = refl;
  },
)

pub word_sound : {X : Type 0} {h : Type 0} {admits : X → Bool} {pieces_of : X → List Piece} {mean : ℕ → Option X} → Meaning h 65536 word admits pieces_of mean
    → (at : ℕ) (bytes : List ℕ) → AreOctets bytes → Sound h admits pieces_of at bytes (one_word mean at bytes)
word_sound m at [] are = missing_sound m at [] (λ n. omega arith)
word_sound m at (a ∷ []) are = missing_sound m at (a ∷ []) (λ n. omega arith)
word_sound {mean = mean} m at (a ∷ b ∷ rest) are =
    let n : ℕ = from_be_bytes w16 (a ∷ b ∷ []) in
    let high : a < 256 = are 0 in
    let low : b < 256 = are 1 in
    let small : n < 65536 = omega (arith, high, low) in
    let same : word n ≡ a ∷ b ∷ [] = be_bytes_2 (a ∷ b ∷ []) n refl (two_octets a b high low) refl in
    number_sound m at n 2 (a ∷ b ∷ rest) rest small (ap (λ l. l ++ rest) (sym same)) refl (λ k. refl) (mean n) refl
  where
    two_octets : (a b : ℕ) → a < 256 → b < 256 → (i : ℕ) → get_or (a ∷ b ∷ []) i 0 < 256
    two_octets a b high low zero = high
    two_octets a b high low (suc zero) = low
    two_octets a b high low (suc (suc i)) = omega arith

pub long_sound : {X : Type 0} {h : Type 0} {admits : X → Bool} {pieces_of : X → List Piece} {mean : ℕ → Option X} → Meaning h 4294967296 long admits pieces_of mean
    → (at : ℕ) (bytes : List ℕ) → AreOctets bytes → Sound h admits pieces_of at bytes (two_words mean at bytes)
long_sound m at [] are = missing_sound m at [] (λ n. omega arith)
long_sound m at (a ∷ []) are = missing_sound m at (a ∷ []) (λ n. omega arith)
long_sound m at (a ∷ b ∷ []) are = missing_sound m at (a ∷ b ∷ []) (λ n. omega arith)
long_sound m at (a ∷ b ∷ c ∷ []) are = missing_sound m at (a ∷ b ∷ c ∷ []) (λ n. omega arith)
long_sound {mean = mean} m at (a ∷ b ∷ c ∷ d ∷ rest) are =
    let n : ℕ = from_be_bytes w32 (a ∷ b ∷ c ∷ d ∷ []) in
    let first : a < 256 = are 0 in
    let second : b < 256 = are 1 in
    let third : c < 256 = are 2 in
    let fourth : d < 256 = are 3 in
    let small : n < 4294967296 = omega (arith, first, second, third, fourth) in
    let same : long n ≡ a ∷ b ∷ c ∷ d ∷ [] = be_bytes_4 (a ∷ b ∷ c ∷ d ∷ []) n refl (four_octets a b c d first second third fourth) refl in
    number_sound m at n 4 (a ∷ b ∷ c ∷ d ∷ rest) rest small (ap (λ l. l ++ rest) (sym same)) refl (λ k. refl) (mean n) refl
  where
    four_octets : (a b c d : ℕ) → a < 256 → b < 256 → c < 256 → d < 256 → (i : ℕ) → get_or (a ∷ b ∷ c ∷ d ∷ []) i 0 < 256
    four_octets a b c d p q r s zero = p
    four_octets a b c d p q r s (suc zero) = q
    four_octets a b c d p q r s (suc (suc zero)) = r
    four_octets a b c d p q r s (suc (suc (suc zero))) = s
    four_octets a b c d p q r s (suc (suc (suc (suc i)))) = omega arith

-- ---- the bytes of a string

-- so many bytes
abbrev pub is_content : ℕ → List ℕ → Bool
is_content n bytes = nat_eq (length bytes) n && list_all (λ b. nat_lt b 256) bytes

pub taken_octets : (n : ℕ) (bytes : List ℕ) → AreOctets bytes → list_all (λ b. ltb b 256) (take n bytes) ≡ true
taken_octets zero bytes are = refl
taken_octets (suc n) [] are = refl
taken_octets (suc n) (b ∷ bytes) are =
    ap (λ t. t && list_all (λ y. ltb y 256) (take n bytes)) (lt-ltb b 256 (are 0)) ∙ taken_octets n bytes (λ k. are (suc k))

zeros_octets : (n : ℕ) → list_all (λ b. ltb b 256) (replicate n 0) ≡ true
zeros_octets zero = refl
zeros_octets (suc n) = zeros_octets n

pub zeros_content : (n : ℕ) → is_content n (replicate n 0) ≡ true
zeros_content n = ap (λ t. t && list_all (λ b. ltb b 256) (replicate n 0)) (eq-eqb (length (replicate n 0)) n (length-replicate n 0)) ∙ zeros_octets n

zeros_go : (n : ℕ) → GoesOn (is_content (suc n)) contents [] (content (replicate (suc n) 0))
zeros_go n = record { value = replicate (suc n) 0; admitted = zeros_content (suc n); others = []; pieces = refl }

even_or_odd : (m : ℕ) → m < 2 → (m ≡ 0) ⊎ (m ≡ 1)
even_or_odd zero few = inl refl
even_or_odd (suc zero) few = inr refl
even_or_odd (suc (suc m)) few = absurd (omega arith)

zero_pad : (x : ℕ) → (nat_eq 1 1 && not (nat_eq x 0)) ≡ false → x ≡ 0
zero_pad zero good = refl
zero_pad (suc x) good =
    let e : true ≡ false = sym (ap (λ b. nat_eq 1 1 && not b) (eqb-suc-zero x)) ∙ good in
    cc

-- the pad is there
pad_there : (n : ℕ) (bytes : List ℕ) → n + n % 2 ≤ length bytes → is_bad_pad n bytes ≡ false → bytes ≡ take n bytes ++ (pad n ++ drop (n + n % 2) bytes)
pad_there n bytes enough good =
    let f : ℕ → List ℕ = λ m. take n bytes ++ (replicate m 0 ++ drop (n + m) bytes) in
    let few : n % 2 < 2 = omega arith in
    elim (even_or_odd (n % 2) few) [
      | inl even ↦
          let here : n ≡ n + 0 = omega arith in
          subst (λ m. bytes ≡ f m) (sym even) (sym (take-append-drop n bytes) ∙ ap (λ j. take n bytes ++ drop j bytes) here)
      | inr odd ↦
          let within : n < length bytes = omega arith in
          let here : suc n ≡ n + 1 = omega arith in
          let last = zero_pad (get_or bytes n 0) (subst (λ m. (nat_eq m 1 && not (nat_eq (get_or bytes n 0) 0)) ≡ false) odd good) in
          subst (λ m. bytes ≡ f m) (sym odd)
          (sym (take-append-drop n bytes) ∙ ap (λ l. take n bytes ++ l) (drop-cons bytes n 0 within ∙ (λ i. last i ∷ drop (here i) bytes)))
    ]

pub content_given : (n : ℕ) (bytes : List ℕ) → length bytes ≡ n → bytes_of_pieces (contents bytes) ≡ bytes ++ pad n
content_given n [] size = ap pad size
content_given n (b ∷ bytes) size = append-nil ((b ∷ bytes) ++ pad (length (b ∷ bytes))) ∙ ap (λ m. (b ∷ bytes) ++ pad m) size

not_zero_byte : (x : ℕ) → not (nat_eq x 0) ≡ true → x ≢ 0
not_zero_byte zero is same = cc
not_zero_byte (suc x) is same = absurd (omega arith)

content_tested : (h : Type 0) (n at : ℕ) (bytes : List ℕ) → AreOctets bytes → (few bad : Bool) → nat_lt (length bytes) (n + n % 2) ≡ few → is_bad_pad n bytes ≡ bad
    → Sound h (is_content n) contents at bytes (cond few (short at) (cond bad (bad_pad (at + n)) (found (take n bytes) (at + (n + n % 2)) (drop (n + n % 2) bytes))))
content_tested h zero at bytes are true bad is pad_is = absurd (omega (arith, ltb-true (length bytes) 0 is))
content_tested h (suc n) at bytes are true bad is pad_is = λ holds.
    let zeros : List ℕ = replicate (suc n) 0 in
    let size : length zeros ≡ suc n = length-replicate (suc n) 0 in
    let nought : ℕ = 0 in (
      0,
      omega arith,
      record {
        done = [];
        next = content zeros;
        rest = bytes;
        goes_on = zeros_go n;
        whole = refl;
        missing = omega (arith, ltb-true _ _ is, length-append zeros (pad (length zeros)), size, length-replicate (length zeros % 2) nought, ap (λ m. m % 2) size);
        offset_is = refl;
      },
    )
content_tested h zero at bytes are false true is pad_is = cc
content_tested h (suc n) at bytes are false true is pad_is = λ holds.
    let both = and_both (nat_eq (suc n % 2) 1) (not (nat_eq (get_or bytes (suc n) 0) 0)) pad_is in
    let odd : suc n % 2 ≡ 1 = eqb-true _ _ both.0 in
    let enough : suc n + suc n % 2 ≤ length bytes = ltb-false _ _ is in
    let within : suc n < length bytes = omega arith in
    let zeros : List ℕ = replicate (suc n) 0 in
    let size : length zeros ≡ suc n = length-replicate (suc n) 0 in
    let taken : length (take (suc n) bytes) ≡ suc n = length-take-le (suc n) bytes (omega arith) in (
      suc n,
      refl,
      record {
        done = [];
        next = zeros;
        string = take (suc n) bytes;
        last = get_or bytes (suc n) 0;
        rest = drop (suc (suc n)) bytes;
        goes_on = zeros_go n;
        odd = ap (λ m. m % 2) size ∙ odd;
        whole = sym (take-append-drop (suc n) bytes) ∙ ap (λ l. take (suc n) bytes ++ l) (drop-cons bytes (suc n) 0 within);
        size = taken ∙ sym size;
        not_zero = not_zero_byte (get_or bytes (suc n) 0) both.1;
        offset_is = omega (arith, taken);
      },
    )
content_tested h n at bytes are false false is pad_is =
    let enough : n + n % 2 ≤ length bytes = ltb-false _ _ is in
    let size : length (take n bytes) ≡ n = length-take-le n bytes (omega arith) in
    let all = content_given n (take n bytes) size in
    let nought : ℕ = 0 in (
      n + n % 2,
      refl,
      record {
        admitted = ap (λ t. t && list_all (λ b. ltb b 256) (take n bytes)) (eq-eqb (length (take n bytes)) n size) ∙ taken_octets n bytes are;
        whole = pad_there n bytes enough pad_is ∙ sym (append_assoc (take n bytes) (pad n) (drop (n + n % 2) bytes)) ∙ ap (λ l. l ++ drop (n + n % 2) bytes) (sym all);
        offset_is = omega (arith, ap length all, length-append (take n bytes) (pad n), size, length-replicate (n % 2) nought);
      },
    )

pub content_sound : (h : Type 0) (n at : ℕ) (bytes : List ℕ) → AreOctets bytes → Sound h (is_content n) contents at bytes (content_read n at bytes)
content_sound h n at bytes are = content_tested h n at bytes are (nat_lt (length bytes) (n + n % 2)) (is_bad_pad n bytes) refl refl
