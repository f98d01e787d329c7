-- Numbers that stand at a place.
use Rattle.std.proofs.Common.{◌≡◌, ℕ, zero, suc, ◌+◌, ◌<◌, ◌≤◌, List, [], ◌∷◌, ◌++◌, length, take, drop, refl, sym, ap, ◌∙◌, arith, append_assoc, length-append, length-drop}
use Rattle.std.proofs.lemmas.List.{take-append-le, take_all}
use Rattle.std.proofs.lemmas.Nat.{from_be_bytes-to_be_bytes_2, from_be_bytes-to_be_bytes_4}
use Rattle.std.specs.Int.{w16, w32, to_be_bytes, from_be_bytes}
use Rattle.circus_header.specs.Field.{Field, word, long, HasRoom, field_len, field_bytes, bytes_of}
use Rattle.circus_header.specs.Seen.Layout.{Size, of_word, of_long, field_of, size_len, StandsAt}

pub length-field_bytes : (f : Field) → length (field_bytes f) ≡ field_len f
length-field_bytes (word n) = refl
length-field_bytes (long n) = refl

pub field_len-field_of : (s : Size) (n : ℕ) → field_len (field_of s n) ≡ size_len s
field_len-field_of of_word n = refl
field_len-field_of of_long n = refl

pub bytes_of-append : (fs gs : List Field) → bytes_of (fs ++ gs) ≡ bytes_of fs ++ bytes_of gs
bytes_of-append [] gs = refl
bytes_of-append (f ∷ fs) gs = ap (λ r. field_bytes f ++ r) (bytes_of-append fs gs) ∙ sym (append_assoc (field_bytes f) (bytes_of fs) (bytes_of gs))

pub drop-prefix : {A : Type 0} (xs ys : List A) (n : ℕ) → n ≡ length xs → drop n (xs ++ ys) ≡ ys
drop-prefix [] ys n e = rw e
drop-prefix (x ∷ xs) ys zero e = absurd (omega (arith, e))
drop-prefix (x ∷ xs) ys (suc n) e = drop-prefix xs ys n (omega (arith, e))

pub front_same : (xs ys us vs : List ℕ) → length xs ≡ length us → xs ++ ys ≡ us ++ vs → xs ≡ us
front_same xs ys us vs same e =
    sym (take_all (length xs) xs (omega arith)) ∙ sym (take-append-le (length xs) xs ys (omega arith))
    ∙ ap (take (length xs)) e ∙ take-append-le (length xs) us vs (omega (arith, same)) ∙ take_all (length xs) us (omega (arith, same))

-- at a place one number stands
pub stands_once : (octets : List ℕ) (at : ℕ) (s : Size) (n m : ℕ) → StandsAt octets at s n → StandsAt octets at s m → n ≡ m
stands_once octets at of_word n m a b =
    let same : to_be_bytes w16 n ≡ to_be_bytes w16 m = front_same (to_be_bytes w16 n) (drop (at + 2) octets) (to_be_bytes w16 m) (drop (at + 2) octets) refl (sym a.here ∙ b.here) in
    sym (from_be_bytes-to_be_bytes_2 n a.room) ∙ ap (from_be_bytes w16) same ∙ from_be_bytes-to_be_bytes_2 m b.room
stands_once octets at of_long n m a b =
    let same : to_be_bytes w32 n ≡ to_be_bytes w32 m = front_same (to_be_bytes w32 n) (drop (at + 4) octets) (to_be_bytes w32 m) (drop (at + 4) octets) refl (sym a.here ∙ b.here) in
    sym (from_be_bytes-to_be_bytes_4 n a.room) ∙ ap (from_be_bytes w32) same ∙ from_be_bytes-to_be_bytes_4 m b.room

pub size_some : (s : Size) → 0 < size_len s
size_some of_word = omega arith
size_some of_long = omega arith

-- what stands at a place is whole
pub stands_within : (octets : List ℕ) (at : ℕ) (s : Size) (n : ℕ) → StandsAt octets at s n → at + size_len s ≤ length octets
stands_within octets at s n a =
    omega (
      arith,
      ap length a.here,
      length-append (field_bytes (field_of s n)) (drop (at + size_len s) octets),
      length-field_bytes (field_of s n),
      field_len-field_of s n,
      length-drop at octets,
      size_some s,
    )

-- a field behind others stands at its place
pub stands_behind : (octets before rest : List ℕ) (at : ℕ) (s : Size) (n : ℕ) → HasRoom (field_of s n)
    → octets ≡ before ++ (field_bytes (field_of s n) ++ rest) → at ≡ length before → StandsAt octets at s n
stands_behind octets before rest at s n room e place =
    let f : List ℕ = field_bytes (field_of s n) in
    let here : drop at octets ≡ f ++ rest = ap (drop at) e ∙ drop-prefix before (f ++ rest) at place in
    let len : at + size_len s ≡ length (before ++ f) = omega (arith, place, length-append before f, length-field_bytes (field_of s n), field_len-field_of s n) in
    let after : drop (at + size_len s) octets ≡ rest =
    ap (drop (at + size_len s)) (e ∙ sym (append_assoc before f rest)) ∙ drop-prefix (before ++ f) rest (at + size_len s) len in
    record { room = room; here = here ∙ ap (λ r. f ++ r) (sym after) }
