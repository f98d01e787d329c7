-- What is read is spelled so, and what is spelled is read again.
use Rattle.std.proofs.Common.{◌≡◌, ℕ, zero, suc, ◌+◌, ◌-◌, ◌%◌, ◌^◌, ◌<◌, ◌≤◌, inl, inr, Bool, true, false, cond, ◌||◌, eqb, ltb, List, [], ◌∷◌, ◌++◌, length, length-drop, get_or, take, drop, Option, Some, None, Result, Ok, refl, sym, ap, subst, ◌∙◌, arith}
use Rattle.std.specs.Int.{w16, w32, from_be_bytes, to_be_bytes}
use Rattle.std.proofs.lemmas.Bool.{le-ltb}
use Rattle.std.proofs.lemmas.Nat.{be_bytes_2, be_bytes_4, from_be_bytes-to_be_bytes_2, from_be_bytes-to_be_bytes_4}
use Rattle.std.specs.Prelude.{slice_range}
use Rattle.std.proofs.Math.Nat.{mod-eq_of_lt}
use Rattle.std.proofs.Math.Seq.{take-length}
use Rattle.circus_segment.specs.declared.fault.SegmentFault.{SegmentFault}
use Rattle.circus_segment.specs.declared.fault.SegmentFault.TheVariants.{BadNumber, BadPart}
use Rattle.circus_segment.specs.Segment.{Piece, header, spelling, most_segments, has_bad_number, has_bad_part, IsSegment, is_second, header_len, two_at, four_at, fields_of, header_refusal, field_refusal, or_else, or_refused, reading}

-- ---- what is spelled is read again

abbrev first : (k c t n call : ℕ) → List ℕ → Piece
first k c t n call part = record { format = 1; kind = k; control = c; total = t; number = n; call = call; part = part }

abbrev second : (k c t n call : ℕ) → List ℕ → Piece
second k c t n call part = record { format = 2; kind = k; control = c; total = t; number = n; call = call; part = part }

first_fields : (k c t n call : ℕ) (part : List ℕ) → k ≤ 1 → t < 256 → n < 256 → call < 2 ^ 32 → fields_of (spelling (first k c t n call part)) ≡ first k c t n call part
unfolding fields_of spelling header
first_fields zero c t n call part kind total number fits = rw (from_be_bytes-to_be_bytes_4 call fits, mod-eq_of_lt total, mod-eq_of_lt number) refl
first_fields (suc zero) c t n call part kind total number fits = rw (from_be_bytes-to_be_bytes_4 call fits, mod-eq_of_lt total, mod-eq_of_lt number) refl
first_fields (suc (suc k)) c t n call part kind total number fits = absurd (omega arith)

first_header : (k c t n call : ℕ) (part : List ℕ) → k ≤ 1 → c ≤ 2 → length part ≤ 1024 → header_refusal (spelling (first k c t n call part)) ≡ None
unfolding header_refusal spelling header
first_header zero c t n call part kind control short = rw (le-ltb (suc (suc (suc (suc (suc (suc (suc (suc (length part))))))))) 8 (omega arith), le-ltb 1032 (suc (suc (suc (suc (suc (suc (suc (suc (length part))))))))) (omega arith), le-ltb 2 c control) refl
first_header (suc zero) c t n call part kind control short = rw (le-ltb (suc (suc (suc (suc (suc (suc (suc (suc (length part))))))))) 8 (omega arith), le-ltb 1032 (suc (suc (suc (suc (suc (suc (suc (suc (length part))))))))) (omega arith), le-ltb 2 c control) refl
first_header (suc (suc k)) c t n call part kind control short = absurd (omega arith)

second_fields : (k c t n call : ℕ) (part : List ℕ) → k ≤ 1 → t < 2 ^ 16 → n < 2 ^ 16 → call < 2 ^ 32 → fields_of (spelling (second k c t n call part)) ≡ second k c t n call part
unfolding fields_of spelling header
second_fields zero c t n call part kind total number fits = rw (from_be_bytes-to_be_bytes_4 call fits, from_be_bytes-to_be_bytes_2 t total, from_be_bytes-to_be_bytes_2 n number) refl
second_fields (suc zero) c t n call part kind total number fits = rw (from_be_bytes-to_be_bytes_4 call fits, from_be_bytes-to_be_bytes_2 t total, from_be_bytes-to_be_bytes_2 n number) refl
second_fields (suc (suc k)) c t n call part kind total number fits = absurd (omega arith)

second_header : (k c t n call : ℕ) (part : List ℕ) → k ≤ 1 → c ≤ 2 → length part ≤ 1024 → header_refusal (spelling (second k c t n call part)) ≡ None
unfolding header_refusal spelling header
second_header zero c t n call part kind control short = rw (le-ltb 2 c control) (grind arith)
second_header (suc zero) c t n call part kind control short = rw (le-ltb 2 c control) (grind arith)
second_header (suc (suc k)) c t n call part kind control short = absurd (omega arith)

again : (p : Piece) (bytes : List ℕ) → fields_of bytes ≡ p → header_refusal bytes ≡ None → has_bad_number p ≡ false → has_bad_part p ≡ false → reading bytes ≡ Ok p
again p bytes fields header numbered part = rw (header, fields, numbered, part) refl

number_bound : (total number : ℕ) (low : Bool) → (eqb total 0 || (ltb 1025 total || (ltb total number || low))) ≡ false → (total ≤ 1025) × (number ≤ total)
number_bound total number low h = grind arith

format_1 : (p : Piece) → IsSegment p → p.format ≡ 1 → reading (spelling p) ≡ Ok p
format_1 p s one =
    let below = number_bound p.total p.number _ s.numbered in
    let q : Piece = first p.kind p.control p.total p.number p.call p.part in
    let same : q ≡ p = ap (λ (f : ℕ). record p { format = f }) (sym one) in
    let most : p.total ≤ 255 = subst (λ (f : ℕ). p.total ≤ most_segments f) one s.total in
    subst (λ (x : Piece). has_bad_number x ≡ false → has_bad_part x ≡ false → reading (spelling x) ≡ Ok x) same
    (again q (spelling q) (first_fields _ _ _ _ _ _ s.kind (omega arith) (omega arith) s.call) (first_header _ _ _ _ _ _ s.kind s.control s.at_most))
    s.numbered s.part

format_2 : (p : Piece) → IsSegment p → p.format ≡ 2 → reading (spelling p) ≡ Ok p
format_2 p s two =
    let below = number_bound p.total p.number _ s.numbered in
    let q : Piece = second p.kind p.control p.total p.number p.call p.part in
    let same : q ≡ p = ap (λ (f : ℕ). record p { format = f }) (sym two) in
    let total : p.total ≤ 1025 = below.0 in
    let number : p.number ≤ 1025 = omega (arith, below.0, below.1) in
    subst (λ (x : Piece). has_bad_number x ≡ false → has_bad_part x ≡ false → reading (spelling x) ≡ Ok x) same
    (again q (spelling q) (second_fields _ _ _ _ _ _ s.kind (omega arith) (omega arith) s.call) (second_header _ _ _ _ _ _ s.kind s.control s.at_most))
    s.numbered s.part

-- the bytes of a segment are read as that segment
pub read_again : (p : Piece) → IsSegment p → reading (spelling p) ≡ Ok p
read_again p s = elim s.format [ inl one ↦ format_1 p s one | inr two ↦ format_2 p s two ]

-- ---- what is read is spelled so

abbrev pub IsBytes : List ℕ → Type 0
IsBytes bytes = (i : ℕ) → get_or bytes i 0 < 256

header_bounds : (bytes : List ℕ) → header_refusal bytes ≡ None → (header_len bytes ≤ length bytes) × (length bytes ≤ header_len bytes + 1024) × (get_or bytes 0 0 ≤ 3) × (get_or bytes 1 0 ≤ 2)
unfolding header_refusal
header_bounds bytes h = grind arith

pub field_bounds : (s : Piece) → field_refusal s ≡ None → (has_bad_number s ≡ false) × (has_bad_part s ≡ false)
field_bounds s h = elim (has_bad_number s) as (λ b. cond b (Some BadNumber) (cond (has_bad_part s) (Some BadPart) None) ≡ None → (b ≡ false) × (has_bad_part s ≡ false)) [
  | true ↦ λ e. absurd cc
  | false ↦ elim (has_bad_part s) as (λ b. cond b (Some BadPart) None ≡ None → (false ≡ false) × (b ≡ false)) [ true ↦ λ e. absurd cc | false ↦ λ e. (refl, refl) ]
] h

pub record IsSpelled (bytes : List ℕ) : Type 0 where
  pub segment : IsSegment (fields_of bytes)
  pub bytes_are : bytes ≡ spelling (fields_of bytes)

first_is : (k c t n a b d e : ℕ) (part : List ℕ) → (eqb k 2 || eqb k 3) ≡ false → fields_of (k ∷ c ∷ t ∷ n ∷ a ∷ b ∷ d ∷ e ∷ part) ≡ first k c t n (from_be_bytes w32 (a ∷ b ∷ d ∷ e ∷ [])) part
unfolding fields_of
first_is k c t n a b d e part h = rw h refl

second_is : (k c t u n m a b d e : ℕ) (part : List ℕ) → (eqb k 2 || eqb k 3) ≡ true → fields_of (k ∷ c ∷ t ∷ u ∷ n ∷ m ∷ a ∷ b ∷ d ∷ e ∷ part) ≡ second (k - 2) c (from_be_bytes w16 (t ∷ u ∷ [])) (from_be_bytes w16 (n ∷ m ∷ [])) (from_be_bytes w32 (a ∷ b ∷ d ∷ e ∷ [])) part
unfolding fields_of
second_is k c t u n m a b d e part h = rw h refl

four_bytes : (a b d e : ℕ) (rest : List ℕ) → IsBytes (a ∷ b ∷ d ∷ e ∷ rest) → IsBytes (a ∷ b ∷ d ∷ e ∷ [])
four_bytes a b d e rest h zero = h 0
four_bytes a b d e rest h (suc zero) = h 1
four_bytes a b d e rest h (suc (suc zero)) = h 2
four_bytes a b d e rest h (suc (suc (suc zero))) = h 3
four_bytes a b d e rest h (suc (suc (suc (suc i)))) = omega arith

two_bytes : (a b : ℕ) (rest : List ℕ) → IsBytes (a ∷ b ∷ rest) → IsBytes (a ∷ b ∷ [])
two_bytes a b rest h zero = h 0
two_bytes a b rest h (suc zero) = h 1
two_bytes a b rest h (suc (suc i)) = omega arith

four_fits : (a b d e : ℕ) → IsBytes (a ∷ b ∷ d ∷ e ∷ []) → from_be_bytes w32 (a ∷ b ∷ d ∷ e ∷ []) < 2 ^ 32
four_fits a b d e h = omega (arith, h 0, h 1, h 2, h 3)

kind_of_first : (k : ℕ) → k ≤ 3 → (eqb k 2 || eqb k 3) ≡ false → k ≤ 1
kind_of_first k h isnt = grind arith

kind_of_second : (k : ℕ) → (eqb k 2 || eqb k 3) ≡ true → (k - 2 ≤ 1) × (cond (eqb (k - 2) 0) 2 3 ≡ k)
kind_of_second k twice = grind arith

first_spelled : (k c t n a b d e : ℕ) (part : List ℕ) → IsBytes (k ∷ c ∷ t ∷ n ∷ a ∷ b ∷ d ∷ e ∷ part) → (eqb k 2 || eqb k 3) ≡ false → k ≤ 3 → c ≤ 2 → length part ≤ 1024 → field_refusal (first k c t n (from_be_bytes w32 (a ∷ b ∷ d ∷ e ∷ [])) part) ≡ None → IsSpelled (k ∷ c ∷ t ∷ n ∷ a ∷ b ∷ d ∷ e ∷ part)
unfolding spelling header
first_spelled k c t n a b d e part bytes isnt kind control short none =
    let call = from_be_bytes w32 (a ∷ b ∷ d ∷ e ∷ []) in
    let s = first k c t n call part in
    let all = k ∷ c ∷ t ∷ n ∷ a ∷ b ∷ d ∷ e ∷ part in
    let fields : IsBytes (a ∷ b ∷ d ∷ e ∷ []) = four_bytes a b d e part (λ i. bytes (suc (suc (suc (suc i))))) in
    let bounds = field_bounds s none in
    let total : t < 256 = bytes 2 in
    let number : n < 256 = bytes 3 in
    let segment : IsSegment s = record { format = inl refl; kind = kind_of_first k kind isnt; control = control; total = omega arith; numbered = bounds.0; call = four_fits a b d e fields; at_most = short; part = bounds.1 } in
    let head : ◌≡◌ {A = List ℕ} ((t % 256) ∷ (n % 256) ∷ []) (t ∷ n ∷ []) = rw (mod-eq_of_lt total, mod-eq_of_lt number) refl in
    let spelled : all ≡ spelling s = sym (ap (λ (h : List ℕ). k ∷ c ∷ (h ++ to_be_bytes w32 call ++ part)) head ∙ ap (λ (h : List ℕ). k ∷ c ∷ t ∷ n ∷ (h ++ part)) (be_bytes_4 (a ∷ b ∷ d ∷ e ∷ []) call refl fields refl)) in
    let is : s ≡ fields_of all = sym (first_is k c t n a b d e part isnt) in
    record { segment = subst IsSegment is segment; bytes_are = spelled ∙ ap spelling is }

second_spelled : (k c t u n m a b d e : ℕ) (part : List ℕ) → IsBytes (k ∷ c ∷ t ∷ u ∷ n ∷ m ∷ a ∷ b ∷ d ∷ e ∷ part) → (eqb k 2 || eqb k 3) ≡ true → c ≤ 2 → length part ≤ 1024 → field_refusal (second (k - 2) c (from_be_bytes w16 (t ∷ u ∷ [])) (from_be_bytes w16 (n ∷ m ∷ [])) (from_be_bytes w32 (a ∷ b ∷ d ∷ e ∷ [])) part) ≡ None → IsSpelled (k ∷ c ∷ t ∷ u ∷ n ∷ m ∷ a ∷ b ∷ d ∷ e ∷ part)
unfolding spelling header
second_spelled k c t u n m a b d e part bytes twice control short none =
    let total = from_be_bytes w16 (t ∷ u ∷ []) in
    let number = from_be_bytes w16 (n ∷ m ∷ []) in
    let call = from_be_bytes w32 (a ∷ b ∷ d ∷ e ∷ []) in
    let s = second (k - 2) c total number call part in
    let all = k ∷ c ∷ t ∷ u ∷ n ∷ m ∷ a ∷ b ∷ d ∷ e ∷ part in
    let total_bytes : IsBytes (t ∷ u ∷ []) = two_bytes t u (n ∷ m ∷ a ∷ b ∷ d ∷ e ∷ part) (λ i. bytes (suc (suc i))) in
    let number_bytes : IsBytes (n ∷ m ∷ []) = two_bytes n m (a ∷ b ∷ d ∷ e ∷ part) (λ i. bytes (suc (suc (suc (suc i))))) in
    let call_bytes : IsBytes (a ∷ b ∷ d ∷ e ∷ []) = four_bytes a b d e part (λ i. bytes (suc (suc (suc (suc (suc (suc i))))))) in
    let bounds = field_bounds s none in
    let kinds = kind_of_second k twice in
    let segment : IsSegment s = record { format = inr refl; kind = kinds.0; control = control; total = (number_bound total number _ bounds.0).0; numbered = bounds.0; call = four_fits a b d e call_bytes; at_most = short; part = bounds.1 } in
    let spelled : all ≡ spelling s = sym (
    ap (λ (h : ℕ). h ∷ c ∷ (to_be_bytes w16 total ++ to_be_bytes w16 number ++ to_be_bytes w32 call ++ part)) kinds.1
    ∙ ap (λ (h : List ℕ). k ∷ c ∷ (h ++ to_be_bytes w16 number ++ to_be_bytes w32 call ++ part)) (be_bytes_2 (t ∷ u ∷ []) total refl total_bytes refl)
    ∙ ap (λ (h : List ℕ). k ∷ c ∷ t ∷ u ∷ (h ++ to_be_bytes w32 call ++ part)) (be_bytes_2 (n ∷ m ∷ []) number refl number_bytes refl)
    ∙ ap (λ (h : List ℕ). k ∷ c ∷ t ∷ u ∷ n ∷ m ∷ (h ++ part)) (be_bytes_4 (a ∷ b ∷ d ∷ e ∷ []) call refl call_bytes refl)) in
    let is : s ≡ fields_of all = sym (second_is k c t u n m a b d e part twice) in
    record { segment = subst IsSegment is segment; bytes_are = spelled ∙ ap spelling is }

first_long : (bytes : List ℕ) → 8 ≤ length bytes → length bytes ≤ 1032 → IsBytes bytes → is_second bytes ≡ false → get_or bytes 0 0 ≤ 3 → get_or bytes 1 0 ≤ 2 → field_refusal (fields_of bytes) ≡ None → IsSpelled bytes
first_long (k ∷ c ∷ t ∷ n ∷ a ∷ b ∷ d ∷ e ∷ part) long short bytes isnt kind control none =
    first_spelled k c t n a b d e part bytes isnt kind control (omega arith) (subst (λ (s : Piece). field_refusal s ≡ None) (first_is k c t n a b d e part isnt) none)
first_long _ long short bytes isnt kind control none = absurd (omega arith)

second_long : (bytes : List ℕ) → 10 ≤ length bytes → length bytes ≤ 1034 → IsBytes bytes → is_second bytes ≡ true → get_or bytes 1 0 ≤ 2 → field_refusal (fields_of bytes) ≡ None → IsSpelled bytes
second_long (k ∷ c ∷ t ∷ u ∷ n ∷ m ∷ a ∷ b ∷ d ∷ e ∷ part) long short bytes twice control none =
    second_spelled k c t u n m a b d e part bytes twice control (omega arith) (subst (λ (s : Piece). field_refusal s ≡ None) (second_is k c t u n m a b d e part twice) none)
second_long _ long short bytes twice control none = absurd (omega arith)

-- what is no fault is a segment, and the bytes are its bytes
pub spelled : (bytes : List ℕ) → IsBytes bytes → header_refusal bytes ≡ None → field_refusal (fields_of bytes) ≡ None → IsSpelled bytes
spelled bytes h header none =
    let bounds = header_bounds bytes header in
    elim (is_second bytes) as (λ b. is_second bytes ≡ b → cond b 10 8 ≤ length bytes → length bytes ≤ cond b 10 8 + 1024 → IsSpelled bytes) [
      | true ↦ λ twice long short. second_long bytes long short h twice bounds.3 none
      | false ↦ λ isnt long short. first_long bytes long short h isnt bounds.2 bounds.3 none
    ] refl bounds.0 bounds.1

pub read_spelled : (bytes : List ℕ) (s : Piece) → IsBytes bytes → header_refusal bytes ≡ None → s ≡ fields_of bytes → field_refusal s ≡ None → IsSegment s × (bytes ≡ spelling s)
read_spelled bytes s h header fields none =
    let whole = spelled bytes h header (ap field_refusal (sym fields) ∙ none) in
    (subst IsSegment (sym fields) whole.segment, whole.bytes_are ∙ ap spelling (sym fields))

ok_is : (x y : Piece) → ◌≡◌ {A = Result Piece SegmentFault} (Ok x) (Ok y) → x ≡ y
ok_is x y e = cc

field_read : (o : Option SegmentFault) (s p : Piece) → or_refused o s ≡ Ok p → s ≡ p
field_read None s p e = ok_is s p e
field_read (Some fault) s p e = absurd cc

header_read : (h f : Option SegmentFault) (s p : Piece) → or_refused (or_else h f) s ≡ Ok p → (h ≡ None) × (s ≡ p)
header_read None f s p e = (refl, field_read f s p e)
header_read (Some fault) f s p e = absurd cc

fields_part : (bytes : List ℕ) → (fields_of bytes).part ≡ drop (header_len bytes) bytes
unfolding fields_of
fields_part bytes = elim (is_second bytes) as (λ b. (cond b (second (get_or bytes 0 0 - 2) (get_or bytes 1 0) (two_at bytes 2) (two_at bytes 4) (four_at bytes 6) (drop 10 bytes)) (first (get_or bytes 0 0) (get_or bytes 1 0) (get_or bytes 2 0) (get_or bytes 3 0) (four_at bytes 4) (drop 8 bytes))).part ≡ drop (cond b 10 8) bytes) [ true ↦ refl | false ↦ refl ]

-- where the data of a segment stands in its datagram
pub part_bounds : (bytes : List ℕ) (p : Piece) → reading bytes ≡ Ok p → (length p.part ≤ length bytes) × (drop (length bytes - length p.part) bytes ≡ p.part) × (length p.part ≤ 1024)
part_bounds bytes p e =
    let read = header_read (header_refusal bytes) (field_refusal (fields_of bytes)) (fields_of bytes) p e in
    let bounds = header_bounds bytes read.0 in
    let part : p.part ≡ drop (header_len bytes) bytes = ap (λ (s : Piece). s.part) (sym read.1) ∙ fields_part bytes in
    let len : length p.part ≡ length bytes - header_len bytes = ap length part ∙ length-drop (header_len bytes) bytes in
    let at : length bytes - length p.part ≡ header_len bytes = omega (arith, bounds.0) in
    (omega arith, ap (λ n. drop n bytes) at ∙ sym part, omega (arith, bounds.1))

-- the data of a segment is the end of its datagram
pub part_slice : (bytes : List ℕ) (p : Piece) (len : ℕ) → len ≡ length bytes → reading bytes ≡ Ok p → slice_range bytes (len - length p.part) (length bytes) ≡ p.part
part_slice bytes p len is e =
    let bounds = part_bounds bytes p e in
    let rest : drop (len - length p.part) bytes ≡ p.part = ap (λ n. drop (n - length p.part) bytes) is ∙ bounds.1 in
    let size : length bytes - (len - length p.part) ≡ length p.part = (let le : length p.part ≤ length bytes = bounds.0 in omega arith) in
    ap (λ d. take (length bytes - (len - length p.part)) d) rest ∙ ap (λ n. take n p.part) size ∙ take-length p.part
