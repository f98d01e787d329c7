-- Segments, their bytes, and what bytes are none.
use Rattle.std.specs.Prelude.{◌≡◌, ℕ, ◌+◌, ◌-◌, ◌^◌, ◌<◌, ◌≤◌, ◌⊎◌, Bool, false, not, ◌&&◌, ◌||◌, List, [], ◌∷◌, ◌++◌, length, drop, slice_index, Option, Some, None, Result, Ok, Err, nat_lt, ◌==◌, if◌then◌else◌}
use Rattle.std.specs.Int.{w8, w16, w32, from_be_bytes, to_be_bytes}
use Rattle.circus_segment.specs.declared.fault.SegmentFault.{SegmentFault}
use Rattle.circus_segment.specs.declared.fault.SegmentFault.TheVariants.{Short, TooLong, BadKind, BadNumber, BadPart}

-- a segment without where its data lies in memory
pub record Piece : Type 0 where
  pub format : ℕ
  pub kind : ℕ
  pub control : ℕ
  pub total : ℕ
  pub number : ℕ
  pub call : ℕ
  pub part : List ℕ

-- the header of a segment: in format 1 total and number have one byte each, in format 2 two, and the kinds are 2 and 3
unfoldable pub header : Piece → List ℕ
header s =
    if s.format == 1
    then s.kind ∷ s.control ∷ to_be_bytes w8 s.total ++ to_be_bytes w8 s.number ++ to_be_bytes w32 s.call
    else (if s.kind == 0 then 2 else 3) ∷ s.control ∷ to_be_bytes w16 s.total ++ to_be_bytes w16 s.number ++ to_be_bytes w32 s.call

-- the bytes of a segment
unfoldable pub spelling : Piece → List ℕ
spelling s = header s ++ s.part

-- how many bytes of data a segment has that is not the last of its message
abbrev pub part_size : ℕ
part_size = 1024

-- how many segments a message has at most in a format
abbrev pub most_segments : ℕ → ℕ
most_segments format = if format == 1 then 255 else 1025

abbrev pub is_acknowledgement : Piece → Bool
is_acknowledgement s = s.control == 1

-- asks whether a call arrived, and has no data
abbrev pub is_probe : Piece → Bool
is_probe s = s.kind == 0 && (s.control == 2 && s.number == 0)

-- whether a segment has data
abbrev pub has_data : Piece → Bool
has_data s = not (is_acknowledgement s || is_probe s)

-- no message has this total, or no segment of it this number
abbrev pub has_bad_number : Piece → Bool
has_bad_number s = s.total == 0 || (nat_lt (most_segments 2) s.total || (nat_lt s.total s.number || (s.number == 0 && has_data s)))

-- each segment before the last has 1,024 bytes, the last 1 to 1,024, acknowledgements and probes none
abbrev pub has_bad_part : Piece → Bool
has_bad_part s =
    if has_data s
    then length s.part == 0 || (nat_lt s.number s.total && not (length s.part == part_size))
    else nat_lt 0 (length s.part)

-- what a segment may say
pub record IsSegment (s : Piece) : Type 0 where
  pub format : (s.format ≡ 1) ⊎ (s.format ≡ 2)
  pub kind : s.kind ≤ 1
  pub control : s.control ≤ 2
  pub total : s.total ≤ most_segments s.format
  pub numbered : has_bad_number s ≡ false
  pub call : s.call < 2 ^ 32
  pub at_most : length s.part ≤ part_size
  pub part : has_bad_part s ≡ false

-- byte 0 is a kind of format 2
abbrev pub is_second : List ℕ → Bool
is_second bytes = slice_index bytes 0 == 2 || slice_index bytes 0 == 3

abbrev pub header_len : List ℕ → ℕ
header_len bytes = if is_second bytes then 10 else 8

-- the number that stands in two bytes, and in four
abbrev pub two_at : List ℕ → ℕ → ℕ
two_at bytes i = from_be_bytes w16 (slice_index bytes i ∷ slice_index bytes (i + 1) ∷ [])

abbrev pub four_at : List ℕ → ℕ → ℕ
four_at bytes i = from_be_bytes w32 (slice_index bytes i ∷ slice_index bytes (i + 1) ∷ slice_index bytes (i + 2) ∷ slice_index bytes (i + 3) ∷ [])

-- what stands in the fields of a datagram
unfoldable pub fields_of : List ℕ → Piece
fields_of bytes =
    if is_second bytes
    then record { format = 2; kind = slice_index bytes 0 - 2; control = slice_index bytes 1; total = two_at bytes 2; number = two_at bytes 4; call = four_at bytes 6; part = drop 10 bytes }
    else record { format = 1; kind = slice_index bytes 0; control = slice_index bytes 1; total = slice_index bytes 2; number = slice_index bytes 3; call = four_at bytes 4; part = drop 8 bytes }

-- why the header is none
unfoldable pub header_refusal : List ℕ → Option SegmentFault
header_refusal bytes =
    if nat_lt (length bytes) (header_len bytes) then Some Short
    else if nat_lt (header_len bytes + part_size) (length bytes) then Some TooLong
    else if nat_lt 3 (slice_index bytes 0) || nat_lt 2 (slice_index bytes 1) then Some BadKind
    else None

-- why the fields are those of no segment
abbrev pub field_refusal : Piece → Option SegmentFault
field_refusal s = if has_bad_number s then Some BadNumber else if has_bad_part s then Some BadPart else None

abbrev pub or_else : Option SegmentFault → Option SegmentFault → Option SegmentFault
or_else None other = other
or_else (Some fault) other = Some fault

-- the first reason why a datagram is no segment
abbrev pub refusal : List ℕ → Option SegmentFault
refusal bytes = or_else (header_refusal bytes) (field_refusal (fields_of bytes))

abbrev pub or_refused : Option SegmentFault → Piece → Result Piece SegmentFault
or_refused None s = Ok s
or_refused (Some fault) s = Err fault

-- the segment that a datagram is, or why it is none
abbrev pub reading : List ℕ → Result Piece SegmentFault
reading bytes = or_refused (refusal bytes) (fields_of bytes)
