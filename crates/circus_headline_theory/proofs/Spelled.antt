-- What an end sends is bytes where the messages are that were handed over at it.
use Rattle.std.proofs.Common.{◌≡◌, ℕ, zero, suc, ◌-◌, ◌*◌, ◌<◌, ◌≤◌, ◌⊎◌, Bool, true, false, not, ◌&&◌, ◌||◌, List, [], ◌∷◌, ◌++◌, length, take, drop, Option, None, Some, refl, sym, ap, subst, arith}
use Rattle.std.specs.Int.{w8, w16, w32, to_be_bytes}
use Rattle.std.specs.Prelude.{nat_lt, if◌then◌else◌, ◌==◌}
use Rattle.std.proofs.lemmas.Bool.{ltb-false}
use Rattle.circus_value.specs.Parts.{AreOctets}
use Rattle.circus_value.proofs.Octets.{none_octets, both_octets}
use Rattle.circus_external.proofs.Promises.{octets_rest}
use Rattle.circus_segment.specs.Segment.{Piece, is_acknowledgement, has_data, part_size, spelling, header}
use Rattle.circus_segment.specs.Cut.{part_at}
use Rattle.circus_exchange.specs.Exchange.{start}
use Rattle.circus_pair.specs.Acts.{Acts, none_yet, more, end_after, taken_by, with_taken}
use Rattle.circus_pair.specs.Handed.{call_at, return_at}
use Rattle.circus_pair.specs.Lawful.{AreLawful}
use Rattle.circus_pair.specs.Saying.{IsOfSome, IsSaid}
use Rattle.circus_pair.specs.TwoEnds.{sent_by, handed_over}
use Rattle.circus_pair.proofs.Each.{Each, each_append, each_map}
use Rattle.circus_pair.proofs.Growing.{grows_act}
use Rattle.circus_pair.proofs.Speaking.{is_first, says_act}
use Rattle.circus_pair.proofs.Told.{may_do, keeping_lawful}

-- ---- bytes

taken_octets : (n : ℕ) (bytes : List ℕ) → AreOctets bytes → AreOctets (take n bytes)
taken_octets zero bytes octets k = none_octets k
taken_octets (suc n) [] octets k = none_octets k
taken_octets (suc n) (b ∷ bytes) octets zero = octets zero
taken_octets (suc n) (b ∷ bytes) octets (suc k) = taken_octets n bytes (λ i. octets (suc i)) k

pub part_octets : (message : List ℕ) (number : ℕ) → AreOctets message → AreOctets (part_at message number)
unfolding part_at
part_octets message number octets = taken_octets part_size (drop (part_size * (number - 1)) message) (octets_rest message (part_size * (number - 1)) octets)

two_octets : (a b : ℕ) (bytes : List ℕ) → a < 256 → b < 256 → AreOctets bytes → AreOctets (a ∷ b ∷ bytes)
two_octets a b bytes low few octets zero = low
two_octets a b bytes low few octets (suc zero) = few
two_octets a b bytes low few octets (suc (suc k)) = octets k

byte_octets : (n : ℕ) → AreOctets (to_be_bytes w8 n)
byte_octets n zero = omega arith
byte_octets n (suc k) = omega arith

word_octets : (n : ℕ) → AreOctets (to_be_bytes w16 n)
word_octets n zero = omega arith
word_octets n (suc zero) = omega arith
word_octets n (suc (suc k)) = omega arith

long_octets : (n : ℕ) → AreOctets (to_be_bytes w32 n)
long_octets n zero = omega arith
long_octets n (suc zero) = omega arith
long_octets n (suc (suc zero)) = omega arith
long_octets n (suc (suc (suc zero))) = omega arith
long_octets n (suc (suc (suc (suc k)))) = omega arith

-- ---- a segment

header_octets : (s : Piece) → s.kind ≤ 1 → s.control ≤ 2 → AreOctets (header s)
unfolding header
header_octets s kind control = by_format (s.format == 1) (s.kind == 0)
  where
    kinds : (b : Bool) → (if b then 2 else 3) < 256
    kinds true = omega arith
    kinds false = omega arith

    by_format : (one call : Bool) → AreOctets (
        if one
        then s.kind ∷ s.control ∷ to_be_bytes w8 s.total ++ to_be_bytes w8 s.number ++ to_be_bytes w32 s.call
        else (if call then 2 else 3) ∷ s.control ∷ to_be_bytes w16 s.total ++ to_be_bytes w16 s.number ++ to_be_bytes w32 s.call)
    by_format true call =
        two_octets s.kind s.control (to_be_bytes w8 s.total ++ to_be_bytes w8 s.number ++ to_be_bytes w32 s.call) (omega (arith, kind)) (omega (arith, control))
        (both_octets (to_be_bytes w8 s.total) (to_be_bytes w8 s.number ++ to_be_bytes w32 s.call) (byte_octets s.total) (both_octets (to_be_bytes w8 s.number) (to_be_bytes w32 s.call) (byte_octets s.number) (long_octets s.call)))
    by_format false call =
        two_octets (if call then 2 else 3) s.control (to_be_bytes w16 s.total ++ to_be_bytes w16 s.number ++ to_be_bytes w32 s.call) (kinds call) (omega (arith, control))
        (both_octets (to_be_bytes w16 s.total) (to_be_bytes w16 s.number ++ to_be_bytes w32 s.call) (word_octets s.total) (both_octets (to_be_bytes w16 s.number) (to_be_bytes w32 s.call) (word_octets s.number) (long_octets s.call)))

empty_octets : (bytes : List ℕ) → nat_lt 0 (length bytes) ≡ false → AreOctets bytes
empty_octets [] is = none_octets
empty_octets (b ∷ bytes) is = (let le : length (b ∷ bytes) ≤ 0 = ltb-false 0 (length (b ∷ bytes)) is in absurd (omega (arith, le)))

-- what has no data is bytes
no_data : (s : Piece) (full : Bool)
    → (if full then length s.part == 0 || (nat_lt s.number s.total && not (length s.part == part_size)) else nat_lt 0 (length s.part)) ≡ false → full ≡ false
    → AreOctets s.part
no_data s true is none = absurd (let clash : true ≡ false = none in cc)
no_data s false is none = empty_octets s.part is

said_octets : (format : ℕ) (acts : Acts) (ts : List Piece) (s : Piece) → ((kind call : ℕ) (message : List ℕ) → handed_over 0 acts kind call ≡ Some message → AreOctets message)
    → IsSaid 0 format acts ts s → AreOctets (spelling s)
unfolding spelling
said_octets format acts ts s handed said =
    both_octets (header s) s.part (header_octets s said.segment.kind said.segment.control) (by_kind (is_acknowledgement s) refl)
  where
    by_message : (o : Option (List ℕ)) → handed_over 0 acts s.kind s.call ≡ o → IsOfSome o s → has_data s ≡ true → AreOctets s.part
    by_message None at is full = absurd is
    by_message (Some message) at is full = subst AreOctets (sym (is.part full)) (part_octets message s.number (handed s.kind s.call message at))

    by_data : (full : Bool) → has_data s ≡ full → is_acknowledgement s ≡ false → AreOctets s.part
    by_data true is plain = by_message (handed_over 0 acts s.kind s.call) refl (said.speaks plain) is
    by_data false is plain = no_data s (has_data s) said.segment.part is

    by_kind : (acknowledges : Bool) → is_acknowledgement s ≡ acknowledges → AreOctets s.part
    by_kind true is = no_data s (has_data s) said.segment.part (ap (λ b. not (b || (s.kind == 0 && (s.control == 2 && s.number == 0)))) is)
    by_kind false is = by_data (has_data s) refl is

-- ---- all that an end sends

pub sent_octets : (format : ℕ) (acts : Acts) → (format ≡ 1) ⊎ (format ≡ 2) → AreLawful 0 format acts
    → ((kind call : ℕ) (message : List ℕ) → handed_over 0 acts kind call ≡ Some message → AreOctets message) → Each AreOctets (sent_by (start 0 format) acts)
sent_octets format none_yet known lawful handed = tt
sent_octets format (more acts act) known lawful handed =
    let ts = taken_by (start 0 format) acts in
    let e = end_after (start 0 format) acts in
    let k = keeping_lawful 0 format acts known lawful.0 in
    let may = may_do 0 format acts act lawful in
    let grows = grows_act 0 acts ts e act k.hands (is_first 0 format acts ts act may) in
    each_append AreOctets _ _ (sent_octets format acts known lawful.0 (λ kind call message at. handed kind call message (grows.handed kind call message at)))
    (each_map _ AreOctets _ (λ bytes tells. subst AreOctets (sym tells.bytes_are) (said_octets format (more acts act) (with_taken e act ts) tells.said handed tells.is))
    (says_act 0 format acts ts e act k may))

-- where each call and each return is bytes, each message is
pub message_octets : (acts : Acts) → ((number : ℕ) (message : List ℕ) → call_at 0 acts number ≡ Some message → AreOctets message)
    → ((number : ℕ) (message : List ℕ) → return_at acts number ≡ Some message → AreOctets message)
    → (kind call : ℕ) (message : List ℕ) → handed_over 0 acts kind call ≡ Some message → AreOctets message
message_octets acts calls returns kind call message is = by_kind (kind == 0) is
  where
    by_kind : (b : Bool) → (if b then call_at 0 acts call else return_at acts call) ≡ Some message → AreOctets message
    by_kind true at = calls call message at
    by_kind false at = returns call message at
