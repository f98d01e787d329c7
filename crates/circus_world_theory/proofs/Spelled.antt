-- What an end has sent spells segments, and calls keep below the number that none has.
use Rattle.std.proofs.Common.{◌≡◌, ℕ, ◌+◌, ◌<◌, ◌≤◌, ◌⊎◌, List, Some, Result, Ok, sym, ap, subst, ◌∙◌, arith}
use Rattle.std.specs.Prelude.{slice_get}
use Rattle.circus_segment.specs.Segment.{Piece, IsSegment, reading, spelling}
use Rattle.circus_segment.specs.declared.fault.SegmentFault.{SegmentFault}
use Rattle.circus_segment.proofs.Spellings.{read_again}
use Rattle.circus_exchange.specs.Limits.{never_used}
use Rattle.circus_exchange.specs.Exchange.{start}
use Rattle.circus_pair.specs.Acts.{Call, Acts, none_yet, more, end_after, taken_by}
use Rattle.circus_pair.specs.Handed.{calls_made}
use Rattle.circus_pair.specs.Lawful.{AreLawful}
use Rattle.circus_pair.specs.TwoEnds.{sent_by}
use Rattle.circus_pair.proofs.Each.{Each, each_append, each_at, each_map}
use Rattle.circus_pair.proofs.Speaking.{says_act}
use Rattle.circus_pair.proofs.Told.{may_do, keeping_lawful}

-- ---- numbers

pub few_made : (first format : ℕ) (acts : Acts) → first ≤ never_used → AreLawful first format acts → first + calls_made acts ≤ never_used
unfolding calls_made
few_made first format none_yet low lawful = omega arith
few_made first format (more acts (Call message)) low lawful = (let left : first + calls_made acts < never_used = lawful.1.1 in omega arith)
few_made first format (more acts act) low lawful = few_made first format acts low lawful.0

-- ---- what is sent

-- bytes spell a segment
pub record Spells (bytes : List ℕ) : Type 0 where
  pub piece : Piece
  pub segment : IsSegment piece
  pub bytes_are : bytes ≡ spelling piece

sent_spells : (format : ℕ) (acts : Acts) → (format ≡ 1) ⊎ (format ≡ 2) → AreLawful 0 format acts → Each Spells (sent_by (start 0 format) acts)
sent_spells format none_yet known lawful = tt
sent_spells format (more acts act) known lawful =
    let taken = taken_by (start 0 format) acts in
    let e = end_after (start 0 format) acts in
    each_append Spells _ _ (sent_spells format acts known lawful.0)
    (each_map _ Spells _ (λ bytes tells. record { piece = tells.said; segment = tells.is.segment; bytes_are = tells.bytes_are })
    (says_act 0 format acts taken e act (keeping_lawful 0 format acts known lawful.0) (may_do 0 format acts act lawful)))

same_read : (a b : Piece) → ◌≡◌ {A = Result Piece SegmentFault} (Ok a) (Ok b) → a ≡ b
same_read a b is = cc

-- what is read of a datagram that was sent is the segment that it spells
pub sent_is_read : (format : ℕ) (acts : Acts) (place : ℕ) (bytes : List ℕ) (s : Piece) → (format ≡ 1) ⊎ (format ≡ 2) → AreLawful 0 format acts
    → slice_get (sent_by (start 0 format) acts) place ≡ Some bytes → reading bytes ≡ Ok s → IsSegment s × (bytes ≡ spelling s)
sent_is_read format acts place bytes s known lawful at read =
    let spells = each_at Spells (sent_by (start 0 format) acts) place bytes (sent_spells format acts known lawful) at in
    let same : spells.piece ≡ s = same_read spells.piece s (sym (read_again spells.piece spells.segment) ∙ ap reading (sym spells.bytes_are) ∙ read) in
    (subst IsSegment same spells.segment, spells.bytes_are ∙ ap spelling same)
