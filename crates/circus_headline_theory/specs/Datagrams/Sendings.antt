-- Why an end of a pair sends a datagram: it is a piece of a message that was handed over, an acknowledgement, or a probe.
use Rattle.std.specs.Prelude.{◌≡◌, ℕ, ◌<◌, ◌≤◌, ◌⊎◌, Bool, true, false, List, Some, Ok, if◌then◌else◌}
use Rattle.circus_segment.specs.Segment.{Piece, IsSegment, is_acknowledgement, reading}
use Rattle.circus_segment.specs.Cut.{segment_count, segment_of}
use Rattle.circus_exchange.specs.Exchange.{start}
use Rattle.circus_exchange.specs.Outbox.{probe}
use Rattle.circus_pair.specs.Taken.{total_in, count_in, has_arrived}
use Rattle.circus_pair.specs.Acts.{Acts, taken_by}
use Rattle.circus_pair.specs.Handed.{call_at, return_at}
use Rattle.circus_pair.specs.Lawful.{is_stopped_after}
use Rattle.circus_pair.specs.Window.{call_is_whole}

-- of an end of a format whose first call has a number, after these acts, where a tick sends or another act does
module _ (first format : ℕ) (ticks : Bool) (acts : Acts) where
  -- the segment has its place in the message: its total, number and bytes are those of that; what a tick sends again asks for an
  -- acknowledgement
  pub record IsPieceOf (kind call : ℕ) (message : List ℕ) (s : Piece) : Type 0 where
    pub some : 0 < s.number
    pub within : s.number ≤ segment_count message
    pub is : s ≡ segment_of (record { format = format; kind = kind; call = call; total = segment_count message; message = message }) (if ticks then 2 else 0) s.number

  -- a call to the other end, which isn't down, was handed over
  pub record IsOfCall (s : Piece) : Type 0 where
    pub message : List ℕ
    pub handed : call_at first acts s.call ≡ Some message
    pub piece : IsPieceOf 0 s.call message s
    pub up : is_stopped_after acts ≡ false

  -- the return to a call of the other end was
  pub record IsOfReturn (s : Piece) : Type 0 where
    pub message : List ℕ
    pub handed : return_at acts s.call ≡ Some message
    pub piece : IsPieceOf 1 s.call message s
    pub arrived : has_arrived (taken_by (start first format) acts) 0 s.call ≡ true

  -- so many segments of a message were taken from the first on without a gap, it has this total, and the other end isn't down
  pub record Acknowledges (s : Piece) : Type 0 where
    pub acknowledges : is_acknowledgement s ≡ true
    pub total : total_in (taken_by (start first format) acts) s.kind s.call ≡ Some s.total
    pub number : s.number ≡ count_in (taken_by (start first format) acts) s.kind s.call s.total
    pub up : is_stopped_after acts ≡ false

  -- a tick asks whether the return to a call comes, which has the total of that call: it is acknowledged whole, and its return
  -- hasn't arrived; the other end isn't down
  pub record Probes (s : Piece) : Type 0 where
    pub tick : ticks ≡ true
    pub message : List ℕ
    pub handed : call_at first acts s.call ≡ Some message
    pub is : s ≡ probe format 0 (segment_count message) s.call
    pub whole : call_is_whole first acts (taken_by (start first format) acts) s.call ≡ true
    pub no_return : has_arrived (taken_by (start first format) acts) 1 s.call ≡ false
    pub up : is_stopped_after acts ≡ false

  -- one of these
  abbrev pub IsSaidFor : Piece → Type 0
  IsSaidFor s = IsOfCall s ⊎ (IsOfReturn s ⊎ (Acknowledges s ⊎ Probes s))

  -- a datagram is read as a segment of the format, and is sent for one of these
  pub record IsSentFor (bytes : List ℕ) : Type 0 where
    pub segment : Piece
    pub read : reading bytes ≡ Ok segment
    pub is : IsSegment segment
    pub format_is : segment.format ≡ format
    pub cause : IsSaidFor segment
