-- Two ends of a pair where nothing is lost and nothing is sent again.
use Rattle.std.specs.Prelude.{◌≡◌, ℕ, true, List, [], ◌∷◌, Some, Ok, slice_get}
use Rattle.circus_segment.specs.Segment.{Piece, reading}
use Rattle.circus_exchange.specs.Exchange.{start}
use Rattle.circus_pair.specs.Acts.{Call, Return, Came, Tick, Stop, Acts, none_yet, more, taken_by}
use Rattle.circus_pair.specs.Handed.{call_at, return_at}
use Rattle.circus_pair.specs.Taken.{has_arrived}
use Rattle.circus_pair.specs.Sending.{is_sent}
use Rattle.circus_pair.specs.Window.{call_is_whole}
use Rattle.circus_pair.specs.TwoEnds.{sent_by}

-- the segments that came at an end, the newest first
abbrev pub came_in : Acts → List Piece
came_in none_yet = []
came_in (more acts (Call message)) = came_in acts
came_in (more acts (Return call message)) = came_in acts
came_in (more acts (Came s)) = s ∷ came_in acts
came_in (more acts Tick) = came_in acts
came_in (more acts Stop) = came_in acts

-- no tick came, and the other end was not declared down
abbrev pub IsUndisturbed : Acts → Type 0
IsUndisturbed none_yet = Unit {0}
IsUndisturbed (more acts (Call message)) = IsUndisturbed acts
IsUndisturbed (more acts (Return call message)) = IsUndisturbed acts
IsUndisturbed (more acts (Came s)) = IsUndisturbed acts
IsUndisturbed (more acts Tick) = ⊥
IsUndisturbed (more acts Stop) = ⊥

-- a datagram has come at an end
pub record HasCome (bytes : List ℕ) (acts : Acts) : Type 0 where
  pub piece : Piece
  pub read : reading bytes ≡ Ok piece
  pub place : ℕ
  pub there : slice_get (came_in acts) place ≡ Some piece

-- all that an end has sent has come at the other one
abbrev pub AllCame : ℕ → Acts → Acts → Type 0
AllCame format here there =
    (number : ℕ) (bytes : List ℕ)
    → slice_get (sent_by (start 0 format) here) number ≡ Some bytes → HasCome bytes there

-- each message that was handed over at an end has arrived at the other one; a call was sent, and is
-- acknowledged whole
pub record AllArrived (format : ℕ) (here there : Acts) : Type 0 where
  pub sent : (call : ℕ) (message : List ℕ) → call_at 0 here call ≡ Some message
      → is_sent (start 0 format) here call ≡ true
  pub whole : (call : ℕ) (message : List ℕ) → call_at 0 here call ≡ Some message
      → call_is_whole 0 here (taken_by (start 0 format) here) call ≡ true
  pub calls : (call : ℕ) (message : List ℕ) → call_at 0 here call ≡ Some message
      → has_arrived (taken_by (start 0 format) there) 0 call ≡ true
  pub returns : (call : ℕ) (message : List ℕ) → return_at here call ≡ Some message
      → has_arrived (taken_by (start 0 format) there) 1 call ≡ true
