-- Which messages are acknowledged whole, and which calls the window lets go. A list of segments is of those that were taken.
use Rattle.std.specs.Prelude.{ℕ, zero, suc, ◌+◌, Bool, false, not, ◌&&◌, List, Option, None, Some, is_some, nat_lt, ◌==◌, if◌then◌else◌}
use Rattle.circus_segment.specs.Segment.{Piece}
use Rattle.circus_segment.specs.Cut.{segment_count}
use Rattle.circus_exchange.specs.Limits.{window}
use Rattle.circus_pair.specs.Acts.{Acts}
use Rattle.circus_pair.specs.Handed.{call_at, return_at, reached_in}

-- a message that was handed over is acknowledged up to its last segment
abbrev pub is_all : Option (List ℕ) → (ℕ → ℕ) → Bool
is_all None count_to = false
is_all (Some message) count_to = count_to (segment_count message) == segment_count message

-- the call of a number is acknowledged whole
unfoldable pub call_is_whole : ℕ → Acts → List Piece → ℕ → Bool
call_is_whole first acts ts call = is_all (call_at first acts call) (reached_in ts 0 call)

-- the return to a call is acknowledged whole
unfoldable pub return_is_whole : Acts → List Piece → ℕ → Bool
return_is_whole acts ts call = is_all (return_at acts call) (reached_in ts 1 call)

-- the call of a number was handed over and isn't acknowledged whole
unfoldable pub is_open : ℕ → Acts → List Piece → ℕ → Bool
is_open first acts ts call = is_some (call_at first acts call) && not (call_is_whole first acts ts call)

-- how many of the numbers below one pass
unfoldable pub count_below : (ℕ → Bool) → ℕ → ℕ
count_below passes zero = 0
count_below passes (suc n) = if passes n then count_below passes n + 1 else count_below passes n

-- the window lets a call go: fewer than 64 calls of smaller numbers are so
abbrev pub may_go : ℕ → Acts → List Piece → ℕ → Bool
may_go first acts ts call = nat_lt (count_below (is_open first acts ts) call) window
