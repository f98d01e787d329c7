-- How long the other end has been silent.
use Rattle.std.specs.Prelude.{ℕ, ◌+◌, Bool, not, ◌&&◌, List, is_some, nat_lt, ◌==◌, if◌then◌else◌}
use Rattle.circus_exchange.specs.declared.exchange.Exchange.{Exchange}
use Rattle.circus_segment.specs.Segment.{Piece}
use Rattle.circus_exchange.specs.Limits.{patience}
use Rattle.circus_pair.specs.Taken.{has_arrived}
use Rattle.circus_pair.specs.Acts.{Acts, none_yet, more, Call, Return, Came, Tick, Stop, taken_by}
use Rattle.circus_pair.specs.Handed.{calls_made, call_at}
use Rattle.circus_pair.specs.Window.{count_below}
use Rattle.circus_pair.specs.Sending.{takes_after}

-- the call of a number was handed over, and the return to it hasn't arrived
unfoldable pub is_unfinished : ℕ → Acts → List Piece → ℕ → Bool
is_unfinished first acts ts call = is_some (call_at first acts call) && not (has_arrived ts 1 call)

-- an end that began as e waits for a return, after these acts
abbrev pub waits_after : Exchange → Acts → Bool
waits_after e acts = not (count_below (is_unfinished e.next acts (taken_by e acts)) (e.next + calls_made acts) == 0)

-- the ticks that came while it waited, since it took a segment or was given a call while it did not wait, up to 8
unfoldable pub ticks_after : Exchange → Acts → ℕ
ticks_after e none_yet = 0
ticks_after e (more acts (Call message)) = if waits_after e acts then ticks_after e acts else 0
ticks_after e (more acts (Return call message)) = ticks_after e acts
ticks_after e (more acts (Came s)) = if takes_after e acts s then 0 else ticks_after e acts
ticks_after e (more acts Tick) = if waits_after e acts && nat_lt (ticks_after e acts) patience then ticks_after e acts + 1 else ticks_after e acts
ticks_after e (more acts Stop) = ticks_after e acts

-- a tick after these acts makes them 8
abbrev pub suspects_after : Exchange → Acts → Bool
suspects_after e acts = nat_lt (ticks_after e acts) patience && (ticks_after e (more acts Tick) == patience)
