-- Which acts an end may be given after which.
use Rattle.std.specs.Prelude.{◌≡◌, ℕ, ◌+◌, ◌<◌, Bool, true, false, None}
use Rattle.circus_segment.specs.Segment.{IsSegment}
use Rattle.circus_exchange.specs.Limits.{never_used}
use Rattle.circus_exchange.specs.Exchange.{start, IsSendable}
use Rattle.circus_pair.specs.Taken.{has_arrived}
use Rattle.circus_pair.specs.Handed.{calls_made, return_at}
use Rattle.circus_pair.specs.Acts.{Act, Call, Return, Came, Tick, Stop, Acts, none_yet, more, taken_by}

-- the other end was declared down
abbrev pub is_stopped_after : Acts → Bool
is_stopped_after none_yet = false
is_stopped_after (more acts Stop) = true
is_stopped_after (more acts act) = is_stopped_after acts

-- an act may come after these: messages can be sent, a number is left for a call, a return answers a call that has arrived and had none, a datagram that comes is a segment, and no call and no tick comes after a stop
abbrev pub MayFollow : ℕ → ℕ → Acts → Act → Type 0
MayFollow first format acts (Call message) = IsSendable format message × (first + calls_made acts < never_used) × (is_stopped_after acts ≡ false)
MayFollow first format acts (Return call message) = IsSendable format message × (has_arrived (taken_by (start first format) acts) 0 call ≡ true) × (return_at acts call ≡ None)
MayFollow first format acts (Came s) = IsSegment s
MayFollow first format acts Tick = is_stopped_after acts ≡ false
MayFollow first format acts Stop = Unit {0}

-- each act may come after those before it
abbrev pub AreLawful : ℕ → ℕ → Acts → Type 0
AreLawful first format none_yet = Unit {0}
AreLawful first format (more acts act) = AreLawful first format acts × MayFollow first format acts act
