use Rattle.std.proofs.Common.{◌≡◌, ◌++◌, drop}
use Rattle.circus_gather.specs.Gathering.{callers}
use Rattle.circus_gather.specs.Seen.Slots.{calls_at}
use Rattle.circus_gather.proofs.waiting.senders_at.Given as goal

-- the callers so far stand in front of those that are left
abbrev pub invariant-loop-place : goal.invariant-loop-place
invariant-loop-place l =
    callers (calls_at l.slots l.places) ≡ l.callers ++ callers (calls_at l.slots (drop l.place-index l.places))
