use Rattle.std.proofs.Common.{◌≡◌, ◌++◌, map, filter, drop}
use Rattle.circus_gather.specs.Gathering.{as_said, is_counted}
use Rattle.circus_gather.specs.Seen.Slots.{calls_at}
use Rattle.circus_gather.proofs.waiting.said_at.Given as goal

-- what was said so far stands in front of what is left
abbrev pub invariant-loop-place : goal.invariant-loop-place
invariant-loop-place l =
    map as_said (filter (is_counted l.module l.required l.views l.index) (calls_at l.slots l.places))
    ≡ l.said ++ map as_said (filter (is_counted l.module l.required l.views l.index) (calls_at l.slots (drop l.place-index l.places)))
