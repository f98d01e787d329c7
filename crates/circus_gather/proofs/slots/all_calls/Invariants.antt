use Rattle.std.proofs.Common.{◌≡◌, ◌++◌, drop}
use Rattle.circus_gather.specs.Seen.Slots.{items_in}
use Rattle.circus_gather.proofs.slots.all_calls.Given as goal

-- the calls so far stand in front of those that are left
abbrev pub invariant-loop-slot : goal.invariant-loop-slot
invariant-loop-slot l = items_in l.slots ≡ l.calls ++ items_in (drop l.slot-index l.slots)
