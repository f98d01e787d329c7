use Rattle.std.proofs.Common.{◌≡◌, ℕ, length, take, filter}
use Rattle.circus_gather.specs.Gathering.{is_of_index}
use Rattle.circus_gather.specs.Seen.Groups.{stays}
use Rattle.circus_gather.specs.Seen.Slots.{slots_of_index, places_from}
use Rattle.circus_gather.proofs.places.places_without.Given as goal

-- the calls so far that stay are found, and the next one goes behind them
abbrev pub invariant-loop-slot : goal.invariant-loop-slot
invariant-loop-slot l = record {
  are_found : (index : ℕ) → slots_of_index l.places.entries index ≡ places_from (is_of_index l.module index) 0 (filter (stays l.module l.group) (take l.slot-index l.slots));
  behind : l.place ≡ length (filter (stays l.module l.group) (take l.slot-index l.slots));
}
