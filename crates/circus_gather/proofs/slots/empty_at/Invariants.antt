use Rattle.std.proofs.Common.{◌≡◌, drop, fold}
use Rattle.circus_gather.specs.Seen.Slots.{emptied_one}
use Rattle.circus_gather.proofs.slots.empty_at.Given as goal

abbrev pub invariant-loop-place : goal.invariant-loop-place
invariant-loop-place l = fold emptied_one l.initial.slots l.places ≡ fold emptied_one l.slots (drop l.place-index l.places)
