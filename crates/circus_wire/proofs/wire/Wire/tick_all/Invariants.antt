use Rattle.std.proofs.Common.{◌≡◌}
use Rattle.circus_wire.specs.Wire.{Remains, given_below, batches, suspicion}
use Rattle.circus_wire.proofs.Ticking.{ticked_upto}
use Rattle.circus_wire.proofs.wire.Wire.tick_all.Given as goal

abbrev pub invariant-loop-place : goal.invariant-loop-place
invariant-loop-place g l = record {
  state : l.self ≡ ticked_upto l.initial.self l.place;
  sent : l.sends ≡ given_below batches l.initial.self l.place;
  suspected : l.suspects ≡ given_below suspicion l.initial.self l.place;
  remains : Remains l.initial.self l.self;
}
