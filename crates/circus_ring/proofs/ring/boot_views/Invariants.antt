use Rattle.std.proofs.Common.{◌≡◌, ◌++◌}
use Rattle.circus_ring.specs.RingTable.{boot_views}
use Rattle.circus_ring.proofs.Booting.{left}
use Rattle.circus_ring.proofs.ring.boot_views.Given as goal

-- the views so far stand in front of those of the troupes that are left
abbrev pub invariant-loop-troupe : goal.invariant-loop-troupe
invariant-loop-troupe l = record {
  number : l.number ≡ l.troupe-index;
  views : boot_views l.troupes ≡ l.views ++ left l.troupes l.troupe-index;
}
