use Rattle.std.proofs.Common.{◌≡◌, ◌++◌, map, drop}
use Rattle.circus_fanout.specs.Knowing.{no_want}
use Rattle.circus_fanout.proofs.known.nothing_wanted.Given as goal

-- what is wanted of the troupes so far, and of those that are left, is all
abbrev pub invariant-loop-view : goal.invariant-loop-view
invariant-loop-view l = map no_want l.views ≡ l.wants ++ map no_want (drop l.view-index l.views)
