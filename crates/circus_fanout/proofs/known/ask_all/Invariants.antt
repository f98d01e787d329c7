use Rattle.std.proofs.Common.{◌≡◌, drop, length}
use Rattle.circus_fanout.specs.Knowing.{asked_all}
use Rattle.circus_fanout.proofs.known.ask_all.Given as goal

-- with those that are left, all are asked for
abbrev pub invariant-loop-troupe : goal.invariant-loop-troupe
invariant-loop-troupe l = record {
  asked : asked_all l.wants (drop l.troupe-index l.troupes) ≡ asked_all l.fn.wants l.troupes;
  same : length l.wants ≡ length l.fn.wants;
}
