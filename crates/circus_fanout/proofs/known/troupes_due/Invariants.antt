use Rattle.std.proofs.Common.{◌≡◌, ◌++◌, drop}
use Rattle.circus_fanout.specs.Knowing.{due_from}
use Rattle.circus_fanout.proofs.known.troupes_due.Given as goal

-- those so far and those of the troupes that are left are all
abbrev pub invariant-loop-place : goal.invariant-loop-place
invariant-loop-place l = l.troupes ++ due_from l.place (drop l.place l.views) (drop l.place l.wants) ≡ due_from 0 l.views l.wants
