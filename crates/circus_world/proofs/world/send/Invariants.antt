use Rattle.std.proofs.Common.{◌≡◌, ◌++◌, map}
use Rattle.circus_world.specs.Course.{sent_by}
use Rattle.circus_world.proofs.world.send.Given as goal

abbrev pub invariant-loop-give : goal.invariant-loop-give
invariant-loop-give l = l.sent ≡ l.initial.sent ++ map (sent_by l.step l.node) l.yielded
