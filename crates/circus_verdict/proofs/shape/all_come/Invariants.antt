use Rattle.std.proofs.Common.{◌≡◌, drop}
use Rattle.std.specs.List.{list_all}
use Rattle.circus_verdict.specs.Seen.Shape.{comes}
use Rattle.circus_verdict.proofs.shape.all_come.Given as goal

-- those that are left decide
abbrev pub invariant-loop-told : goal.invariant-loop-told
invariant-loop-told l = list_all comes (drop l.told-index l.later) ≡ list_all comes l.later
