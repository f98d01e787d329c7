use Rattle.std.proofs.Common.{◌≡◌, drop}
use Rattle.std.specs.List.{list_any}
use Rattle.circus_verdict.specs.Seen.Shape.{joins}
use Rattle.circus_verdict.proofs.shape.any_joins.Given as goal

-- those that are left decide
abbrev pub invariant-loop-told : goal.invariant-loop-told
invariant-loop-told l = list_any joins (drop l.told-index l.others) ≡ list_any joins l.others
