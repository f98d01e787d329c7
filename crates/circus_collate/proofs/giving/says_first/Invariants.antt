use Rattle.std.proofs.Common.{◌≡◌, drop, find}
use Rattle.circus_collate.specs.Giving.{is_from}
use Rattle.circus_collate.proofs.giving.says_first.Given as goal

-- what is left decides
abbrev pub invariant-loop-s : goal.invariant-loop-s
invariant-loop-s g l = find (is_from l.node) (drop l.s-index l.said) ≡ find (is_from l.node) l.said
