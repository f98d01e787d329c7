use Rattle.std.proofs.Common.{◌≡◌, take}
use Rattle.circus_verdict.proofs.same.ListOfSame.is_same.Given as goal

-- those before this place are the same
abbrev pub invariant-loop-place : goal.invariant-loop-place
invariant-loop-place g l = take l.place l.item-items ≡ take l.place l.others
