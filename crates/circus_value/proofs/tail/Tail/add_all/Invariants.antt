use Rattle.std.proofs.Common.{◌≡◌, ◌++◌, take}
use Rattle.std.specs.List.{concat}
use Rattle.circus_value.proofs.tail.Tail.add_all.Given as goal

-- the parts so far stand at the end
abbrev pub invariant-loop-part : goal.invariant-loop-part
invariant-loop-part l = l.self ≡ l.fn.self ++ concat (take l.part-index l.parts)
