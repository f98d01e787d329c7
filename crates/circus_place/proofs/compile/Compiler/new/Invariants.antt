use Rattle.std.proofs.Common.{take}
use Rattle.circus_place.specs.Seen.Table.{AreTablesOf}
use Rattle.circus_place.proofs.compile.Compiler.new.Given as goal

abbrev pub invariant-loop-machine : goal.invariant-loop-machine
invariant-loop-machine l = AreTablesOf (take l.machine-index l.machine-items) l.machines.items
