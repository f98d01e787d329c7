use Rattle.std.proofs.Common.{◌≡◌, map, take}
use Rattle.circus_stub.specs.Compiled.{procedure_stub}
use Rattle.circus_stub.proofs.compiler.procedure_stubs.Given as goal

-- the stubs so far are those of the front of the procedures
abbrev pub invariant-loop-procedure : goal.invariant-loop-procedure
invariant-loop-procedure l = l.stubs ≡ map procedure_stub (take l.procedure-index l.procedures)
