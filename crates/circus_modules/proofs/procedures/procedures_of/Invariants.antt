use Rattle.std.proofs.Common.{◌≡◌, ◌++◌, drop, map}
use Rattle.circus_modules.specs.InterfaceSignatures.{procedure_of}
use Rattle.circus_modules.proofs.procedures.procedures_of.Given as goal

-- the procedures that are left follow those so far
abbrev pub invariant-loop-procedure : goal.invariant-loop-procedure
invariant-loop-procedure l = l.shapes ++ map (procedure_of l.errors.errors.now) (drop l.procedure-index l.interface.procedures) ≡ map (procedure_of l.errors.errors.now) l.interface.procedures
