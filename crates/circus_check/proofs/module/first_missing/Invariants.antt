use Rattle.std.proofs.Common.{◌≡◌, drop, map}
use Rattle.circus_lang.specs.ModuleTree.{procedure_of}
use Rattle.circus_check.specs.Faults.{lacking_of}
use Rattle.circus_check.proofs.module.first_missing.Given as goal

-- the procedures that are left decide
abbrev pub invariant-loop-procedure : goal.invariant-loop-procedure
invariant-loop-procedure l = lacking_of (drop l.procedure-index l.order) (map procedure_of l.procedures) ≡ lacking_of l.order (map procedure_of l.procedures)
