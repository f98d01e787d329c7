use Rattle.std.proofs.Common.{◌≡◌, drop}
use Rattle.circus_fault.specs.Seen.Tables.{holds_name}
use Rattle.circus_type.specs.Inside.{no_name}
use Rattle.circus_check.specs.Faults.{also_parameters}
use Rattle.circus_check.proofs.module.parameters.Given as goal

-- the procedures that are left add to what is there
abbrev pub invariant-loop-procedure : goal.invariant-loop-procedure
invariant-loop-procedure l = also_parameters (drop l.procedure-index l.procedures) (holds_name l.names) ≡ also_parameters l.procedures no_name
