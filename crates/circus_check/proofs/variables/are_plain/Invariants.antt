use Rattle.std.proofs.Common.{◌≡◌, drop, map, None}
use Rattle.circus_fault.specs.Least.{least_from}
use Rattle.circus_fault.specs.Seen.Tables.{holds_name}
use Rattle.circus_resolve.specs.Causes.{rank}
use Rattle.circus_lang.specs.ModuleTree.{variable_of}
use Rattle.circus_check.specs.Faults.{plain_faults}
use Rattle.circus_check.specs.Seen.Scoped.{unknown_in}
use Rattle.circus_check.specs.Seen.Tables.{either}
use Rattle.circus_check.proofs.variables.are_plain.Given as goal

-- the variables that are left decide with what is kept
abbrev pub invariant-loop-variable : goal.invariant-loop-variable
invariant-loop-variable l =
    least_from rank l.own.fault (plain_faults (unknown_in l.scope) (either (holds_name l.outer) (holds_name l.names)) (map variable_of (drop l.variable-index l.list)))
    ≡ least_from rank None (plain_faults (unknown_in l.scope) (holds_name l.outer) (map variable_of l.list))
