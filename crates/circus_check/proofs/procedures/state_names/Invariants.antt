use Rattle.std.proofs.Common.{◌≡◌, drop, map}
use Rattle.circus_fault.specs.Seen.Tables.{holds_name}
use Rattle.circus_type.specs.Inside.{no_name}
use Rattle.circus_lang.specs.ModuleTree.{variable_of}
use Rattle.circus_check.specs.Faults.{also_variables}
use Rattle.circus_check.proofs.procedures.state_names.Given as goal

abbrev pub invariant-loop-variable : goal.invariant-loop-variable
invariant-loop-variable l = also_variables (map variable_of (drop l.variable-index l.state)) (holds_name l.names) ≡ also_variables (map variable_of l.state) no_name
