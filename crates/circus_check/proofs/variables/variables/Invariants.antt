use Rattle.std.proofs.Common.{◌≡◌, drop, map}
use Rattle.circus_fault.specs.Least.{least_from}
use Rattle.circus_fault.specs.Seen.Tables.{holds_name}
use Rattle.circus_type.specs.Seen.Measured.{cut_off}
use Rattle.circus_resolve.specs.Causes.{rank}
use Rattle.circus_lang.specs.ModuleTree.{variable_of}
use Rattle.circus_check.specs.Faults.{variables_faults, variables_parts, also_variables}
use Rattle.circus_check.specs.Seen.Scoped.{unknown_in, size_in}
use Rattle.circus_check.specs.Seen.Tables.{either}
use Rattle.circus_check.proofs.variables.variables.Given as goal

-- the variables that are left decide with what is kept
abbrev pub invariant-loop-variable : goal.invariant-loop-variable
invariant-loop-variable l = record {
  found :
      least_from rank l.best.fault (variables_faults cut_off (unknown_in l.scope) (size_in l.scope) l.parts (either (holds_name l.outer) (holds_name l.names)) (map variable_of (drop l.variable-index l.list)))
      ≡ least_from rank l.fn.best.fault (variables_faults cut_off (unknown_in l.scope) (size_in l.scope) l.fn.parts (either (holds_name l.outer) (holds_name l.fn.names)) (map variable_of l.list));
  counted : variables_parts cut_off (size_in l.scope) l.parts (map variable_of (drop l.variable-index l.list)) ≡ variables_parts cut_off (size_in l.scope) l.fn.parts (map variable_of l.list);
  names : also_variables (map variable_of (drop l.variable-index l.list)) (holds_name l.names) ≡ also_variables (map variable_of l.list) (holds_name l.fn.names);
}
