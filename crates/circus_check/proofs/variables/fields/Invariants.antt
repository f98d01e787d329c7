use Rattle.std.proofs.Common.{◌≡◌, ◌++◌, drop, map}
use Rattle.circus_lang.specs.ModuleTree.{variable_of}
use Rattle.circus_check.specs.InRange.{AreVariablesInRange}
use Rattle.circus_check.specs.Faults.{fields_of}
use Rattle.circus_check.specs.Seen.Scoped.{form_in}
use Rattle.circus_check.proofs.variables.fields.Given as goal

abbrev pub invariant-loop-variable : goal.invariant-loop-variable
invariant-loop-variable l = record {
  in_range : AreVariablesInRange (map variable_of (drop l.variable-index l.list));
  written : l.fields ++ fields_of (form_in l.scope) (map variable_of (drop l.variable-index l.list)) ≡ fields_of (form_in l.scope) (map variable_of l.list);
}
