use Rattle.std.proofs.Common.{◌≡◌, ◌+◌, ◌≤◌, drop, map, min}
use Rattle.circus_type.specs.Together.{zero_size_of}
use Rattle.circus_lang.specs.ModuleTree.{variable_of}
use Rattle.circus_check.specs.Faults.{fields_of}
use Rattle.circus_check.specs.Seen.Scoped.{form_in}
use Rattle.circus_check.proofs.variables.zero_bytes.Given as goal

-- the variables that are left add to what is counted
abbrev pub invariant-loop-variable : goal.invariant-loop-variable
invariant-loop-variable l = record {
  counted : min (l.bytes + zero_size_of (fields_of (form_in l.scope) (map variable_of (drop l.variable-index l.list)))) 65537 ≡ min (zero_size_of (fields_of (form_in l.scope) (map variable_of l.list))) 65537;
  small : l.bytes ≤ 65537;
}
