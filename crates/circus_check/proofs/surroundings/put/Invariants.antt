use Rattle.std.proofs.Common.{◌≡◌, ◌≤◌, drop, map, min}
use Rattle.circus_value.specs.ShapeTree.{field_trees}
use Rattle.circus_value.specs.ShapeOf.{field_of}
use Rattle.circus_resolve.specs.Seen.Scoped.{variable_in}
use Rattle.circus_check.specs.Scope.{places_behind}
use Rattle.circus_check.specs.Seen.Surroundings.{variables_kept}
use Rattle.circus_check.proofs.surroundings.put.Given as goal

-- the fields that are left add to what is there
abbrev pub invariant-loop-field : goal.invariant-loop-field
invariant-loop-field l = record {
  added : variables_kept l.place (field_trees (map field_of (drop l.field-index l.field-items))) (variable_in l.variables) ≡ variables_kept l.behind (field_trees l.fields) (variable_in l.fn.variables);
  small : l.place ≤ 65535;
  places : min (places_behind l.place (field_trees (map field_of (drop l.field-index l.field-items)))) 65535 ≡ min (places_behind l.behind (field_trees l.fields)) 65535;
}
