use Rattle.std.proofs.Common.{◌≡◌, ◌≤◌, [], length, drop}
use Rattle.circus_value_text.specs.Seen.Given.{mark_behind}
use Rattle.circus_audit.specs.Seen.Values.{shapes_read, values_before}
use Rattle.circus_audit.proofs.values.read_shapes.Given as goal

-- the values so far stand in front of those that are left
abbrev pub invariant-loop-shape : goal.invariant-loop-shape
invariant-loop-shape l = record {
  within : l.place ≤ length l.text;
  read :
      shapes_read l.shapes [] (drop l.at l.text)
      ≡ values_before l.items (shapes_read (drop l.shape-index l.shape-items) (mark_behind l.items) (drop l.place l.text));
}
