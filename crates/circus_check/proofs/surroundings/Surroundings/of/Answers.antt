use Rattle.std.proofs.Common.{◌∙◌, ap}
use Rattle.circus_value.specs.ShapeTree.{field_trees}
use Rattle.circus_check.specs.Seen.Surroundings.{variables_kept}
use Rattle.circus_check.proofs.Surrounded.{no_variables}
use Rattle.circus_check.proofs.Calling.{around_types}
use Rattle.circus_check.proofs.surroundings.Surroundings.of.Goals as goal

pub returns : goal.returns
returns c = record {
  variables = c.in_ok-places.ensures.added ∙ ap (variables_kept 0 (field_trees c.args.state.now)) (no_variables c.new-variables.result c.new-variables.ensures.empty);
  places = c.in_ok-places.ensures.places;
  types = λ m name.
      around_types (record { state = c.put.new.variables; own = c.types_of.result; imported = c.in_ok-imported_types.field-0 }) c.args.own.now.types c.types_of.ensures c.in_ok-imported_types.ensures m name
      ∙ c.requires.types m name;
  called = c.in_ok-callees.ensures;
}
