use Rattle.circus_value.specs.ShapeTree.{field_trees}
use Rattle.circus_resolve.specs.Seen.Scoped.{variable_in}
use Rattle.circus_check.proofs.Surrounded.{no_variables, own_are}
use Rattle.circus_check.proofs.surroundings.Surroundings.scope.Goals as goal

pub returns-clause-variables : goal.returns-clause-variables
returns-clause-variables c =
    own_are c.args.self.now.places c.in_ok-places.places (field_trees c.args.arguments.now) (field_trees c.args.locals.now) (variable_in c.put.new.variables) (variable_in c.put-2.new.variables) (variable_in c.new-variables.result)
    (no_variables c.new-variables.result c.new-variables.ensures.empty) c.in_ok-places.ensures.added c.in_ok-places.ensures.places c.in_ok-put.ensures.added
