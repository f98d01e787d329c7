use Rattle.std.proofs.Common.{sym, ap, ◌∙◌}
use Rattle.circus_checked.specs.ExpressionOf.{tree_of}
use Rattle.circus_evaluate.specs.Got.{Got}
use Rattle.circus_evaluate.specs.Evaluating.{evaluate}
use Rattle.circus_machine.specs.Meaning.{stores, count_step, then_does, value_or_end, assign_value}
use Rattle.circus_evaluate.specs.Given.{given_as}
use Rattle.circus_machine.specs.Seen.Changing.{changed_over}
use Rattle.circus_machine.specs.Seen.Running.{going_of, nothing}
use Rattle.circus_machine.proofs.Moving.{then_goes, does_from, change_does}
use Rattle.circus_machine.proofs.execution.Execution.store.Goals as goal

pub returns-clause-does : goal.returns-clause-does
returns-clause-does c =
    let (kept, counted) = c.in_ok-count.ensures.does in
    let mid = c.count.new.self in
    let change = changed_over c.args.change (given_as c.in_ok-given.given) in
    does_from nothing (stores c.args.limit c.args.self.now.variables.states c.args.place.now (changed_over c.args.change) (tree_of c.args.expression.now)) (assign_value c.args.limit mid.variables.states c.args.place.now change) c.change.result c.args.self.now mid _ kept
    (λ replies.
    then_goes (count_step (going_of c.args.self.now replies)) (going_of mid replies) (λ d. then_does (value_or_end (evaluate c.args.limit d.variables (tree_of c.args.expression.now)) d) (λ (x : Got). assign_value c.args.limit c.args.self.now.variables.states c.args.place.now (changed_over c.args.change x) d)) (counted replies)
    ∙ ap (λ r. then_does (value_or_end r (going_of mid replies)) (λ (x : Got). assign_value c.args.limit c.args.self.now.variables.states c.args.place.now (changed_over c.args.change x) (going_of mid replies))) c.in_ok-given.ensures
    ∙ ap (λ s. assign_value c.args.limit s c.args.place.now change (going_of mid replies)) (sym kept.states))
    (change_does c.args.limit c.change.result mid c.change.new.self c.args.place.now change c.change.ensures)
