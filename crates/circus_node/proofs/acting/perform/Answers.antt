use Rattle.std.proofs.Common.{ap, ◌∙◌}
use Rattle.circus_node.specs.Making.{consequences, table_answers}
use Rattle.circus_node.proofs.acting.perform.Goals as goal

pub returns-clause-came : goal.returns-clause-came
returns-clause-came c =
    c.of.ensures ∙ ap (λ es. consequences es c.new.result) c.in_ok-effects.ensures.made
    ∙ ap (λ ds. consequences (table_answers c.args.ring.now c.args.sender c.args.request.now) ds) c.new.ensures
