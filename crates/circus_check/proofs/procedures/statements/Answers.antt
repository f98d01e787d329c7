use Rattle.std.proofs.Common.{◌∙◌, ap}
use Rattle.std.proofs.lemmas.Result.{on_ok_weaker, IfOk-weaker}
use Rattle.circus_value.specs.ShapeTree.{field_trees}
use Rattle.circus_statement.specs.StatementTree.{statement_trees}
use Rattle.circus_fault.specs.Least.{least_from}
use Rattle.circus_resolve.specs.Causes.{rank}
use Rattle.circus_body.specs.Faults.{all_faults}
use Rattle.circus_body.specs.Meaning.{all_do}
use Rattle.circus_check.proofs.Surrounded.{context_are}
use Rattle.circus_check.proofs.procedures.statements.Goals as goal

pub returns-clause-found : goal.returns-clause-found
returns-clause-found c =
    let same = context_are c.in_ok-scope.scope c.args.around.now c.args.own.now (field_trees c.args.locals.now) c.in_ok-scope.ensures.variables c.in_ok-scope.ensures.outer in
    on_ok_weaker c.resolve_procedure.result (λ found. found ∙ ap (λ names. least_from rank c.args.best.now.fault (all_faults names (statement_trees c.args.procedure.now.statements))) same) c.resolve_procedure.ensures.found

pub returns-clause-meant : goal.returns-clause-meant
returns-clause-meant c =
    let same = context_are c.in_ok-scope.scope c.args.around.now c.args.own.now (field_trees c.args.locals.now) c.in_ok-scope.ensures.variables c.in_ok-scope.ensures.outer in
    IfOk-weaker c.resolve_procedure.result _ _ (λ made is. is ∙ ap (λ names. all_do names (statement_trees c.args.procedure.now.statements)) same) c.resolve_procedure.ensures.meant
