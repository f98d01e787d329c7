use Rattle.circus_statement.specs.StatementTree.{statement_trees}
use Rattle.circus_statement.specs.StatementOf.{tree_of}
use Rattle.circus_statement.specs.Seen.StatementWeight.{weight, list_weight}
use Rattle.circus_body.proofs.ending.+ending.Given as goal

-- how much is left to look at
abbrev pub decreases-all_end : goal.decreases-all_end
decreases-all_end l = list_weight (statement_trees l.statements.now)

abbrev pub decreases-ends : goal.decreases-ends
decreases-ends l = weight (tree_of l.statement.now)
