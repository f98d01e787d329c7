use Rattle.std.proofs.Common.{◌≡◌, ◌+◌, ◌*◌, ◌++◌, drop, map}
use Rattle.circus_statement.specs.StatementTree.{statement_trees, handler_trees}
use Rattle.circus_statement.specs.StatementOf.{tree_of, handler_of}
use Rattle.circus_statement.specs.Seen.StatementWeight.{weight, list_weight, handlers_weight}
use Rattle.circus_resolve.specs.Seen.Found.{with_faults}
use Rattle.circus_body.specs.Faults.{all_faults, handlers_faults}
use Rattle.circus_body.specs.Meaning.{all_do, all_handle}
use Rattle.circus_body.specs.Seen.Named.{known_offer, context_as}
use Rattle.circus_body.proofs.statement.+resolving.Given as goal

-- the statements that are left have the other faults, and mean the rest
abbrev pub invariant-resolve_statements-loop-statement : goal.invariant-resolve_statements-loop-statement
invariant-resolve_statements-loop-statement l =
    (with_faults l.found (all_faults (context_as l.context) (statement_trees (map tree_of (drop l.statement-index l.statement-items))))
    ≡ with_faults l.fn.found (all_faults (context_as l.context) (statement_trees l.statements)))
    × (l.made ++ all_do (context_as l.context) (statement_trees (map tree_of (drop l.statement-index l.statement-items)))
    ≡ all_do (context_as l.context) (statement_trees l.statements))

-- the handlers that are left have the other faults, and mean the rest
abbrev pub invariant-handlers_of-loop-place : goal.invariant-handlers_of-loop-place
invariant-handlers_of-loop-place l =
    (with_faults l.found (handlers_faults (context_as l.context) (known_offer l.offered) (handler_trees (map handler_of (drop l.place l.handler-items))))
    ≡ with_faults l.fn.found (handlers_faults (context_as l.context) (known_offer l.offered) (handler_trees l.handlers)))
    × (l.made ++ all_handle (context_as l.context) (known_offer l.offered) (handler_trees (map handler_of (drop l.place l.handler-items)))
    ≡ all_handle (context_as l.context) (known_offer l.offered) (handler_trees l.handlers))

-- how much is left to resolve
abbrev pub decreases-resolve_statements : goal.decreases-resolve_statements
decreases-resolve_statements l = 8 * list_weight (statement_trees l.statements.now)

abbrev pub decreases-resolve_statement : goal.decreases-resolve_statement
decreases-resolve_statement l = 8 * weight (tree_of l.statement.now)

abbrev pub decreases-only_then : goal.decreases-only_then
decreases-only_then l = 8 * list_weight (statement_trees l.statements.now) + 3

abbrev pub decreases-then_else : goal.decreases-then_else
decreases-then_else l = 8 * list_weight (statement_trees l.statements.now) + 8 * list_weight (statement_trees l.others.now) + 3

abbrev pub decreases-resolve_while : goal.decreases-resolve_while
decreases-resolve_while l = 8 * list_weight (statement_trees l.statements.now) + 3

abbrev pub decreases-resolve_call : goal.decreases-resolve_call
decreases-resolve_call l = 8 * handlers_weight (handler_trees l.call.now.handlers) + 3

abbrev pub decreases-handlers_of : goal.decreases-handlers_of
decreases-handlers_of l = 8 * handlers_weight (handler_trees l.handlers.now)

abbrev pub decreases-resolve_handler : goal.decreases-resolve_handler
decreases-resolve_handler l = 8 * list_weight (statement_trees l.handler.now.statements) + 3
