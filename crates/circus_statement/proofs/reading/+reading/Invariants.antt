use Rattle.std.proofs.Common.{◌≡◌, ◌+◌, ◌-◌, ◌*◌, length, map}
use Rattle.std.specs.Prelude.{codes}
use Rattle.circus_expression.specs.Standing.{show_as}
use Rattle.circus_statement.specs.StatementReading.{is_word, begins_statement, opened_block, statement, handler, handlers}
use Rattle.circus_statement.specs.StatementStanding.{stands_for, handler_stands_for}
use Rattle.circus_statement.proofs.Steps.{go_on}
use Rattle.circus_statement.proofs.reading.+reading.Given as goal

abbrev pub decreases-block_behind : goal.decreases-block_behind
decreases-block_behind l = 8 * l.levels

abbrev pub decreases-statements_text : goal.decreases-statements_text
decreases-statements_text l = 8 * l.levels + 1

abbrev pub decreases-else_part : goal.decreases-else_part
decreases-else_part l = 8 * l.levels + 2

abbrev pub decreases-handler : goal.decreases-handler
decreases-handler l = 8 * l.levels + 2

abbrev pub decreases-handlers : goal.decreases-handlers
decreases-handlers l = 8 * l.levels + 3

abbrev pub decreases-choice : goal.decreases-choice
decreases-choice l = 8 * l.levels + 4

abbrev pub decreases-repetition : goal.decreases-repetition
decreases-repetition l = 8 * l.levels + 4

abbrev pub decreases-call : goal.decreases-call
decreases-call l = 8 * l.levels + 4

abbrev pub decreases-statement_kind : goal.decreases-statement_kind
decreases-statement_kind l = 8 * l.levels + 5

abbrev pub decreases-statement : goal.decreases-statement
decreases-statement l = 8 * l.levels + 6

-- the statements so far and those that follow are the statements
abbrev pub invariant-block_behind-loop-statements : goal.invariant-block_behind-loop-statements
invariant-block_behind-loop-statements l = show_as (map stands_for) (opened_block l.levels l.lead l.fn.reader) ≡ go_on stands_for begins_statement (statement (l.levels - 1)) l.statements l.reader

abbrev pub decreases-block_behind-loop-statements : goal.decreases-block_behind-loop-statements
decreases-block_behind-loop-statements l = length l.reader.rest

-- the handlers so far and those that follow are the handlers
abbrev pub invariant-handlers-loop-handlers : goal.invariant-handlers-loop-handlers
invariant-handlers-loop-handlers l = show_as (map handler_stands_for) (handlers l.levels l.fn.reader) ≡ go_on handler_stands_for (is_word (codes "ON")) (handler l.levels) l.handlers l.reader

abbrev pub decreases-handlers-loop-handlers : goal.decreases-handlers-loop-handlers
decreases-handlers-loop-handlers l = length l.reader.rest
