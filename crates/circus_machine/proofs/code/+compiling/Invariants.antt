use Rattle.std.proofs.Common.{◌≡◌, ◌+◌, ◌*◌, ◌-◌, ◌≤◌, ◌<◌, ◌++◌, length, drop, map}
use Rattle.circus_checked.specs.StatementOf.{tree_of, handler_of}
use Rattle.circus_checked.specs.StatementTree.{statement_trees, handler_trees}
use Rattle.circus_checked.specs.Seen.StatementWeight.{weight, list_weight, handler_weights}
use Rattle.circus_machine.specs.Seen.Code.{codes_of, table_of}
use Rattle.circus_machine.specs.Seen.Instructions.{acts_of, catch_of, open_code, exits_from}
use Rattle.circus_machine.proofs.code.+compiling.Given as goal

-- the code of the statements that are left comes behind
abbrev pub invariant-append_all-loop-statement : goal.invariant-append_all-loop-statement
invariant-append_all-loop-statement l = record {
  code : acts_of l.code ++ codes_of (statement_trees (map tree_of (drop l.statement-index l.statement-items))) ≡ acts_of l.fn.code ++ codes_of (statement_trees l.statements);
  longer : length l.fn.code ≤ length l.code;
}

-- the code of the handlers that are left comes behind, with jumps that aren't set
abbrev pub invariant-append_handlers-loop-handler : goal.invariant-append_handlers-loop-handler
invariant-append_handlers-loop-handler l = record {
  code : acts_of l.code ++ open_code (map handler_of (drop l.handler-index l.handler-items)) ≡ acts_of l.fn.code ++ open_code l.handlers;
  table : map catch_of l.catches ++ table_of (length l.code - l.at - 1) (handler_trees (map handler_of (drop l.handler-index l.handler-items))) ≡ table_of 0 (handler_trees l.handlers);
  exits : l.exits ++ exits_from (length l.code) (map handler_of (drop l.handler-index l.handler-items)) ≡ exits_from (l.at + 1) l.handlers;
  here : length l.fn.code ≡ l.at + 1;
  longer : l.at < length l.code;
}

-- how much is left to compile
abbrev pub decreases-append : goal.decreases-append
decreases-append l = 8 * weight (tree_of l.statement.now)

abbrev pub decreases-append_all : goal.decreases-append_all
decreases-append_all l = 8 * list_weight (statement_trees l.statements.now)

abbrev pub decreases-append_branch : goal.decreases-append_branch
decreases-append_branch l = 8 * (list_weight (statement_trees l.then.now) + list_weight (statement_trees l.others.now)) + 8

abbrev pub decreases-append_loop : goal.decreases-append_loop
decreases-append_loop l = 8 * list_weight (statement_trees l.body.now) + 8

abbrev pub decreases-append_call : goal.decreases-append_call
decreases-append_call l = 8 * handler_weights (handler_trees l.call.now.handlers) + 16

abbrev pub decreases-append_handlers : goal.decreases-append_handlers
decreases-append_handlers l = 8 * handler_weights (handler_trees l.handlers.now) + 8
