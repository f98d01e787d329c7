-- Which lists of statements end on every path.
use Rattle.std.specs.Prelude.{Bool, true, false, ◌&&◌}
use Rattle.circus_statement.specs.StatementTree.{StatementTree, StatementTrees, then_else, return, raise, no_statements, more_statements}

abbrev mutual
  -- RETURN, RAISE, or an IF with ELSE whose two lists end
  pub ends : StatementTree → Bool
  ends (return _ _) = true
  ends (raise _ _ _) = true
  ends (then_else _ _ ss others) = all_end ss && all_end others
  ends _ = false

  -- the last statement ends
  pub all_end : StatementTrees → Bool
  all_end no_statements = false
  all_end (more_statements s no_statements) = ends s
  all_end (more_statements s (more_statements t ss)) = all_end (more_statements t ss)
