-- Statements that end on every path still do once their names are found.
use Rattle.std.proofs.Common.{◌≡◌, Bool, true, false, ◌&&◌, refl}
use Rattle.circus_statement.specs.StatementTree as s
use Rattle.circus_statement.specs.StatementTree.{StatementTree, StatementTrees}
use Rattle.circus_checked.specs.StatementTree as c
use Rattle.circus_body.specs.Context.{Context}
use Rattle.circus_body.specs.Ending as written
use Rattle.circus_body.specs.Meaning.{does, all_do}
use Rattle.circus_check.specs.WellFormed as checked

neither : (b : Bool) → (b && false) ≡ false
neither true = refl
neither false = refl

module _ (context : Context) where
  mutual
    ends_meant : (t : StatementTree) → checked.ends (does context t) ≡ written.ends t
    ends_meant (s.assign _ _ _) = refl
    ends_meant (s.only_then _ _ ss) = neither (checked.all_end (c.statement_trees (all_do context ss)))
    ends_meant (s.then_else _ _ ss others) = λ i. all_end_meant ss i && all_end_meant others i
    ends_meant (s.while _ _ _) = refl
    ends_meant (s.append _ _ _) = refl
    ends_meant (s.call _ _ _) = refl
    ends_meant (s.return _ _) = refl
    ends_meant (s.raise _ _ _) = refl

    pub all_end_meant : (ss : StatementTrees) → checked.all_end (c.statement_trees (all_do context ss)) ≡ written.all_end ss
    all_end_meant s.no_statements = refl
    all_end_meant (s.more_statements t s.no_statements) = ends_meant t
    all_end_meant (s.more_statements t (s.more_statements u ss)) = all_end_meant (s.more_statements u ss)
