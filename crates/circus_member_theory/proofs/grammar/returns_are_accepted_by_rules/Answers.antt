use Rattle.circus_member_theory.proofs.Accepting.Rules.{return_follows, return_accepted}
use Rattle.circus_member_theory.proofs.grammar.returns_are_accepted_by_rules.Goals as goal

pub returns-clause-only : goal.returns-clause-only
returns-clause-only g c d declared m from message purpose o octets is = return_follows d declared m from message purpose o octets is

pub returns-clause-all : goal.returns-clause-all
returns-clause-all g c d declared m from message purpose o proper called a = return_accepted d declared m from message purpose o proper called a
