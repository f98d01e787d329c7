use Rattle.circus_headline_theory.proofs.Rules.{return_follows, return_accepted}
use Rattle.circus_headline_theory.proofs.laws.rules.returns_are_accepted_by_records.Goals as goal

pub returns-clause-only : goal.returns-clause-only
returns-clause-only c d declared kept from message purpose o octets is = return_follows d declared kept from message purpose o octets is

pub returns-clause-all : goal.returns-clause-all
returns-clause-all c d declared kept from message purpose o proper called a = return_accepted d declared kept from message purpose o proper called a
