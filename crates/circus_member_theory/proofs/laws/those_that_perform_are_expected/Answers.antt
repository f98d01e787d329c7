use Rattle.circus_member_theory.proofs.Timely.Counted.{expected_perform, performing_are_expected}
use Rattle.circus_member_theory.proofs.laws.those_that_perform_are_expected.Goals as goal

pub returns-clause-only : goal.returns-clause-only
returns-clause-only c view index node is = expected_perform view index node is

pub returns-clause-all : goal.returns-clause-all
returns-clause-all c view index node h = performing_are_expected view index node h
