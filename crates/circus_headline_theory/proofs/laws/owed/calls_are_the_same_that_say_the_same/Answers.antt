use Rattle.circus_headline_theory.proofs.Owed.SameCalls.{calls_are_the_same}
use Rattle.circus_headline_theory.proofs.laws.owed.calls_are_the_same_that_say_the_same.Goals as goal

pub returns : goal.returns
returns c = calls_are_the_same
