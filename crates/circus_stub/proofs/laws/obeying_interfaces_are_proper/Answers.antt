use Rattle.circus_stub.proofs.Obeying.{arguments_are_proper, results_are_proper, raised_are_proper}
use Rattle.circus_stub.proofs.laws.obeying_interfaces_are_proper.Goals as goal

pub returns-clause-arguments : goal.returns-clause-arguments
returns-clause-arguments c = arguments_are_proper

pub returns-clause-results : goal.returns-clause-results
returns-clause-results c = results_are_proper

pub returns-clause-raised : goal.returns-clause-raised
returns-clause-raised c = raised_are_proper
