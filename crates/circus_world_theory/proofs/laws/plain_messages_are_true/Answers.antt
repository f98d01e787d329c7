use Rattle.circus_world_theory.proofs.PlainMessages.{plain_asks_are_true, plain_returns_are_true, plain_others_cite_nothing}
use Rattle.circus_world_theory.proofs.laws.plain_messages_are_true.Goals as goal

pub returns-clause-asks : goal.returns-clause-asks
returns-clause-asks c = λ d program hosted lines booted last world. plain_asks_are_true d program hosted lines booted last world

pub returns-clause-returns : goal.returns-clause-returns
returns-clause-returns c = λ d program hosted lines booted last world. plain_returns_are_true d program hosted lines booted last world

pub returns-clause-others : goal.returns-clause-others
returns-clause-others c = λ d program hosted lines booted last world. plain_others_cite_nothing d program hosted lines booted last world
