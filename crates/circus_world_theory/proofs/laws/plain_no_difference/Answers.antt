use Rattle.circus_world_theory.proofs.PlainMessages.{plain_none_differ}
use Rattle.circus_world_theory.proofs.laws.plain_no_difference.Goals as goal

pub returns : goal.returns
returns c = λ d program hosted lines booted last world. plain_none_differ d program hosted lines booted last world
