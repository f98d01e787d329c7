use Rattle.std.proofs.Common.{ap}
use Rattle.circus_check.specs.Seen.Scoped.{known_in}
use Rattle.circus_check.proofs.type_scope.TypeScope.of_module.Goals as goal

pub returns-in-Some : goal.returns-in-Some
returns-in-Some c = ap known_in c.in-Some.ensures.value

pub returns-in-None : goal.returns-in-None
returns-in-None c = ap known_in c.in-None.ensures.value
