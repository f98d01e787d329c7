use Rattle.circus_evaluate.proofs.Sound.{gives}
use Rattle.circus_evaluate.proofs.laws.expressions_give_their_sorts.Goals as goal

pub returns : goal.returns
returns c = λ limit shapes variables e s hold has. gives limit shapes variables hold e s has
