use Rattle.circus_settle.proofs.Leading.{led, led_settles}
use Rattle.circus_settle.proofs.AllDelivered.{all_quiet}
use Rattle.circus_settle.proofs.laws.settled_worlds_are_led_to.Goals as goal

pub returns-clause-lines : goal.returns-clause-lines
returns-clause-lines g c = λ most world done is. (led g.M.Module.declared g.M.Module.turn most world done is).lead

pub returns-clause-most : goal.returns-clause-most
returns-clause-most g c = λ most world done is. (led g.M.Module.declared g.M.Module.turn most world done is).few

pub returns-clause-sent : goal.returns-clause-sent
returns-clause-sent g c = λ most world done is. (led g.M.Module.declared g.M.Module.turn most world done is).sent

pub returns-clause-all : goal.returns-clause-all
returns-clause-all g c = λ most world done is some. (led g.M.Module.declared g.M.Module.turn most world done is).all some

pub returns-clause-quiet : goal.returns-clause-quiet
returns-clause-quiet g c = λ most world done is none. all_quiet done.world done.given none

pub returns-clause-made : goal.returns-clause-made
returns-clause-made g c = λ most world last lead. led_settles g.M.Module.declared g.M.Module.turn most world last lead
