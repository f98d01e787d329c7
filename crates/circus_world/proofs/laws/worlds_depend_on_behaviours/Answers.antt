use Rattle.circus_world.proofs.WorldsAlike.{refusal_as, world_stepped_as, all_booted_as}
use Rattle.circus_world.proofs.laws.worlds_depend_on_behaviours.Goals as goal

pub returns-clause-refusals : goal.returns-clause-refusals
returns-clause-refusals g c = λ line world. refusal_as g.M.Module.declared g.M.Module.turn g.M.Module.first line world

pub returns-clause-steps : goal.returns-clause-steps
returns-clause-steps g c = λ line world. world_stepped_as g.M.Module.declared g.M.Module.turn g.M.Module.first line world

pub returns-clause-boots : goal.returns-clause-boots
returns-clause-boots g c = λ hosted world. all_booted_as g.M.Module.declared g.M.Module.turn g.M.Module.first hosted world
