use Rattle.circus_world_theory.proofs.Quiescence.Finally.{quiet_ends}
use Rattle.circus_world_theory.proofs.laws.quiescence.where_nothing_is_lost_every_root_ends.Goals as goal

pub returns : goal.returns
returns g c = λ lines last quiet.
    quiet_ends g.M.Module.declared g.M.Module.turn g.M.Module.first
    (λ m. record { first_is_state = g.met.M.Module.first_is_state m; turns_are_lawful = g.met.M.Module.turns_are_lawful m }) lines last quiet
