use Rattle.std.proofs.Common.{rules, ◌↔◌, IsTrue, true}
use Rattle.circus_world_theory.specs.Quiet.{IsQuiet}
use Rattle.circus_world_theory.proofs.Quiescence.Finally.{quiet_ends}
use Rattle.circus_settle.proofs.quietness.quiet.Goals as goal

pub returns-clause-ends : goal.returns-clause-ends
returns-clause-ends g c = λ is.
    let both : IsTrue true ↔ IsQuiet c.args.world.now c.args.lines.now = search rules in
    quiet_ends g.M.Module.declared g.M.Module.turn g.M.Module.first
    (λ m. record { first_is_state = g.met.M.Module.first_is_state m; turns_are_lawful = g.met.M.Module.turns_are_lawful m })
    c.args.lines.now c.args.world.now (both.0 is)
