use Rattle.std.proofs.Common.{◌≡◌, Ok, IfOk, subst}
use Rattle.circus_commands.specs.Seen.Ending.{ending_of}
use Rattle.circus_simulation.specs.Booted.{boot_world}
use Rattle.circus_simulation.specs.Seen.Simulated.{world_of, IsOfPlan}
use Rattle.circus_simulation.proofs.Settling.{settles_booted}
use Rattle.circus_simulation.proofs.settled.settle_plan.Goals as goal

pub returns-in-Ok-clause-ending : goal.returns-in-Ok-clause-ending
returns-in-Ok-clause-ending c =
    let plan = c.args.plan in
    let of = subst (λ r. IfOk r (IsOfPlan plan)) c.in-Ok.is c.in_ok-simulated.ensures.plan in
    let is = subst (λ r. IfOk r (λ simulated. boot_world plan ≡ Ok (world_of simulated.world))) c.in-Ok.is c.in_ok-simulated.ensures.world in
    subst (λ e. IfOk c.settle_world.result (λ ending. ending_of ending ≡ e)) (settles_booted plan c.in-Ok.simulated c.args.deliveries of is) c.settle_world.ensures.ending
