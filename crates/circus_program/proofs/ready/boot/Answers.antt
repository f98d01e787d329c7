use Rattle.std.proofs.Common.{◌≡◌, All, Ok, IfOk, length, ap, sym, subst}
use Rattle.circus_schedule.specs.Meaning.{NamesBelow}
use Rattle.circus_simulation.specs.Booted.{boot_world}
use Rattle.circus_simulation.specs.Seen.Simulated.{world_of, IsOfPlan}
use Rattle.circus_program.proofs.ReadyLemmas.{ready_shows}
use Rattle.circus_program.proofs.ready.boot.Goals as goal

pub returns-in-Ok-clause-ready : goal.returns-in-Ok-clause-ready
returns-in-Ok-clause-ready c =
    let of = subst (λ r. IfOk r (IsOfPlan c.args.plan)) c.in-Ok.is c.in_ok-simulated.ensures.plan in
    record {
      fresh = of.fresh;
      below = subst (λ n. All (NamesBelow n) c.args.lines) (sym (ap length of.hosts)) c.requires.below;
      few = c.requires.few;
    }

pub returns-in-Ok-clause-end : goal.returns-in-Ok-clause-end
returns-in-Ok-clause-end c =
    let of = subst (λ r. IfOk r (IsOfPlan c.args.plan)) c.in-Ok.is c.in_ok-simulated.ensures.plan in
    let is = subst (λ r. IfOk r (λ simulated. boot_world c.args.plan ≡ Ok (world_of simulated.world))) c.in-Ok.is c.in_ok-simulated.ensures.world in
    ready_shows c.args.shown c.args.plan (record { simulated = c.in-Ok.simulated; lines = c.args.lines; procedures = c.in_ok-procedures.procedures }) of is c.in_ok-procedures.ensures
