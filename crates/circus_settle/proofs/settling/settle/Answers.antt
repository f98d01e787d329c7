use Rattle.std.proofs.lemmas.Result.{IfOk-weaker}
use Rattle.std.proofs.Common.{arith}
use Rattle.circus_world_theory.proofs.Quiescence.Finally.{quiet_ends}
use Rattle.circus_settle.specs.Settled.{first_deliveries}
use Rattle.circus_settle.proofs.AllDelivered.{all_quiet}
use Rattle.circus_settle.proofs.Leading.{led_if}
use Rattle.circus_settle.proofs.settling.settle.Goals as goal

pub returns-clause-lines : goal.returns-clause-lines
returns-clause-lines g c =
    IfOk-weaker c.deliver.result _ _ (λ s is. is.0.lead) (led_if g.M.Module.declared g.M.Module.turn c.args.deliveries c.args.world c.deliver.result c.deliver.ensures)

pub returns-clause-left : goal.returns-clause-left
returns-clause-left g c =
    IfOk-weaker c.deliver.result _ _ (λ s is. omega (arith, is.1, is.0.sent)) (led_if g.M.Module.declared g.M.Module.turn c.args.deliveries c.args.world c.deliver.result c.deliver.ensures)

pub returns-clause-most : goal.returns-clause-most
returns-clause-most g c =
    IfOk-weaker c.deliver.result _ _ (λ s is. is.0.few) (led_if g.M.Module.declared g.M.Module.turn c.args.deliveries c.args.world c.deliver.result c.deliver.ensures)

pub returns-clause-all : goal.returns-clause-all
returns-clause-all g c =
    IfOk-weaker c.deliver.result _ _ (λ s is some. is.0.all (omega (arith, is.1, some))) (led_if g.M.Module.declared g.M.Module.turn c.args.deliveries c.args.world c.deliver.result c.deliver.ensures)

pub returns-clause-ends : goal.returns-clause-ends
returns-clause-ends g c =
    IfOk-weaker c.deliver.result _ _
    (λ s is none.
    quiet_ends g.M.Module.declared g.M.Module.turn g.M.Module.first
    (λ m. record { first_is_state = g.met.M.Module.first_is_state m; turns_are_lawful = g.met.M.Module.turns_are_lawful m })
    (first_deliveries s.given) s.world (all_quiet s.world s.given (omega (arith, is.1, is.0.sent, none))))
    (led_if g.M.Module.declared g.M.Module.turn c.args.deliveries c.args.world c.deliver.result c.deliver.ensures)
