use Rattle.std.proofs.Common.{Err, sym, subst, arith}
use Rattle.std.proofs.lemmas.Result.{err_from_is_err_and}
use Rattle.circus_world.specs.Seen.MadeAt.{AreBooted}
use Rattle.circus_world.proofs.BootLemmas.{have_none, have_next, have_all, fault_booted}
use Rattle.circus_world.proofs.world.boot_all.Goals as goal

pub loop-node-init : goal.loop-node-init
loop-node-init g c =
    have_none g.M.Module.declared g.M.Module.turn g.M.Module.first c.args.deployment.now c.args.modules.now c.args.slots.now.items c.args.sent.now c.requires.slots c.requires.sent

pub returns-in_err-boot_at : goal.returns-in_err-boot_at
returns-in_err-boot_at g c =
    let M = g.M.Module in
    let p = err_from_is_err_and c.from_residual.result c.from_residual.ensures.1 in
    subst (λ r. AreBooted M.declared M.turn M.first c.args.deployment.now c.args.modules.now c.boot_at.new.slots.items c.boot_at.new.sent r) (sym p.1)
    (subst (λ f. AreBooted M.declared M.turn M.first c.args.deployment.now c.args.modules.now c.boot_at.new.slots.items c.boot_at.new.sent (Err f)) (sym p.2)
    (fault_booted M.declared M.turn M.first c.args.deployment.now c.args.modules.now c.loop-node.node c.loop-node.slots.items c.boot_at.new.slots.items c.loop-node.sent c.boot_at.new.sent
    c.in_err-boot_at.field-0.0 (omega (arith, c.loop-node-test.true, c.len-node-end.ensures)) c.loop-node.invariant c.in_err-boot_at.ensures))

pub loop-node-preserved : goal.loop-node-preserved
loop-node-preserved g c =
    have_next g.M.Module.declared g.M.Module.turn g.M.Module.first c.args.deployment.now c.args.modules.now c.loop-node.node c.loop-node.slots.items c.boot_at.new.slots.items
    c.loop-node.sent c.boot_at.new.sent c.loop-node.invariant c.in_ok-boot_at.ensures

pub returns : goal.returns
returns g c =
    have_all g.M.Module.declared g.M.Module.turn g.M.Module.first c.args.deployment.now c.args.modules.now c.loop-node.node c.loop-node.slots.items c.loop-node.sent
    (omega (arith, c.loop-node-test.false, c.loop-node.auto.node-end, c.len-node-end.ensures)) c.loop-node.invariant
