use Rattle.std.proofs.Common.{◌≡◌, ◌<◌, true, false, None, length, ap, ◌∙◌, arith}
use Rattle.circus_world.specs.WorldState.{Standing}
use Rattle.circus_world.proofs.SlotLemmas.{get_there, all_at}
use Rattle.circus_simulation.specs.Sampled.{spares_from}
use Rattle.circus_simulation.proofs.Spares.{told_spare, spare_found, node_passed}
use Rattle.circus_simulation.proofs.sampling.spares_of.Goals as goal
use Rattle.circus_simulation.proofs.sampling.spares_of.Goals.{then-is_spare+in_ok-push, else-is_spare}

pub loop-node-preserved : goal.loop-node-preserved
loop-node-preserved g c =
    let w = c.args.world.now in
    let d = w.deployment in
    let node = c.loop-node.node in
    let found = c.loop-node.spares in
    let next = c.if-is_spare.spares in
    let seen = c.deployment-deployment.result.now in
    let whole = spares_from d 0 w.nodes in
    let known = c.deployment-deployment.ensures in
    let within : node < length w.nodes = omega (arith, c.loop-node-test.true, c.len-node-end.ensures, ap (λ e. length e.nodes) known.value, known.all) in
    let there = get_there w.nodes node within in
    let untouched = all_at (λ (s : Standing g.row.M.Denot). (s.crashed ≡ None) × (s.joins ≡ false)) w.nodes node there.0 c.requires there.1 in
    elim c.if-is_spare.branch [
      | then-is_spare+in_ok-push b ↦
          spare_found d w.nodes node there.0 found next whole there.1 untouched.1 (told_spare d seen node c.is_spare.result true known.value c.is_spare.ensures b.if-is_spare.true) (b.spares-is ∙ b.in_ok-push.ensures.ok) c.loop-node.invariant
      | else-is_spare b ↦
          node_passed d w.nodes node there.0 found next whole there.1 (told_spare d seen node c.is_spare.result false known.value c.is_spare.ensures b.if-is_spare.false) b.spares-is c.loop-node.invariant
    ]
