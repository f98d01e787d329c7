use Rattle.std.proofs.Common.{[], length, string_bytes, ap, arith}
use Rattle.circus_record.specs.Naming.{names_of}
use Rattle.circus_simulation.specs.Summary.{summary}
use Rattle.circus_simulation.proofs.Counting.{names_used, count_added}
use Rattle.circus_simulation.proofs.summary.show_sample.Goals as goal

pub loop-node-preserved : goal.loop-node-preserved
loop-node-preserved g c =
    let w = c.args.world.now in
    let names = c.new-names.result in
    count_added (names_of w.deployment.nodes []) (names_of names.0 names.1) (string_bytes c.loop-node.text) (string_bytes c.append_count.new.text)
    (summary (names_of w.deployment.nodes []) c.args.steps w) c.loop-node.node w.nodes
    (omega (arith, c.loop-node-test.true, c.len-node-end.ensures, ap (λ d. length d.nodes) c.deployment-2.ensures.value, c.deployment-2.ensures.all))
    (names_used names c.as_slice.result.now c.deployment.result.now w.deployment c.new-names.ensures c.as_slice.ensures c.deployment.ensures.value)
    c.loop-node.invariant c.in_ok-append_count.ensures
