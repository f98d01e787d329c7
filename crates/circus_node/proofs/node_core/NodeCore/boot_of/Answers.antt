use Rattle.std.proofs.Common.{refl, ap, ◌∙◌}
use Rattle.std.specs.Prelude.{slice_get, option_map, option_and_then}
use Rattle.std.proofs.lemmas.Result.{err_from_is_err_and}
use Rattle.circus_performing.specs.Record.{behaviour}
use Rattle.circus_node.specs.Accepting.{troupe_at}
use Rattle.circus_node.specs.Booting.{boot_node}
use Rattle.circus_node.proofs.SendLemmas.{lost_memory}
use Rattle.circus_node.proofs.TroupeLemmas.{hosted_can_boot}
use Rattle.circus_node.proofs.node_core.NodeCore.boot_of.Goals as goal

pub returns-in_err-hosted-clause-booted : goal.returns-in_err-hosted-clause-booted
returns-in_err-hosted-clause-booted g c =
    let p = err_from_is_err_and c.from_residual.result c.from_residual.ensures.1 in
    let own = option_and_then (slice_get c.args.modules.now) (troupe_at c.args.deployment.now c.args.node) in
    (own, refl, lost_memory c.from_residual.result (boot_node g.M.Module.declared g.M.Module.turn g.M.Module.first c.args.deployment.now own c.args.node) p.0 p.1 p.2)

pub boot-requires : goal.boot-requires
boot-requires g c =
    hosted_can_boot g.M.Module.declared g.M.Module.turn g.M.Module.first c.args.deployment.now c.args.modules.now c.args.node c.in_ok-hosted.hosted
    c.requires.deployment c.requires.modules c.requires.within
    (c.in_ok-hosted.ensures ∙ ap (λ o. option_map (behaviour g.M.Module.declared g.M.Module.turn g.M.Module.first) (option_and_then (slice_get c.args.modules.now) o)) c.troupe_at.ensures)

pub returns-clause-booted : goal.returns-clause-booted
returns-clause-booted g c = (
  c.in_ok-hosted.hosted,
  c.in_ok-hosted.ensures ∙ ap (λ o. option_map (behaviour g.M.Module.declared g.M.Module.turn g.M.Module.first) (option_and_then (slice_get c.args.modules.now) o)) c.troupe_at.ensures,
  c.boot.ensures.booted,
)
