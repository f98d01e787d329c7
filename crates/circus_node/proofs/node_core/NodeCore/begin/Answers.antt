use Rattle.std.proofs.Common.{◌≡◌, [], sym, ap, subst, ◌∙◌}
use Rattle.std.proofs.lemmas.Result.{err_from_is_err_and}
use Rattle.circus_node.specs.declared.station.Station.{Station}
use Rattle.circus_node.specs.Making.{Made}
use Rattle.circus_node.specs.Seen.Kept.{IsActing}
use Rattle.circus_node.specs.Booting.{home_of, made_at_boot, boot_node, fresh_wire}
use Rattle.circus_node.proofs.BootLemmas.{may_stand}
use Rattle.circus_node.proofs.OtherLemmas.{fresh_stands}
use Rattle.circus_node.proofs.SendLemmas.{lost_memory, concluded_as, node_is}
use Rattle.circus_node.proofs.node_core.NodeCore.begin.Goals as goal

pub returns-in_err-home-clause-ended : goal.returns-in_err-home-clause-ended
returns-in_err-home-clause-ended g c =
    let p = err_from_is_err_and c.from_residual.result c.from_residual.ensures.1 in
    lost_memory c.from_residual.result (boot_node g.M.Module.declared g.M.Module.turn g.M.Module.first c.args.deployment.now c.args.module c.args.node) p.0 p.1 p.2

pub boot-requires : goal.boot-requires
boot-requires g c = may_stand g.M.Module.declared c.args.deployment.now c.args.node c.in_ok-home.home c.args.module c.requires c.in_ok-home.ensures

pub returns-in_err-acting-clause-ended : goal.returns-in_err-acting-clause-ended
returns-in_err-acting-clause-ended g c =
    let p = err_from_is_err_and c.from_residual-in_err-acting.result c.from_residual-in_err-acting.ensures.1 in
    lost_memory c.from_residual-in_err-acting.result (boot_node g.M.Module.declared g.M.Module.turn g.M.Module.first c.args.deployment.now c.args.module c.args.node) p.0 p.1 p.2

pub new-requires-clause-deployment : goal.new-requires-clause-deployment
new-requires-clause-deployment g c = c.requires.deployment

pub new-requires-clause-node : goal.new-requires-clause-node
new-requires-clause-node g c = c.requires.within

pub returns-in_err-station-clause-ended : goal.returns-in_err-station-clause-ended
returns-in_err-station-clause-ended g c =
    let p = err_from_is_err_and c.from_residual-in_err-station.result c.from_residual-in_err-station.ensures.1 in
    lost_memory c.from_residual-in_err-station.result (boot_node g.M.Module.declared g.M.Module.turn g.M.Module.first c.args.deployment.now c.args.module c.args.node) p.0 p.1 p.2

pub conclude-requires-clause-station : goal.conclude-requires-clause-station
conclude-requires-clause-station g c = fresh_stands c.args.deployment.now c.args.node c.in_ok-station.station.value c.requires.deployment c.in_ok-station.ensures

pub conclude-requires-clause-acting : goal.conclude-requires-clause-acting
conclude-requires-clause-acting g c =
    let fresh = c.in_ok-station.ensures in
    subst (λ d. IsActing d c.in_ok-acting.acting) (sym fresh.deployment) c.in_ok-acting.ensures.kept

pub returns-clause-ended : goal.returns-clause-ended
returns-clause-ended g c =
    let d = c.args.deployment.now in
    let s : Station = c.in_ok-station.station.value in
    let fresh = c.in_ok-station.ensures in
    let made : Made g.row.M.Denot = made_at_boot g.M.Module.declared g.M.Module.turn g.M.Module.first d (home_of d c.args.node) c.args.module in
    let same : made_at_boot g.M.Module.declared g.M.Module.turn g.M.Module.first d c.in_ok-home.home c.args.module ≡ made =
    ap (λ home. made_at_boot g.M.Module.declared g.M.Module.turn g.M.Module.first d home c.args.module) c.in_ok-home.ensures in
    concluded_as c.conclude.result (record { deployment = d; wire = fresh_wire d c.args.node; acting = made.acting; dropped = 0 }) s c.in_ok-acting.acting
    c.new-2.result [] c.in_ok-acting.came made.came
    (node_is s c.in_ok-acting.acting made.acting d (fresh_wire d c.args.node) 0 fresh.deployment fresh.wire
    (c.in_ok-acting.ensures.acting ∙ ap (λ (x : Made g.row.M.Denot). x.acting) same) fresh.dropped)
    c.new-2.ensures (c.in_ok-acting.ensures.came ∙ ap (λ (x : Made g.row.M.Denot). x.came) same) c.conclude.ensures.ended
