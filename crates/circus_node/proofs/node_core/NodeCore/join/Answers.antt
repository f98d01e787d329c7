use Rattle.std.proofs.Common.{[], refl, subst}
use Rattle.std.proofs.lemmas.Result.{err_from_is_err_and}
use Rattle.circus_node.specs.Making.{is_told_to_join}
use Rattle.circus_node.specs.Step.{IsEnded, join_troupe}
use Rattle.circus_node.proofs.SendLemmas.{lost_memory, concluded_as, node_is}
use Rattle.circus_node.proofs.node_core.NodeCore.join.Goals as goal

pub returns-in_err-acting-clause-ended : goal.returns-in_err-acting-clause-ended
returns-in_err-acting-clause-ended g c =
    let p = err_from_is_err_and c.from_residual.result c.from_residual.ensures.1 in
    lost_memory c.from_residual.result (join_troupe g.M.Module.declared g.M.Module.turn c.args.at c.args.self) p.0 p.1 p.2

pub conclude-requires-clause-station : goal.conclude-requires-clause-station
conclude-requires-clause-station g c = c.self.invariant.station

pub conclude-requires-clause-acting : goal.conclude-requires-clause-acting
conclude-requires-clause-acting g c = c.in_ok-acting.ensures.kept c.self.inside.station.value.deployment c.self.invariant.acting

pub returns-clause-ended : goal.returns-clause-ended
returns-clause-ended g c =
    let made = is_told_to_join g.M.Module.declared g.M.Module.turn c.args.at c.self.inside.acting in
    let s = c.self.inside.station.value in
    subst (λ n. IsEnded c.conclude.result (join_troupe g.M.Module.declared g.M.Module.turn c.args.at n)) c.self.view_is
    (concluded_as c.conclude.result (record { deployment = s.deployment; wire = s.wire; acting = made.acting; dropped = s.dropped }) s c.in_ok-acting.acting c.new.result [] c.in_ok-acting.came made.came
    (node_is s c.in_ok-acting.acting made.acting s.deployment s.wire s.dropped refl refl c.in_ok-acting.ensures.acting refl)
    c.new.ensures c.in_ok-acting.ensures.came c.conclude.ensures.ended)
