use Rattle.std.proofs.Common.{[], refl, sym, ap, subst, ◌∙◌}
use Rattle.std.proofs.lemmas.Result.{err_from_is_err_and}
use Rattle.circus_wire.specs.Wire.{IsOther, stopped_at}
use Rattle.circus_node.specs.NodeState.{NodeState}
use Rattle.circus_node.specs.declared.station.Station.{Station}
use Rattle.circus_node.specs.Making.{Made, learns_down}
use Rattle.circus_node.specs.Step.{IsEnded, declare_down}
use Rattle.circus_node.specs.Seen.StationOf.{node_of, IsStation}
use Rattle.circus_node.specs.Seen.Kept.{IsActing}
use Rattle.circus_node.proofs.OtherLemmas.{still_stands}
use Rattle.circus_node.proofs.SendLemmas.{lost_memory, concluded_as, node_is}
use Rattle.circus_node.proofs.node_core.NodeCore.lose.Goals as goal

pub stop-requires : goal.stop-requires
stop-requires g c =
    subst (λ (n : NodeState g.row.M.Denot). IsOther n.wire c.args.node) (sym (ap (λ (x : Station). node_of x c.self.inside.acting) c.deref_mut-own.ensures.value ∙ c.self.view_is)) c.requires

pub returns-in_err-acting-clause-ended : goal.returns-in_err-acting-clause-ended
returns-in_err-acting-clause-ended g c =
    let p = err_from_is_err_and c.from_residual.result c.from_residual.ensures.1 in
    lost_memory c.from_residual.result (declare_down g.M.Module.declared g.M.Module.turn c.args.at c.args.node c.args.self) p.0 p.1 p.2

pub conclude-requires-clause-station : goal.conclude-requires-clause-station
conclude-requires-clause-station g c =
    still_stands c.deref_mut-own.result.now _ (subst IsStation (sym c.deref_mut-own.ensures.value) c.self.invariant.station) refl refl c.stop.ensures.remains

pub conclude-requires-clause-acting : goal.conclude-requires-clause-acting
conclude-requires-clause-acting g c =
    c.in_ok-acting.ensures.kept c.deref_mut-own.result.now.deployment (subst (λ (x : Station). IsActing x.deployment c.self.inside.acting) (sym c.deref_mut-own.ensures.value) c.self.invariant.acting)

pub returns-clause-ended : goal.returns-clause-ended
returns-clause-ended g c =
    let s : Station = c.deref_mut-own.result.now in
    let t : Station = record s { wire = c.stop.new.self } in
    let made : Made g.row.M.Denot = learns_down g.M.Module.declared g.M.Module.turn c.args.at c.args.node c.self.inside.acting in
    subst (λ n. IsEnded c.conclude.result (declare_down g.M.Module.declared g.M.Module.turn c.args.at c.args.node n)) (ap (λ (x : Station). node_of x c.self.inside.acting) c.deref_mut-own.ensures.value ∙ c.self.view_is)
    (concluded_as c.conclude.result (record { deployment = s.deployment; wire = stopped_at s.wire c.args.node; acting = made.acting; dropped = s.dropped }) t c.in_ok-acting.acting
    c.new.result [] c.in_ok-acting.came made.came
    (node_is t c.in_ok-acting.acting made.acting s.deployment (stopped_at s.wire c.args.node) s.dropped refl c.stop.ensures.state c.in_ok-acting.ensures.acting refl)
    c.new.ensures c.in_ok-acting.ensures.came c.conclude.ensures.ended)
