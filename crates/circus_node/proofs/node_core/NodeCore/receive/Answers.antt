use Rattle.std.proofs.Common.{◌≡◌, sym, ap, subst, ◌∙◌}
use Rattle.std.proofs.lemmas.Result.{err_from_is_err_and}
use Rattle.circus_segment.specs.Segment.{reading}
use Rattle.circus_wire.specs.Wire.{IsOther, after_datagram, sent_by_datagram, heard_from}
use Rattle.circus_node.specs.NodeState.{NodeState}
use Rattle.circus_node.specs.declared.station.Station.{Station}
use Rattle.circus_node.specs.Making.{Made, hears}
use Rattle.circus_node.specs.Sending.{gives_of}
use Rattle.circus_node.specs.Seen.Kept.{IsActing}
use Rattle.circus_node.specs.Step.{IsEnded, take_datagram}
use Rattle.circus_node.specs.Seen.StationOf.{node_of, IsStation}
use Rattle.circus_node.proofs.OtherLemmas.{still_stands}
use Rattle.circus_node.proofs.SendLemmas.{lost_memory, concluded_as, node_is}
use Rattle.circus_node.proofs.node_core.NodeCore.receive.Goals as goal

pub receive-requires : goal.receive-requires
receive-requires g c =
    subst (λ (n : NodeState g.row.M.Denot). IsOther n.wire c.args.from) (sym (ap (λ (x : Station). node_of x c.self.inside.acting) c.deref_mut-own.ensures.value ∙ c.self.view_is)) c.requires

pub returns-in_err-gives-clause-ended : goal.returns-in_err-gives-clause-ended
returns-in_err-gives-clause-ended g c =
    let p = err_from_is_err_and c.from_residual.result c.from_residual.ensures.1 in
    lost_memory c.from_residual.result (take_datagram g.M.Module.declared g.M.Module.turn c.args.at c.args.from (reading c.args.bytes.now) c.args.self) p.0 p.1 p.2

pub hear-requires : goal.hear-requires
hear-requires g c =
    let got = c.in_ok-gives.ensures in
    subst (λ d. IsActing d c.self.inside.acting) (sym (ap (λ (x : Station). x.deployment) got.station ∙ ap (λ (x : Station). x.deployment) c.deref_mut-own.ensures.value)) c.self.invariant.acting

pub returns-in_err-acting-clause-ended : goal.returns-in_err-acting-clause-ended
returns-in_err-acting-clause-ended g c =
    let p = err_from_is_err_and c.from_residual-in_err-acting.result c.from_residual-in_err-acting.ensures.1 in
    lost_memory c.from_residual-in_err-acting.result (take_datagram g.M.Module.declared g.M.Module.turn c.args.at c.args.from (reading c.args.bytes.now) c.args.self) p.0 p.1 p.2

pub conclude-requires-clause-station : goal.conclude-requires-clause-station
conclude-requires-clause-station g c =
    let got = c.in_ok-gives.ensures in
    still_stands c.deref_mut-own.result.now c.receive.new.self (subst IsStation (sym c.deref_mut-own.ensures.value) c.self.invariant.station)
    (ap (λ (x : Station). x.deployment) got.station) (ap (λ (x : Station). x.node) got.station) got.remains

pub conclude-requires-clause-acting : goal.conclude-requires-clause-acting
conclude-requires-clause-acting g c = c.in_ok-acting.ensures.kept

pub returns-clause-ended : goal.returns-clause-ended
returns-clause-ended g c =
    let s : Station = c.deref_mut-own.result.now in
    let t : Station = c.receive.new.self in
    let a = c.self.inside.acting in
    let got = c.in_ok-gives.ensures in
    let segment = reading c.args.bytes.now in
    let heard = heard_from s.wire c.args.from segment in
    let made : Made g.row.M.Denot = hears g.M.Module.declared g.M.Module.turn s.deployment c.args.at c.args.from heard a in
    let same : hears g.M.Module.declared g.M.Module.turn t.deployment c.args.at c.args.from c.in_ok-gives.heard a ≡ made =
    ap (λ (x : Station). hears g.M.Module.declared g.M.Module.turn x.deployment c.args.at c.args.from c.in_ok-gives.heard a) got.station
    ∙ ap (λ h. hears g.M.Module.declared g.M.Module.turn s.deployment c.args.at c.args.from h a) got.heard in
    subst (λ n. IsEnded c.conclude.result (take_datagram g.M.Module.declared g.M.Module.turn c.args.at c.args.from segment n)) (ap (λ (x : Station). node_of x c.self.inside.acting) c.deref_mut-own.ensures.value ∙ c.self.view_is)
    (concluded_as c.conclude.result (record { deployment = s.deployment; wire = after_datagram s.wire c.args.from segment; acting = made.acting; dropped = s.dropped }) t c.in_ok-acting.acting
    c.in_ok-gives.gives (gives_of (sent_by_datagram s.wire c.args.from segment)) c.in_ok-acting.came made.came
    (node_is t c.in_ok-acting.acting made.acting s.deployment (after_datagram s.wire c.args.from segment) s.dropped
    (ap (λ (x : Station). x.deployment) got.station) (ap (λ (x : Station). x.wire) got.station)
    (c.in_ok-acting.ensures.acting ∙ ap (λ (x : Made g.row.M.Denot). x.acting) same) (ap (λ (x : Station). x.dropped) got.station))
    got.gives (c.in_ok-acting.ensures.came ∙ ap (λ (x : Made g.row.M.Denot). x.came) same) c.conclude.ensures.ended)
