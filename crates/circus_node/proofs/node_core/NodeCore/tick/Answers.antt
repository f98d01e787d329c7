use Rattle.std.proofs.Common.{◌≡◌, sym, ap, subst, ◌∙◌, Err, Ok}
use Rattle.std.proofs.lemmas.Result.{err_from_is_err_and}
use Rattle.circus_node.specs.declared.station.Station.{Station}
use Rattle.circus_node.specs.Step.{IsEnded, tick_node}
use Rattle.circus_node.specs.Seen.StationOf.{node_of, IsStation}
use Rattle.circus_node.specs.Seen.Kept.{IsActing}
use Rattle.circus_node.proofs.OtherLemmas.{still_stands}
use Rattle.circus_node.proofs.NodeLemmas.{has_gone_on}
use Rattle.circus_node.proofs.SendLemmas.{ticked_is, ticked_fault}
use Rattle.circus_node.proofs.node_core.NodeCore.tick.Goals as goal

pub returns-in_err-outputs-clause-ended : goal.returns-in_err-outputs-clause-ended
returns-in_err-outputs-clause-ended g c =
    let s = c.deref_mut.result.now in
    let a = c.self.inside.acting in
    let p = err_from_is_err_and c.from_residual.result c.from_residual.ensures.1 in
    subst (λ n. IsEnded c.from_residual.result (tick_node n)) (ap (λ (x : Station). node_of x a) c.deref_mut.ensures.value ∙ c.self.view_is)
    (subst (λ r. IsEnded r (tick_node (node_of s a))) (sym p.1)
    (subst (λ f. IsEnded (Err f) (tick_node (node_of s a))) (sym p.2)
    (ticked_fault s c.tick.new.self a c.in_err-outputs.field-0.0 c.in_err-outputs.ensures)))

pub invariant_of-result : goal.invariant_of-result
invariant_of-result g c =
    let s = c.deref_mut.result.now in
    let came = c.in_ok-outputs.ensures in
    record {
      station = still_stands s c.tick.new.self (subst IsStation (sym c.deref_mut.ensures.value) c.self.invariant.station) came.deployment came.node came.remains;
      acting = subst (λ d. IsActing d c.self.inside.acting) (sym (came.deployment ∙ ap (λ (x : Station). x.deployment) c.deref_mut.ensures.value)) c.self.invariant.acting;
    }

pub returns-clause-ended : goal.returns-clause-ended
returns-clause-ended g c =
    let s = c.deref_mut.result.now in
    let a = c.self.inside.acting in
    subst (λ n. tick_node n ≡ Ok (node_of c.tick.new.self a, c.in_ok-outputs.outputs)) (ap (λ (x : Station). node_of x a) c.deref_mut.ensures.value ∙ c.self.view_is)
    (ticked_is s a (c.tick.new.self, c.in_ok-outputs.outputs) c.in_ok-outputs.ensures)

pub returns-clause-rest : goal.returns-clause-rest
returns-clause-rest g c = has_gone_on c.self.inside.station.value.deployment c.self.inside.acting c.self.invariant.acting
