use Rattle.std.proofs.Common.{sym, ap, subst, ◌∙◌, Err}
use Rattle.std.proofs.lemmas.Result.{err_from_is_err_and}
use Rattle.circus_node.specs.declared.station.Station.{Station}
use Rattle.circus_node.specs.Step.{IsEnded, conclude_step}
use Rattle.circus_node.specs.Seen.StationOf.{node_of, IsStation}
use Rattle.circus_node.specs.Seen.Kept.{IsActing}
use Rattle.circus_node.proofs.OtherLemmas.{still_stands}
use Rattle.circus_node.proofs.NodeLemmas.{has_gone_on}
use Rattle.circus_node.proofs.SendLemmas.{concluded_is, concluded_fault}
use Rattle.circus_node.proofs.node_core.NodeCore.conclude.Goals as goal

pub conclude-requires : goal.conclude-requires
conclude-requires g c = subst IsStation (sym c.deref_mut.ensures.value) c.requires.station

pub returns-in_err-outputs-clause-ended : goal.returns-in_err-outputs-clause-ended
returns-in_err-outputs-clause-ended g c =
    let s = c.deref_mut.result.now in
    let p = err_from_is_err_and c.from_residual.result c.from_residual.ensures.1 in
    subst (λ (x : Station). IsEnded c.from_residual.result (conclude_step (node_of x c.args.acting) c.args.gives c.args.came)) c.deref_mut.ensures.value
    (subst (λ r. IsEnded r (conclude_step (node_of s c.args.acting) c.args.gives c.args.came)) (sym p.1)
    (subst (λ f. IsEnded (Err f) (conclude_step (node_of s c.args.acting) c.args.gives c.args.came)) (sym p.2)
    (concluded_fault s c.conclude.new.self c.args.acting c.args.gives c.args.came c.in_err-outputs.field-0.0 c.in_err-outputs.ensures)))

pub invariant_of-result : goal.invariant_of-result
invariant_of-result g c =
    let s = c.deref_mut.result.now in
    let sent = c.in_ok-outputs.ensures in
    record {
      station = still_stands s c.conclude.new.self (subst IsStation (sym c.deref_mut.ensures.value) c.requires.station) sent.deployment sent.node sent.remains;
      acting = subst (λ d. IsActing d c.args.acting) (sym (sent.deployment ∙ ap (λ (x : Station). x.deployment) c.deref_mut.ensures.value)) c.requires.acting;
    }

pub returns-clause-ended : goal.returns-clause-ended
returns-clause-ended g c =
    let s = c.deref_mut.result.now in
    sym (ap (λ (x : Station). conclude_step (node_of x c.args.acting) c.args.gives c.args.came) c.deref_mut.ensures.value)
    ∙ concluded_is s c.args.acting c.args.gives c.args.came (c.conclude.new.self, c.in_ok-outputs.outputs) c.in_ok-outputs.ensures

pub returns-clause-rest : goal.returns-clause-rest
returns-clause-rest g c = has_gone_on c.args.station.value.deployment c.args.acting c.requires.acting
