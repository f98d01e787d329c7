use Rattle.std.proofs.Common.{◌≡◌, List, ◌∷◌, ◌++◌, sym, ap, ◌∙◌}
use Rattle.std.specs.Vec.Iter.{into_iter_items}
use Rattle.std.proofs.lemmas.Result.{err_from_is_err_and}
use Rattle.circus_member_rules.specs.declared.occurrence.Effect.{Effect}
use Rattle.circus_node.specs.Sending.{sent}
use Rattle.circus_node.proofs.SendLemmas.{fault_of_all, left_over}
use Rattle.circus_node.proofs.sending.hand_each.Goals as goal

pub returns-in_err-hand-clause-handed : goal.returns-in_err-hand-clause-handed
returns-in_err-hand-clause-handed c =
    let p = err_from_is_err_and c.from_residual.result c.from_residual.ensures.1 in
    let rest : List Effect = into_iter_items c.next.new.self in
    let all : c.args.effects ≡ c.loop-effect.yielded ++ c.in-Some.effect ∷ rest =
    sym (c.into_iter-effect-iterator.ensures.into_iter_gives.0 ∙ c.into_items-effect-items.ensures)
    ∙ left_over c.loop-effect.yielded _ _ c.loop-effect.yielded_by ∙ ap (λ l. c.loop-effect.yielded ++ l) c.in-Some.ensures.steps.0 in
    fault_of_all _ (sent c.args.wire.now c.args.gives.now) c.loop-effect.yielded rest c.args.effects c.in-Some.effect _ p.0 c.from_residual.result
    c.loop-effect.wire c.hand.new.wire c.loop-effect.gives c.hand.new.gives c.loop-effect.invariant.handed c.in_err-hand.ensures.handed all p.1 p.2
