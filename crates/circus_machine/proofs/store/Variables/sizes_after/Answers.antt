use Rattle.std.proofs.Common.{◌+◌, ap, ◌∙◌, slice_index_or, arith}
use Rattle.circus_machine.proofs.Keeping.{small_variable, too_great, state_too_great, state_kept, other_kept, part_of_state}
use Rattle.circus_machine.proofs.store.Variables.sizes_after.Goals as goal

pub resize-requires-then-index-self-clause-part : goal.resize-requires-then-index-self-clause-part
resize-requires-then-index-self-clause-part c =
    omega (arith, c.requires.sized.state, part_of_state c.args.self.now.values c.args.index c.args.self.now.states c.args.shrinks c.requires.there c.if-index-self.true c.requires.part)

pub returns-in_err-state : goal.returns-in_err-state
returns-in_err-state c = λ g u w cut there same.
    too_great c.from_residual-in_err-state.result c.args.limit c.args.self.now c.args.index w c.in_err-state.field-0.0 c.from_residual-in_err-state.ensures c.in_err-state.ensures.0
    (state_too_great c.args.limit 18446744073709551615 c.args.self.now c.args.index c.args.grows g c.args.shrinks u w c.requires.sized cut there same c.if-index-self.true c.in_err-state.ensures.1)

pub returns-in_ok-state : goal.returns-in_ok-state
returns-in_ok-state c = λ g u w cut there same.
    state_kept c.args.limit 18446744073709551615 c.args.self.now c.args.index c.args.grows g c.args.shrinks u w c.requires.sized cut there same c.in_ok-variable.variable
    (c.in_ok-variable.ensures.0 ∙ ap (λ ns. slice_index_or ns c.args.index 0 + c.args.grows) c.as_slice.ensures) c.in_ok-variable.ensures.1 (omega (arith, c.ranges.limit, c.ranges.shrinks, c.requires.part u there, small_variable c.args.self.now c.args.index u c.requires.sized there)) (omega (arith, c.ranges.limit)) c.in_ok-state.state c.if-index-self.true c.in_ok-state.ensures.0 c.in_ok-state.ensures.1

pub returns-else-index-self : goal.returns-else-index-self
returns-else-index-self c = λ g u w cut there same.
    other_kept c.args.limit 18446744073709551615 c.args.self.now c.args.index c.args.grows g c.args.shrinks u w c.requires.sized cut there same c.in_ok-variable.variable
    (c.in_ok-variable.ensures.0 ∙ ap (λ ns. slice_index_or ns c.args.index 0 + c.args.grows) c.as_slice.ensures) c.in_ok-variable.ensures.1 (omega (arith, c.ranges.limit, c.ranges.shrinks, c.requires.part u there, small_variable c.args.self.now c.args.index u c.requires.sized there)) (omega (arith, c.ranges.limit)) c.if-index-self.false
