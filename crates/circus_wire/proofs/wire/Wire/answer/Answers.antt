use Rattle.std.proofs.Common.{sym, ◌∙◌}
use Rattle.circus_wire.proofs.Performing.{answer_stands, answer_owes, unawaited_stands, unawaited_owes}
use Rattle.circus_wire.proofs.wire.Wire.answer.Goals as goal

pub returns-then-not-awaits_return-clause-stands : goal.returns-then-not-awaits_return-clause-stands
returns-then-not-awaits_return-clause-stands g c b acts stands = unawaited_stands b acts c.args.self.now c.args.caller c.args.message stands (sym c.awaits_return.ensures ∙ c.if-not-awaits_return.true)

pub returns-then-not-awaits_return-clause-owed : goal.returns-then-not-awaits_return-clause-owed
returns-then-not-awaits_return-clause-owed g c b acts stands other = unawaited_owes b acts c.args.self.now c.args.caller c.args.message stands _ other (sym c.awaits_return.ensures ∙ c.if-not-awaits_return.true) c.new.ensures

pub returns-clause-stands : goal.returns-clause-stands
returns-clause-stands g c b acts stands = answer_stands b acts c.args.self.now c.args.caller c.args.message stands _ c.requires (sym c.awaits_return.ensures ∙ c.if-not-awaits_return.false) c.in_ok-datagrams.ensures.state

pub returns-clause-owed : goal.returns-clause-owed
returns-clause-owed g c b acts stands other = answer_owes b acts c.args.self.now c.args.caller c.args.message stands _ (sym c.awaits_return.ensures ∙ c.if-not-awaits_return.false) c.in_ok-datagrams.ensures.sent
