use Rattle.circus_wire.proofs.Performing.{call_stands, call_owes}
use Rattle.circus_wire.proofs.wire.Wire.call.Goals as goal

pub returns-in-Ok-clause-stands : goal.returns-in-Ok-clause-stands
returns-in-Ok-clause-stands g c b acts stands = call_stands b acts c.args.self.now c.args.to c.args.message c.args.purpose c.requires.up c.requires.sendable c.in-Ok.ensures.left stands _ c.in-Ok.ensures.state

pub returns-in-Ok-clause-owed : goal.returns-in-Ok-clause-owed
returns-in-Ok-clause-owed g c b acts stands = call_owes b acts c.args.self.now c.args.to c.args.message c.args.purpose c.requires.up c.requires.sendable c.in-Ok.ensures.left stands _ c.in-Ok.ensures.sent
