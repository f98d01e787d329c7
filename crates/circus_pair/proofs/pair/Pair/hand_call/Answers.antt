use Rattle.circus_pair.proofs.Lasting.{lasts_called, lasts_either}
use Rattle.circus_pair.proofs.Freshness.{fresh_called, fresh_either}
use Rattle.circus_pair.proofs.pair.Pair.hand_call.Goals as goal

pub invariant_of-self : goal.invariant_of-self
invariant_of-self c = fresh_either c.send_call.result c.self.inside.exchange _ _ c.send_call.ensures.state c.send_call.ensures.err (fresh_called c.self.inside.exchange c.args.message c.self.invariant) c.self.invariant

pub returns-clause-format : goal.returns-clause-format
returns-clause-format c = (lasts_either c.send_call.result c.self.inside.exchange _ _ _ c.send_call.ensures.state c.send_call.ensures.err (lasts_called c.self.inside.exchange c.args.message) c.self.view_is).format

pub returns-clause-down : goal.returns-clause-down
returns-clause-down c = (lasts_either c.send_call.result c.self.inside.exchange _ _ _ c.send_call.ensures.state c.send_call.ensures.err (lasts_called c.self.inside.exchange c.args.message) c.self.view_is).stopped
