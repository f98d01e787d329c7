use Rattle.std.proofs.Common.{refl}
use Rattle.std.proofs.lemmas.Result.{on_ok_weaker}
use Rattle.circus_fanout.specs.Asking.{with_reply}
use Rattle.circus_dues.proofs.Calling.{still_changed}
use Rattle.circus_dues.proofs.calls_out.CallsOut.take_reply.Goals as goal

pub returns-clause-may : goal.returns-clause-may
returns-clause-may c =
    let i = c.self.inside in
    on_ok_weaker c.take_reply.result
    (λ kept. still_changed (record { known = i.known; asks = i.asks }) c.args.self.now i.known c.take_reply.new.self c.args.name (with_reply c.args.from c.args.reply) c.self.view_is refl kept (λ a. refl))
    c.take_reply.ensures.kept
