use Rattle.std.proofs.Common.{refl}
use Rattle.circus_fanout.specs.Asking.{with_before}
use Rattle.circus_dues.proofs.Calling.{still_changed}
use Rattle.circus_dues.proofs.calls_out.CallsOut.take_before.Goals as goal

pub returns-clause-may : goal.returns-clause-may
returns-clause-may c =
    let i = c.self.inside in
    still_changed (record { known = i.known; asks = i.asks }) c.args.self.now i.known c.take_before.new.self c.args.name (with_before c.args.from) c.self.view_is refl c.take_before.ensures (λ a. refl)
