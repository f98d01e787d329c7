use Rattle.std.proofs.Common.{ap}
use Rattle.circus_fanout.specs.Knowing.{Knowing}
use Rattle.circus_member_rules.specs.Rules.{after_stale}
use Rattle.circus_dues.proofs.Calling.{still_changed, stale_header}
use Rattle.circus_dues.proofs.calls_out.CallsOut.take_stale.Goals as goal

pub returns-clause-may : goal.returns-clause-may
returns-clause-may c =
    let i = c.self.inside in
    still_changed (record { known = i.known; asks = i.asks }) c.args.self.now c.want.new.self c.take_stale.new.self c.args.name (after_stale i.known c.args.from c.args.incarnation) c.self.view_is
    (ap (λ (k : Knowing). k.views) c.want.ensures) c.in_ok-take_stale.ensures.kept (stale_header i.known c.args.from c.args.incarnation)
