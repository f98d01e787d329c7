use Rattle.std.proofs.Common.{ap}
use Rattle.std.proofs.lemmas.Result.{on_ok_weaker}
use Rattle.circus_fanout.specs.Knowing.{Knowing}
use Rattle.circus_member_rules.specs.OpenAsks.{is_waiting}
use Rattle.circus_member_rules.specs.Rules.{stays_open}
use Rattle.circus_dues.proofs.Calling.{still_closed}
use Rattle.circus_dues.proofs.calls_out.CallsOut.conclude.Goals as goal

pub returns-clause-may : goal.returns-clause-may
returns-clause-may c =
    let i = c.self.inside in
    on_ok_weaker c.look_up.result
    (λ asked. still_closed (record { known = i.known; asks = i.asks }) c.args.self.now c.look_up.new.known c.close_all.new.self (stays_open i.known (is_waiting c.args.waits)) c.self.view_is
    (ap (λ (k : Knowing). k.views) asked) c.close_all.ensures)
    c.look_up.ensures.asked
