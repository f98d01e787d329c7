use Rattle.std.proofs.Common.{sym, subst, ◌∙◌}
use Rattle.std.proofs.lemmas.Result.{IfOk-weaker, on_ok_weaker}
use Rattle.circus_wire.specs.Wire.{WireState}
use Rattle.circus_wire.specs.WireActs.{followed_by, TickAll}
use Rattle.circus_wire.specs.WireStanding.{WireStands}
use Rattle.circus_wire.proofs.Owing.{tick_owed, suspects_owed}
use Rattle.circus_wire.proofs.Standing.{stands_ticked}
use Rattle.circus_wire.proofs.wire.Wire.tick.Goals as goal

pub returns-clause-stands : goal.returns-clause-stands
returns-clause-stands g c b acts stands =
    on_ok_weaker c.tick_all.result (λ e. subst (λ (w : WireState g.row.P.Denot). WireStands w b (followed_by acts TickAll)) (sym e) (stands_ticked b acts c.args.self.now stands)) c.tick_all.ensures.state

pub returns-clause-owed : goal.returns-clause-owed
returns-clause-owed g c b acts stands = IfOk-weaker c.tick_all.result _ _ (λ tick e. e ∙ tick_owed c.args.self.now b acts stands) c.tick_all.ensures.sent

pub returns-clause-suspects : goal.returns-clause-suspects
returns-clause-suspects g c b acts stands = IfOk-weaker c.tick_all.result _ _ (λ tick e. e ∙ suspects_owed c.args.self.now b acts stands) c.tick_all.ensures.suspected
