use Rattle.circus_pair.proofs.Following.{ok_both, if_ok_both, stands_called, called_owes, next_is}
use Rattle.std.proofs.Common.{◌∙◌}
use Rattle.std.proofs.lemmas.Result.{IfOk-weaker}
use Rattle.circus_pair.proofs.pair.Pair.send_call.Goals as goal

pub returns-clause-stands : goal.returns-clause-stands
returns-clause-stands c first format acts stands =
    ok_both c.hand_call.result _ _ _ (λ e left. stands_called c.args.self.now first format acts stands _ c.args.message c.requires.sendable c.requires.up left e) c.hand_call.ensures.state c.hand_call.ensures.left

pub returns-clause-numbered : goal.returns-clause-numbered
returns-clause-numbered c first format acts stands =
    IfOk-weaker c.hand_call.result _ _ (λ sent e. e ∙ next_is c.args.self.now first format acts stands) c.hand_call.ensures.number

pub returns-clause-owed : goal.returns-clause-owed
returns-clause-owed c first format acts stands =
    if_ok_both c.hand_call.result _ _ _ (λ left sent e. e ∙ called_owes c.args.self.now first format acts stands c.args.message c.requires.sendable c.requires.up left) c.hand_call.ensures.left c.hand_call.ensures.datagrams
