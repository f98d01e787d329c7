use Rattle.std.proofs.Common.{sym, ◌∙◌}
use Rattle.circus_wire.proofs.Kept.{on_ok, on_err, kept_back, kept_called, put_back_next, same_peer}
use Rattle.circus_wire.proofs.peer.Peer.call.Goals as goal

pub invariant_of-self-in-Ok : goal.invariant_of-self-in-Ok
invariant_of-self-in-Ok g c =
    kept_called c.self.inside.pair _ c.self.inside.purposes _ c.next_number-number.result c.args.message c.args.purpose _ c.next_number-number.ensures.value c.in-Ok.ensures.state
    (on_ok c.insert.result _ (sym c.is_err.ensures.value ∙ c.if-is_err.false) c.insert.ensures.ok) c.self.invariant

pub invariant_of-self-in-Err : goal.invariant_of-self-in-Err
invariant_of-self-in-Err g c =
    kept_back c.self.inside.pair _ c.self.inside.purposes _ _ (on_err c.send_call.result _ c.in-Err.fault c.in-Err.is c.send_call.ensures.err)
    (put_back_next c.self.inside.pair c.self.inside.purposes _ _ c.next_number-number.result c.args.purpose _ c.next_number-number.ensures.value c.self.invariant (on_ok c.insert.result _ (sym c.is_err.ensures.value ∙ c.if-is_err.false) c.insert.ensures.ok) c.take.ensures.rest) c.self.invariant

pub returns-in-Err-clause-err : goal.returns-in-Err-clause-err
returns-in-Err-clause-err g c =
    same_peer _ _ _ _ (on_err c.send_call.result _ c.in-Err.fault c.in-Err.is c.send_call.ensures.err)
    (put_back_next c.self.inside.pair c.self.inside.purposes _ _ c.next_number-number.result c.args.purpose _ c.next_number-number.ensures.value c.self.invariant (on_ok c.insert.result _ (sym c.is_err.ensures.value ∙ c.if-is_err.false) c.insert.ensures.ok) c.take.ensures.rest)
    ∙ c.self.view_is
