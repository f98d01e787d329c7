use Rattle.std.proofs.Common.{◌≡◌, drop, fold}
use Rattle.circus_fanout.specs.declared.send.Send.{Send}
use Rattle.circus_fanout.specs.Asking.{with_sent}
use Rattle.circus_fanout.proofs.asked.with_calls.Given as goal

abbrev pub invariant-loop-send : goal.invariant-loop-send
invariant-loop-send l =
    fold (λ so_far (send : Send). with_sent so_far send.node) l.fn.asked l.send-items
    ≡ fold (λ so_far (send : Send). with_sent so_far send.node) l.after.items (drop l.send-index l.send-items)
