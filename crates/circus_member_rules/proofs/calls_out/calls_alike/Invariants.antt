use Rattle.std.proofs.Common.{◌≡◌, ◌++◌, map, drop}
use Rattle.circus_member_rules.specs.Rules.{call_of_ask}
use Rattle.circus_member_rules.proofs.calls_out.calls_alike.Given as goal

-- the calls so far stand in front of those that are left
abbrev pub invariant-loop-send : goal.invariant-loop-send
invariant-loop-send l =
    l.initial.effects ++ map (call_of_ask l.known l.name l.fanout) l.sends
    ≡ l.effects ++ map (call_of_ask l.known l.name l.fanout) (drop l.send-index l.sends)
