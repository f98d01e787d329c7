use Rattle.std.proofs.Common.{◌≡◌, ◌++◌, map, drop}
use Rattle.circus_member_rules.specs.Rules.{state_request}
use Rattle.circus_member_rules.proofs.joining.ask_for_states.Given as goal

-- the requests so far stand in front of those that are left
abbrev pub invariant-loop-node : goal.invariant-loop-node
invariant-loop-node l =
    l.initial.effects ++ map (state_request l.troupe l.incarnation) l.nodes
    ≡ l.effects ++ map (state_request l.troupe l.incarnation) (drop l.node-index l.nodes)
