use Rattle.std.proofs.Common.{◌≡◌, ◌++◌, map, drop}
use Rattle.circus_member_rules.specs.Rules.{answer}
use Rattle.circus_member_rules.proofs.calls_in.answer_each.Given as goal

-- the returns so far stand in front of those that are left
abbrev pub invariant-loop-caller : goal.invariant-loop-caller
invariant-loop-caller l =
    l.initial.effects ++ map (answer l.message) l.callers
    ≡ l.effects ++ map (answer l.message) (drop l.caller-index l.callers)
