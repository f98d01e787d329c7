use Rattle.std.proofs.Common.{◌≡◌, ◌++◌, map, filter, drop}
use Rattle.circus_collate.specs.declared.view.Entry.{Entry}
use Rattle.circus_member_rules.specs.Rules.{may_give}
use Rattle.circus_member_rules.proofs.joining.givers.Given as goal

-- the nodes so far stand in front of those that are left
abbrev pub invariant-loop-entry : goal.invariant-loop-entry
invariant-loop-entry l =
    map (λ (e : Entry). e.node) (filter (may_give l.own l.down) l.entry-items)
    ≡ l.nodes ++ map (λ (e : Entry). e.node) (filter (may_give l.own l.down) (drop l.entry-index l.entry-items))
