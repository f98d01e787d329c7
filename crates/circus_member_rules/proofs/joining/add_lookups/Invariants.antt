use Rattle.std.proofs.Common.{◌≡◌, ◌++◌, map, drop}
use Rattle.circus_member_rules.specs.Rules.{lookup_call}
use Rattle.circus_member_rules.proofs.joining.add_lookups.Given as goal

-- the requests so far stand in front of those that are left
abbrev pub invariant-loop-troupe : goal.invariant-loop-troupe
invariant-loop-troupe l =
    l.initial.effects ++ map lookup_call l.troupes ≡ l.effects ++ map lookup_call (drop l.troupe-index l.troupes)
