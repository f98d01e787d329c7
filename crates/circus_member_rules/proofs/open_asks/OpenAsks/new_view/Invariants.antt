use Rattle.std.proofs.Common.{◌≡◌, ◌++◌, filter, drop}
use Rattle.std.specs.List.{flat_map}
use Rattle.circus_fanout.proofs.Writing.{written}
use Rattle.circus_member_rules.specs.Rules.{seen_by_ask, calls_for_view, calls_for_a_new_view, is_to}
use Rattle.circus_member_rules.proofs.open_asks.OpenAsks.new_view.Given as goal

-- the asks so far have seen the view, and their calls stand in front of those that are left
abbrev pub invariant-loop-place : goal.invariant-loop-place
invariant-loop-place l = record {
  seen : l.self ≡ written (seen_by_ask l.known l.view) l.place l.initial.self;
  made : l.initial.effects ++ calls_for_a_new_view l.known l.view l.initial.self
      ≡ l.effects ++ flat_map (calls_for_view l.known l.view) (filter (is_to l.view.troupe) (drop l.place l.initial.self));
}
