use Rattle.std.proofs.Common.{◌≡◌, ◌++◌, map, drop}
use Rattle.circus_collate.specs.declared.view.View.{View}
use Rattle.circus_member_rules.proofs.running.main_start.Given as goal

-- the counts so far stand in front of those that are left
abbrev pub invariant-loop-view : goal.invariant-loop-view
invariant-loop-view l = map (λ (v : View). 0) l.views ≡ l.clock ++ map (λ (v : View). 0) (drop l._view-index l.views)
