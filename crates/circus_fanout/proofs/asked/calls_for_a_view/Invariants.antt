use Rattle.std.proofs.Common.{◌≡◌, ◌++◌, map, filter, drop}
use Rattle.circus_collate.specs.declared.view.Entry.{Entry}
use Rattle.circus_fanout.specs.Asking.{is_due, send_to}
use Rattle.circus_fanout.proofs.asked.calls_for_a_view.Given as goal

-- the calls so far stand in front of those to the entries that are left
abbrev pub invariant-loop-entry : goal.invariant-loop-entry
invariant-loop-entry l =
    map (λ (e : Entry). send_to l.view e.node) (filter (is_due l.view l.down l.asked) l.entry-items)
    ≡ l.sends ++ map (λ (e : Entry). send_to l.view e.node) (filter (is_due l.view l.down l.asked) (drop l.entry-index l.entry-items))
