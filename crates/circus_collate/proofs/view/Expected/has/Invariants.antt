use Rattle.std.proofs.Common.{◌≡◌, ◌&&◌, ◌==◌, false, take}
use Rattle.std.specs.List.{list_any}
use Rattle.circus_collate.specs.Expecting.{performs}
use Rattle.circus_collate.specs.declared.view.Entry.{Entry}
use Rattle.circus_collate.proofs.view.Expected.has.Given as goal

abbrev pub invariant-loop-entry : goal.invariant-loop-entry
invariant-loop-entry l = list_any (λ (e : Entry). performs e.since l.self.index && (e.node == l.node)) (take l.entry-index l.entries) ≡ false
