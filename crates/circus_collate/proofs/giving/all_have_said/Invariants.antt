use Rattle.std.proofs.Common.{◌≡◌, ◌||◌, not, true, take}
use Rattle.std.specs.List.{list_any, list_all}
use Rattle.circus_value.specs.Among.{is_among}
use Rattle.circus_collate.specs.Expecting.{performs}
use Rattle.circus_collate.specs.Giving.{is_from}
use Rattle.circus_collate.specs.declared.view.Entry.{Entry}
use Rattle.circus_collate.proofs.giving.all_have_said.Given as goal

abbrev pub invariant-loop-entry : goal.invariant-loop-entry
invariant-loop-entry g l =
    list_all (λ (e : Entry). not (performs e.since l.expected.index) || (is_among l.down e.node || list_any (is_from e.node) l.said)) (take l.entry-index l.entries) ≡ true
