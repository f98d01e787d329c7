use Rattle.std.proofs.Common.{◌≡◌, ◌||◌, not, true, false, sym, ◌∙◌, arith}
use Rattle.std.proofs.lemmas.Grind.{common_steps}
use Rattle.std.specs.List.{list_any, list_all}
use Rattle.circus_value.specs.Among.{is_among}
use Rattle.circus_collate.specs.Expecting.{performs}
use Rattle.circus_collate.specs.Giving.{is_from, all_have_said}
use Rattle.circus_collate.specs.declared.view.Entry.{Entry}
use Rattle.circus_collate.proofs.Entries.{all_expected}
use Rattle.circus_collate.proofs.giving.all_have_said.Goals as goal

pub returns-then-not-is_done : goal.returns-then-not-is_done
unfolding all_have_said
returns-then-not-is_done g c =
    let expected = c.args.expected.now in
    let fails : list_all (λ (e : Entry). not (performs e.since expected.index) || (is_among c.args.down.now e.node || list_any (is_from e.node) c.args.said.now)) c.as_slice-entries.result.now ≡ false = grind (arith, common_steps) in
    sym (rw c.as_slice-entries.ensures at fails) ∙ all_expected expected.view.now expected.index (λ node. is_among c.args.down.now node || list_any (is_from node) c.args.said.now)

pub returns : goal.returns
unfolding all_have_said
returns g c =
    let expected = c.args.expected.now in
    let all : list_all (λ (e : Entry). not (performs e.since expected.index) || (is_among c.args.down.now e.node || list_any (is_from e.node) c.args.said.now)) c.as_slice-entries.result.now ≡ true = grind (arith, common_steps) in
    sym (rw c.as_slice-entries.ensures at all) ∙ all_expected expected.view.now expected.index (λ node. is_among c.args.down.now node || list_any (is_from node) c.args.said.now)
