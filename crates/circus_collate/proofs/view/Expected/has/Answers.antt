use Rattle.std.proofs.Common.{◌≡◌, ◌&&◌, ◌==◌, true, false, sym, ◌∙◌, arith}
use Rattle.std.proofs.lemmas.Grind.{common_steps}
use Rattle.std.specs.List.{list_any}
use Rattle.circus_collate.specs.Expecting.{performs}
use Rattle.circus_collate.specs.declared.view.Entry.{Entry}
use Rattle.circus_collate.proofs.Entries.{any_expected}
use Rattle.circus_collate.proofs.view.Expected.has.Goals as goal

pub returns-then-is_at : goal.returns-then-is_at
returns-then-is_at c =
    let expected = c.args.self.now in
    let found : list_any (λ (e : Entry). performs e.since expected.index && (e.node == c.args.node)) c.as_slice-entries.result.now ≡ true = grind (arith, common_steps) in
    sym (rw c.as_slice-entries.ensures at found) ∙ any_expected expected.view.now expected.index (λ n. n == c.args.node)

pub returns : goal.returns
returns c =
    let expected = c.args.self.now in
    let none : list_any (λ (e : Entry). performs e.since expected.index && (e.node == c.args.node)) c.as_slice-entries.result.now ≡ false = grind (arith, common_steps) in
    sym (rw c.as_slice-entries.ensures at none) ∙ any_expected expected.view.now expected.index (λ n. n == c.args.node)
