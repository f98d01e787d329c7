use Rattle.std.proofs.Common.{◌++◌}
use Rattle.std.specs.Prelude.{codes}
use Rattle.circus_stub.specs.StubsText.{field_words}
use Rattle.circus_stub.proofs.ShowLemmas.{both}
use Rattle.circus_stub.proofs.show.add_line.Goals as goal

pub returns : goal.returns
returns c = λ fields flat.
    let inner = both c.args.text.now _ _ c.args.word.now (field_words fields) c.in_ok-append.ensures.ok (c.in_ok-add_all_values.ensures fields flat) in
    both c.args.text.now _ _ (c.args.word.now ++ field_words fields) (codes "\n") inner c.in_ok-append-2.ensures.ok
