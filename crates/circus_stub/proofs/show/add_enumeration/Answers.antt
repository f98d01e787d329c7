use Rattle.std.proofs.Common.{◌++◌}
use Rattle.std.specs.Prelude.{codes}
use Rattle.circus_value.specs.ThreadText.{numbers_behind}
use Rattle.circus_stub.proofs.ShowLemmas.{both}
use Rattle.circus_stub.proofs.show.add_enumeration.Goals as goal

pub returns : goal.returns
returns c =
    let words = numbers_behind 32 c.args.numbers.now in
    let inner = both c.args.text.now _ _ (codes " enumeration (") words c.in_ok-append.ensures.ok c.in_ok-add_numbers.ensures in
    both c.args.text.now _ _ (codes " enumeration (" ++ words) (codes " )") inner c.in_ok-append-2.ensures.ok
