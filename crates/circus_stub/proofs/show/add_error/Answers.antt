use Rattle.std.proofs.Common.{◌++◌, ◌∙◌, ap}
use Rattle.std.specs.Prelude.{codes}
use Rattle.std.specs.Fmt.{decimal}
use Rattle.circus_value.specs.ShapeTree.{field_trees}
use Rattle.circus_stub.specs.StubsText.{field_words}
use Rattle.circus_stub.proofs.ShowLemmas.{both}
use Rattle.circus_stub.proofs.show.add_error.Goals as goal

pub add_all_values-requires : goal.add_all_values-requires
add_all_values-requires c = (field_trees c.args.error.now.arguments, c.as_slice.ensures ∙ ap (λ s. s.values) c.requires)

pub returns : goal.returns
returns c =
    let fields = field_trees c.args.error.now.arguments in
    let named = codes "error " ++ c.args.error.now.name ++ codes " " ++ decimal c.args.error.now.number in
    let inner = both c.args.text.now _ _ named (field_words fields) (rw c.from.ensures at c.in_ok-add_named.ensures) (c.in_ok-add_all_values.ensures fields (c.as_slice.ensures ∙ ap (λ s. s.values) c.requires)) in
    both c.args.text.now _ _ (named ++ field_words fields) (codes "\n") inner c.in_ok-append.ensures.ok
