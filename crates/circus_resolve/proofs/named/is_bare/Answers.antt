use Rattle.std.proofs.Common.{ap, ◌∙◌, sym}
use Rattle.circus_value.specs.ShapeOf.{tree_of}
use Rattle.circus_resolve.specs.Named.{is_bare}
use Rattle.circus_resolve.proofs.Shapes.{bare_is}
use Rattle.circus_resolve.proofs.named.is_bare.Goals as goal

pub returns-in-Record : goal.returns-in-Record
returns-in-Record c = bare_is c.is_empty.result c.in-Record.fields c.is_empty.ensures ∙ ap (λ s. is_bare (tree_of s)) (sym c.in-Record.is)
