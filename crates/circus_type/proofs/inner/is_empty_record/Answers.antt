use Rattle.std.proofs.Common.{ap, ◌∙◌, sym}
use Rattle.circus_syntax.specs.TypeOf.{tree_at}
use Rattle.circus_type.specs.Inside.{is_empty_record}
use Rattle.circus_type.proofs.LeastMore.{bare_is}
use Rattle.circus_type.proofs.inner.is_empty_record.Goals as goal

pub returns-in-Record : goal.returns-in-Record
returns-in-Record c = bare_is c.is_empty.result c.in-Record.groups c.is_empty.ensures ∙ ap (λ k. is_empty_record (tree_at c.args.shape.now.at k)) (sym c.in-Record.is)
