use Rattle.std.proofs.Common.{◌∙◌}
use Rattle.circus_syntax.proofs.ByWord.{if_ok}
use Rattle.circus_expression.specs.ExpressionTree.{expression, binary}
use Rattle.circus_expression.specs.ExpressionOf.{tree_of}
use Rattle.circus_expression.proofs.Stands.{stop_linked_is}
use Rattle.circus_expression.proofs.reading.stop_linked.Goals as goal

pub returns : goal.returns
returns c =
    if_ok c.join.result _ _
    (λ read is. stop_linked_is c.args.of c.args.reader.now c.stop.new.reader (tree_of c.args.left) (tree_of c.in_ok-missing.missing) (tree_of read) c.in_ok-missing.ensures
    (is ∙ (λ i. expression c.args.left.at (binary (c.first_operator.ensures i) (c.in_ok-left.ensures i) (tree_of c.in_ok-missing.missing)))))
    c.join.ensures
