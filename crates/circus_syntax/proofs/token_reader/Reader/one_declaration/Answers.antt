use Rattle.circus_syntax.specs.Spelling.{most_levels}
use Rattle.circus_syntax.specs.TypeOf.{tree_of}
use Rattle.circus_syntax.proofs.ByLine.{declared_error_is, declared_procedure_is, declared_shape_is}
use Rattle.circus_syntax.proofs.token_reader.Reader.one_declaration.Goals as goal

pub returns-in_ok-arguments : goal.returns-in_ok-arguments
returns-in_ok-arguments c = declared_error_is most_levels _ _ _ _ _ _ _ c.in_ok-name.ensures c.sign.ensures c.sees_word.ensures c.if-sees_word.true c.in_ok-arguments.ensures

pub returns-in_ok-arguments-2 : goal.returns-in_ok-arguments-2
returns-in_ok-arguments-2 c =
    declared_procedure_is most_levels _ _ _ _ _ _ _ (c.in_ok-arguments-2.arguments, (c.in_ok-arguments-2.results, (c.in_ok-arguments-2.reports, c.in_ok-arguments-2.number)))
    c.in_ok-name.ensures c.sign.ensures c.sees_word.ensures c.if-sees_word.false c.sees_word-else-sees_word.ensures c.if-sees_word-2.true c.in_ok-arguments-2.ensures

pub returns-in_ok-declared_type : goal.returns-in_ok-declared_type
returns-in_ok-declared_type c =
    declared_shape_is most_levels _ _ _ _ _ _ _ (tree_of c.in_ok-declared_type.field-0)
    c.in_ok-name.ensures c.sign.ensures c.sees_word.ensures c.if-sees_word.false c.sees_word-else-sees_word.ensures c.if-sees_word-2.false c.in_ok-declared_type.ensures
