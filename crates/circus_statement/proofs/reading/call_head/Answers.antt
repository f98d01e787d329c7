use Rattle.std.specs.Prelude.{option_map}
use Rattle.circus_statement.specs.StatementOf.{into_of}
use Rattle.circus_statement.proofs.Steps.{call_head_is}
use Rattle.circus_statement.proofs.reading.call_head.Goals as goal

pub returns : goal.returns
returns c =
    call_head_is c.args.levels c.args.reader.now c.word.new.self c.name.new.self c.sign.new.self c.name-2.new.self c.required_list.new.reader c.into_if_any.new.reader c.in_ok-callee.callee c.in_ok-procedure.procedure c.in_ok-arguments.arguments (option_map into_of c.in_ok-into.into)
    c.word.ensures c.in_ok-callee.ensures c.sign.ensures c.in_ok-procedure.ensures c.in_ok-arguments.ensures c.in_ok-into.ensures
