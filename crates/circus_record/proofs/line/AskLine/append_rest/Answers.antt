use Rattle.std.proofs.Common.{codes, string_bytes}
use Rattle.std.specs.Fmt.{decimal}
use Rattle.circus_value.specs.Shown.{shown_list}
use Rattle.circus_record.proofs.Pieces.{three_and_end}
use Rattle.circus_record.proofs.line.AskLine.append_rest.Goals as goal

pub returns : goal.returns
returns c =
    three_and_end c.push_str.result (string_bytes c.args.text.now) (codes " procedure ") (decimal c.args.self.now.procedure)
    (codes " arguments ") (shown_list c.args.self.now.arguments.now) (codes " state ") (shown_list c.args.self.now.state.now) (codes "\n")
    (string_bytes c.append_number.new.text) (string_bytes c.append_values.new.text) (string_bytes c.append_values-2.new.text) (string_bytes c.push_str.new.self)
    c.in_ok-append_number.ensures c.in_ok-append_values.ensures c.in_ok-append_values-2.ensures c.push_str.ensures.bytes
