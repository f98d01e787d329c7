use Rattle.std.proofs.Common.{◌-◌, arith}
use Rattle.circus_syntax.specs.InterfaceTree.{interface_of}
use Rattle.circus_syntax.specs.Spelling.{most_levels}
use Rattle.circus_syntax.proofs.Interfaces.{sound_interface}
use Rattle.circus_syntax.proofs.TextRead.{left_few, answer_is}
use Rattle.circus_syntax.proofs.interface_reading.read_interface_text.Goals as goal

pub overflow_sub-result : goal.overflow_sub-result
overflow_sub-result c =
    let few = left_few (sound_interface most_levels) (λ t. t) c.args.text.now c.args.tokens.now c.args.at c.from_token-reader.result c.interface.new.self (interface_of c.in_ok-interface.interface) c.from_token-reader.ensures c.in_ok-interface.ensures in
    omega (arith, few, c.len.ensures, c.tokens_left.ensures)

pub returns : goal.returns
returns c = record {
  left = c.interface.new.self.rest;
  is =
      answer_is (sound_interface most_levels) (λ t. t) c.args.text.now c.args.tokens.now c.args.at c.from_token-reader.result c.interface.new.self (interface_of c.in_ok-interface.interface) c.stop.result c.from_token-reader.ensures
      c.in_ok-interface.ensures c.stop.ensures;
  next = λ i. c.len.ensures i - c.tokens_left.ensures i;
}
