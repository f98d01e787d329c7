use Rattle.std.proofs.Common.{◌-◌, arith}
use Rattle.circus_syntax.proofs.TextRead.{left_few, answer_is}
use Rattle.circus_lang.specs.ModuleTree.{module_of}
use Rattle.circus_lang.specs.ModuleStanding.{module_stands_for}
use Rattle.circus_lang.proofs.ReadIs.{sound_module}
use Rattle.circus_lang.proofs.read.read_module_text.Goals as goal

pub overflow_sub-result : goal.overflow_sub-result
overflow_sub-result c =
    let few = left_few sound_module module_stands_for c.args.text.now c.args.tokens.now c.args.at c.from_token-reader.result c.module_or_root.new.reader (module_of c.in_ok-module.«module») c.from_token-reader.ensures c.in_ok-module.ensures in
    omega (arith, few, c.len.ensures, c.tokens_left.ensures)

pub returns : goal.returns
returns c = record {
  left = c.module_or_root.new.reader.rest;
  is =
      answer_is sound_module module_stands_for c.args.text.now c.args.tokens.now c.args.at c.from_token-reader.result c.module_or_root.new.reader (module_of c.in_ok-module.«module») c.stop.result c.from_token-reader.ensures
      c.in_ok-module.ensures c.stop.ensures;
  next = λ i. c.len.ensures i - c.tokens_left.ensures i;
}
