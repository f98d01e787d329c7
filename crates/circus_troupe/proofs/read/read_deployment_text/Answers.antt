use Rattle.std.proofs.Common.{◌-◌, arith}
use Rattle.circus_syntax.proofs.TextRead.{left_few, answer_is}
use Rattle.circus_troupe.proofs.Whole.{sound_deployment}
use Rattle.circus_troupe.proofs.read.read_deployment_text.Goals as goal

pub overflow_sub-result : goal.overflow_sub-result
overflow_sub-result c =
    let few = left_few sound_deployment (λ t. t) c.args.text.now c.args.tokens.now c.args.at c.from_token-reader.result c.deployment.new.reader c.in_ok-deployment.deployment c.from_token-reader.ensures c.in_ok-deployment.ensures in
    omega (arith, few, c.len.ensures, c.tokens_left.ensures)

pub returns : goal.returns
returns c = record {
  left = c.deployment.new.reader.rest;
  is =
      answer_is sound_deployment (λ t. t) c.args.text.now c.args.tokens.now c.args.at c.from_token-reader.result c.deployment.new.reader c.in_ok-deployment.deployment c.stop.result c.from_token-reader.ensures
      c.in_ok-deployment.ensures c.stop.ensures;
  next = λ i. c.len.ensures i - c.tokens_left.ensures i;
}
