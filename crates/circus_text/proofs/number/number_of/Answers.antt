use Rattle.std.proofs.Common.{arith}
use Rattle.circus_text.proofs.Numbers.{value_more, too_great}
use Rattle.circus_text.proofs.number.number_of.Goals as goal

-- the value so far and the next digit are too great together
pub returns-then-value-unit : goal.returns-then-value-unit
returns-then-value-unit c = too_great c.args.digits.now c.loop-digit.digit-index c.loop-digit.value c.from-unit.result c.requires c.loop-digit-test.true c.loop-digit.invariant.value c.from-unit.ensures c.if-value-unit.true

-- the value with the next digit
pub loop-digit-preserved : goal.loop-digit-preserved
loop-digit-preserved c = record {
  value = omega (arith, value_more c.args.digits.now c.loop-digit.digit-index c.requires c.loop-digit-test.true, c.loop-digit.invariant.value, c.from-unit.ensures);
  fits = omega arith;
}
