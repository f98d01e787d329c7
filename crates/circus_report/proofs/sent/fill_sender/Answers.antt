use Rattle.std.proofs.Common.{arith}
use Rattle.circus_report.proofs.Numbers.{length_short}
use Rattle.circus_report.proofs.sent.fill_sender.Goals as goal

pub write_digits-start-requires : goal.write_digits-start-requires
write_digits-start-requires c = (omega (arith, length_short c.args.step c.ranges.step.fits), omega arith)

pub fill_word-start-requires-3 : goal.fill_word-start-requires-3
fill_word-start-requires-3 c = (omega (arith, length_short c.args.step c.ranges.step.fits), omega arith)

pub write_digits-start-requires-2 : goal.write_digits-start-requires-2
write_digits-start-requires-2 c = (omega (arith, length_short c.args.step c.ranges.step.fits, length_short c.args.number c.ranges.number.fits), omega arith)

pub fill_word-requires : goal.fill_word-requires
fill_word-requires c = (omega (arith, length_short c.args.step c.ranges.step.fits, length_short c.args.number c.ranges.number.fits), omega arith)
