use Rattle.std.proofs.Common.{is_some}
use Rattle.circus_idl.proofs.check.start.Goals as goal

pub returns-clause-before : goal.returns-clause-before
returns-clause-before c = λ i. record {
  names = λ n. is_some (c.new.ensures i n);
  types = c.new-2.ensures.known i;
  sizes = c.new-2.ensures.sized i;
  errors = c.new-3.ensures i;
  error_numbers = c.new-4.ensures i;
  procedure_numbers = c.new-5.ensures i;
  parts = 0;
}
