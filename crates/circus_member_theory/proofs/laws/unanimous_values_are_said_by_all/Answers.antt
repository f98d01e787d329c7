use Rattle.circus_member_theory.proofs.Timely.Unanimity.{is_unanimous}
use Rattle.circus_member_theory.proofs.laws.unanimous_values_are_said_by_all.Goals as goal

pub returns : goal.returns
returns g c = λ expected said down place e. is_unanimous g.V.PartialEq.eq expected said down place e
