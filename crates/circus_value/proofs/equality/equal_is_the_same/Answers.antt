use Rattle.circus_value.specs.ValueEquality.{value_eq_decides, values_eq_decides}
use Rattle.circus_value.specs.OutcomeEquality.{outcome_eq_decides}
use Rattle.circus_value.proofs.equality.equal_is_the_same.Goals as goal

pub returns-clause-value : goal.returns-clause-value
returns-clause-value c a b = value_eq_decides a b

pub returns-clause-values : goal.returns-clause-values
returns-clause-values c a b = values_eq_decides a b

pub returns-clause-outcome : goal.returns-clause-outcome
returns-clause-outcome c a b = outcome_eq_decides a b
