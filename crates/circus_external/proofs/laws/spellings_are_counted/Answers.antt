use Rattle.circus_value.specs.ValueTree.{value_trees}
use Rattle.circus_external.proofs.Sizes.{size_of_spelling, size_of_spellings}
use Rattle.circus_external.proofs.laws.spellings_are_counted.Goals as goal

pub returns-clause-value : goal.returns-clause-value
returns-clause-value c = size_of_spelling

pub returns-clause-values : goal.returns-clause-values
returns-clause-values c = λ vs. size_of_spellings (value_trees vs)
