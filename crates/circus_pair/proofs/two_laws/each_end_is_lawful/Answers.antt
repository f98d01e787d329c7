use Rattle.circus_pair.proofs.Agreeing.{low_lawful, high_lawful}
use Rattle.circus_pair.proofs.two_laws.each_end_is_lawful.Goals as goal

pub returns-clause-low : goal.returns-clause-low
returns-clause-low c = low_lawful

pub returns-clause-high : goal.returns-clause-high
returns-clause-high c = high_lawful
