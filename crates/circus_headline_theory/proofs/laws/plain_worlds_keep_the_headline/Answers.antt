use Rattle.circus_headline_theory.proofs.Runs.{plain_worlds_keep_the_headline}
use Rattle.circus_headline_theory.proofs.laws.plain_worlds_keep_the_headline.Goals as goal

pub returns : goal.returns
returns c = λ d program hosted lines begun last world. plain_worlds_keep_the_headline d program hosted lines begun last world
