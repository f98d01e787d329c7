use Rattle.circus_verdict.proofs.OneVerdict.{verdict_one}
use Rattle.circus_verdict.proofs.laws.there_is_one_verdict.Goals as goal

pub returns : goal.returns
returns c = verdict_one
