use Rattle.circus_pair.proofs.Agreeing.{talk_agrees}
use Rattle.circus_pair.proofs.two_laws.two_ends_agree.Goals as goal

pub returns : goal.returns
returns c = talk_agrees
