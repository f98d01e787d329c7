use Rattle.circus_performing.proofs.Records.{acts_keep}
use Rattle.circus_performing.proofs.laws.records_are_kept.Goals as goal

pub returns : goal.returns
returns c = λ b acts lawful can. acts_keep b acts lawful can
