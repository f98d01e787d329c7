use Rattle.circus_audit.proofs.OneReading.{one_given}
use Rattle.circus_audit.proofs.laws.text_says_one_thing.Goals as goal

pub returns : goal.returns
returns c = one_given
