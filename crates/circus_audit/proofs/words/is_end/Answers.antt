use Rattle.circus_audit.proofs.Ends.{end_is}
use Rattle.circus_audit.proofs.words.is_end.Goals as goal

pub returns : goal.returns
returns c = end_is c.args.at c.args.text.now c.requires
