use Rattle.circus_pair.proofs.Told.{told}
use Rattle.circus_pair.proofs.laws.datagrams_say_what_is_known.Goals as goal

pub returns : goal.returns
returns c = told
