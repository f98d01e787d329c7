use Rattle.circus_place.proofs.Ascii.{names_ascii}
use Rattle.circus_place.proofs.ReadIs.{accepted}
use Rattle.circus_place.proofs.read.read_place.Goals as goal

pub returns-clause-accepts : goal.returns-clause-accepts
returns-clause-accepts c = accepted c.args.text.now c.read.result c.read.ensures.err

pub returns-clause-named : goal.returns-clause-named
returns-clause-named c = names_ascii c.args.text.now c.read.result c.read.ensures.ok
