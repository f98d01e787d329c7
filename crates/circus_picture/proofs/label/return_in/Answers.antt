use Rattle.circus_picture.proofs.HeadLemmas.{found_is, return_in_is}
use Rattle.circus_picture.proofs.label.return_in.Goals as goal

pub returns-clause-read : goal.returns-clause-read
returns-clause-read c =
    found_is c.unless_refused.result c.read_return.result _ c.unless_refused.ensures.found c.unless_refused.ensures.made
    (return_in_is c.args.message.now c.read_return.result c.read_return.ensures)
