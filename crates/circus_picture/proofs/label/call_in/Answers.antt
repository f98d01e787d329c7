use Rattle.circus_picture.proofs.HeadLemmas.{found_is, call_in_is}
use Rattle.circus_picture.proofs.label.call_in.Goals as goal

pub returns : goal.returns
returns c =
    found_is c.unless_refused.result c.read_call.result _ c.unless_refused.ensures.found c.unless_refused.ensures.made
    (call_in_is c.args.message.now c.read_call.result c.read_call.ensures)
