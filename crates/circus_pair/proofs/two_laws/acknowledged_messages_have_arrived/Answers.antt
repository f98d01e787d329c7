use Rattle.circus_pair.proofs.Agreeing.{call_kept, return_kept}
use Rattle.circus_pair.proofs.two_laws.acknowledged_messages_have_arrived.Goals as goal

pub returns-clause-calls : goal.returns-clause-calls
returns-clause-calls c = call_kept

pub returns-clause-returns : goal.returns-clause-returns
returns-clause-returns c = return_kept
