use Rattle.circus_pair.proofs.Outputs.{call_sends, return_sends, came_sends, tick_sends}
use Rattle.circus_pair.proofs.laws.acts_send_what_is_owed.Goals as goal

pub returns-clause-calls : goal.returns-clause-calls
returns-clause-calls c = call_sends

pub returns-clause-returns : goal.returns-clause-returns
returns-clause-returns c first format acts call message lawful = return_sends first format acts call message

pub returns-clause-segments : goal.returns-clause-segments
returns-clause-segments c = came_sends

pub returns-clause-ticks : goal.returns-clause-ticks
returns-clause-ticks c first format acts lawful = tick_sends first format acts lawful.0
