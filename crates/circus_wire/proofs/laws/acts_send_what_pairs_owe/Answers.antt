use Rattle.circus_wire.proofs.Histories.{sent_is, call_elsewhere, answer_elsewhere, segment_elsewhere, declaration_sends_nothing}
use Rattle.circus_wire.proofs.laws.acts_send_what_pairs_owe.Goals as goal

pub returns-clause-all : goal.returns-clause-all
returns-clause-all g c = sent_is

pub returns-clause-calls : goal.returns-clause-calls
returns-clause-calls g c = call_elsewhere

pub returns-clause-returns : goal.returns-clause-returns
returns-clause-returns g c = answer_elsewhere

pub returns-clause-segments : goal.returns-clause-segments
returns-clause-segments g c = segment_elsewhere

pub returns-clause-declarations : goal.returns-clause-declarations
returns-clause-declarations g c = declaration_sends_nothing
