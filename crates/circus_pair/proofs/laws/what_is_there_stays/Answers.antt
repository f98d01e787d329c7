use Rattle.circus_pair.proofs.OneEnd.{arrived_stays, total_stays, call_stays, return_stays, sent_stays}
use Rattle.circus_pair.proofs.laws.what_is_there_stays.Goals as goal

pub returns-clause-arrived : goal.returns-clause-arrived
returns-clause-arrived c = arrived_stays

pub returns-clause-totals : goal.returns-clause-totals
returns-clause-totals c = total_stays

pub returns-clause-calls : goal.returns-clause-calls
returns-clause-calls c = call_stays

pub returns-clause-returns : goal.returns-clause-returns
returns-clause-returns c = return_stays

pub returns-clause-sent : goal.returns-clause-sent
returns-clause-sent c = sent_stays
