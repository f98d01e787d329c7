use Rattle.circus_pair.proofs.Flowing.{sent_after, window_after}
use Rattle.circus_pair.proofs.laws.calls_are_sent_in_time.Goals as goal

pub returns-clause-sent : goal.returns-clause-sent
returns-clause-sent c = sent_after

pub returns-clause-window : goal.returns-clause-window
returns-clause-window c = window_after
