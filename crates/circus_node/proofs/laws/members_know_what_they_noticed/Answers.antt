use Rattle.circus_node.proofs.NoticeLemmas.{knows_all}
use Rattle.circus_node.proofs.laws.members_know_what_they_noticed.Goals as goal

pub returns : goal.returns
returns c = λ b place views beginning happenings. knows_all b place views beginning happenings
