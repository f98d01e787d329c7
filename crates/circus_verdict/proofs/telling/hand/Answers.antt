use Rattle.circus_verdict.proofs.Stationing.{spent_over}
use Rattle.circus_verdict.proofs.telling.hand.Goals as goal

pub returns-in-Err-Spent-clause-handed : goal.returns-in-Err-Spent-clause-handed
returns-in-Err-Spent-clause-handed c = λ d node acts came stand same peers.
    spent_over d node acts came c.args.made c.hand.new.self c.hand.new.gives c.in-Err-Spent.field-0 _ c.in-Err-Spent.field-0-is (c.in-Err-Spent.ensures.handed d node acts came stand same peers)
