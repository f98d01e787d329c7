use Rattle.circus_verdict.specs.declared.station.Pairs.{Pairs}
use Rattle.circus_verdict.proofs.Stationing.{handed_so}
use Rattle.circus_verdict.proofs.station.Pairs.hand.Goals as goal

pub returns-clause-handed : goal.returns-clause-handed
returns-clause-handed c = λ d node acts came stand same peers.
    let p = c.args.self.now in
    let q : Pairs = record { alloc = p.alloc; format = p.format; wire = c.hand_all.new.wire } in
    handed_so d node acts came c.args.made p q c.args.gives.now c.hand_all.new.gives stand same peers c.hand_all.result c.hand_all.ensures.handed
