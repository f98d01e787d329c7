use Rattle.std.proofs.Common.{ap, sym, ◌∙◌}
use Rattle.circus_fault.specs.Least.{lesser}
use Rattle.circus_fault.proofs.LeastIs.{joined, least_joined}
use Rattle.circus_fault.proofs.fault.Best.join.Goals as goal

pub returns-in-Some : goal.returns-in-Some
returns-in-Some g c faults is =
    c.keep.ensures
    ∙ ap (lesser g.C.Cause.rank c.args.self.now.fault) c.in-Some.fault-is
    ∙ ap (joined g.C.Cause.rank c.args.self.now.fault) (sym c.in-Some.is ∙ is)
    ∙ least_joined g.C.Cause.rank c.args.self.now.fault faults

pub returns-in_default : goal.returns-in_default
returns-in_default g c faults is =
    ap (joined g.C.Cause.rank c.args.self.now.fault) (sym c.in_default.is ∙ is)
    ∙ least_joined g.C.Cause.rank c.args.self.now.fault faults
