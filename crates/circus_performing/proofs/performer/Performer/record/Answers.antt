use Rattle.std.proofs.Common.{subst}
use Rattle.circus_performing.specs.Record.{behaviour, IsRecord}
use Rattle.circus_performing.proofs.Members.{record_of}
use Rattle.circus_performing.proofs.performer.Performer.record.Goals as goal

pub returns-clause-kept : goal.returns-clause-kept
returns-clause-kept g c =
    let i = c.self.inside.held.value in
    let b = behaviour g.M.Module.declared g.M.Module.turn g.M.Module.first i.hosted in
    subst (λ p. IsRecord (behaviour g.M.Module.declared g.M.Module.turn g.M.Module.first p.hosted) p.began p.kept) c.self.view_is
    (record_of (g.M.Module.stands i.hosted) b i.began i.kept i.paused c.self.invariant)
