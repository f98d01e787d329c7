use Rattle.std.proofs.Common.{sym, subst}
use Rattle.circus_performing.specs.Record.{behaviour}
use Rattle.circus_performing.specs.Seen.UnderWay.{IsMember}
use Rattle.circus_transfer.specs.Joining.{after_table}
use Rattle.circus_performing.proofs.Records.{still_inactive_taken}
use Rattle.circus_performing.proofs.Members.{member_in}
use Rattle.circus_performing.proofs.performer.Performer.take_in.Goals as goal

pub invariant_of-self : goal.invariant_of-self
invariant_of-self g c =
    let i = c.deref_mut-held.result.now in
    let was = subst (λ h. IsMember (g.M.Module.stands h.hosted) (behaviour g.M.Module.declared g.M.Module.turn g.M.Module.first h.hosted) h.began h.kept h.paused) (sym c.deref_mut-held.ensures.value) c.self.invariant in
    let b = behaviour g.M.Module.declared g.M.Module.turn g.M.Module.first i.hosted in
    rw c.table-held.ensures (member_in (g.M.Module.stands i.hosted) b i.began (after_table c.args.table.now i.kept.phase) i.kept i.paused (still_inactive_taken c.args.table.now i.kept.phase) was)
