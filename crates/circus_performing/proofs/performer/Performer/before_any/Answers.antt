use Rattle.std.proofs.Common.{sym, subst}
use Rattle.circus_performing.specs.Record.{behaviour}
use Rattle.circus_performing.specs.Seen.UnderWay.{IsMember}
use Rattle.circus_performing.proofs.Members.{first_member}
use Rattle.circus_performing.proofs.performer.Performer.before_any.Goals as goal

pub invariant_of-result : goal.invariant_of-result
invariant_of-result g c =
    let b = behaviour g.M.Module.declared g.M.Module.turn g.M.Module.first c.args.hosted in
    subst (λ h. IsMember (g.M.Module.stands h.hosted) (behaviour g.M.Module.declared g.M.Module.turn g.M.Module.first h.hosted) h.began h.kept h.paused) (sym c.in_ok-new.ensures.ok)
    (first_member (g.M.Module.stands c.args.hosted) b c.in_ok-began.began (g.met.M.Module.first_is_state c.args.hosted) c.args.phase c.in_ok-state.state c.new.result c.in_ok-state.ensures c.in_ok-began.ensures c.new.ensures)
