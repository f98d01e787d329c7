use Rattle.std.proofs.Common.{sym, ap, subst, ◌∙◌}
use Rattle.circus_performing.specs.Performing.{with_run}
use Rattle.circus_performing.specs.Record.{behaviour}
use Rattle.circus_performing.specs.Seen.UnderWay.{IsMember}
use Rattle.circus_performing.proofs.Members.{member_same, performer_with}
use Rattle.circus_performing.proofs.performer.Going.rest.Goals as goal

pub invariant_of-result : goal.invariant_of-result
invariant_of-result g c =
    let i = c.deref_mut-inside.result.now in
    let next = subst (λ h. IsMember (g.M.Module.stands h.hosted) (behaviour g.M.Module.declared g.M.Module.turn g.M.Module.first h.hosted) h.began (with_run h.kept c.args.self.run) c.args.paused)
    (sym c.deref_mut-inside.ensures.value) c.requires in
    subst (λ kept. IsMember (g.M.Module.stands i.hosted) (behaviour g.M.Module.declared g.M.Module.turn g.M.Module.first i.hosted) i.began kept c.args.paused) (sym c.in_ok-add_run.ensures) next

pub returns : goal.returns
returns g c =
    let i = c.deref_mut-inside.result.now in
    member_same i.hosted i.began _ _ c.in_ok-add_run.ensures ∙ ap (λ h. performer_with h c.args.self.run) c.deref_mut-inside.ensures.value
