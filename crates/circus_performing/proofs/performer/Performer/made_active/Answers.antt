use Rattle.std.proofs.Common.{None, ap, sym, subst, ◌∙◌, ◌≤◌, arith}
use Rattle.circus_model.specs.Lawful.{IsState}
use Rattle.circus_performing.specs.Performing.{is_fetching, active_record, made_active, last_count}
use Rattle.circus_performing.specs.Record.{behaviour}
use Rattle.circus_performing.specs.Seen.UnderWay.{IsMember}
use Rattle.circus_performing.proofs.Members.{active_member, performer_of, member_same}
use Rattle.circus_performing.proofs.performer.Performer.made_active.Goals as goal

pub invariant_of-result : goal.invariant_of-result
invariant_of-result g c =
    let i = c.deref_mut-inside.result.now in
    let was = subst (λ h. IsMember (g.M.Module.stands h.hosted) (behaviour g.M.Module.declared g.M.Module.turn g.M.Module.first h.hosted) h.began h.kept h.paused) (sym c.deref_mut-inside.ensures.value) c.self.invariant in
    let own = ap (λ h. performer_of h) c.deref_mut-inside.ensures.value ∙ c.self.view_is in
    let b = behaviour g.M.Module.declared g.M.Module.turn g.M.Module.first i.hosted in
    let fetching = ap (λ p. is_fetching p.kept.phase) own ∙ c.requires.fetching in
    let is_state = subst (λ p. IsState (g.M.Module.declared p.hosted) c.args.state) (sym own) c.requires.state in
    let within : c.args.count ≤ last_count = omega arith in
    subst (λ kept. IsMember (g.M.Module.stands i.hosted) b c.args.state kept None) (sym (c.make_active.ensures ∙ ap (λ s. active_record c.args.step s c.args.count i.kept) c.in_ok-copy.ensures))
    (active_member (g.M.Module.stands i.hosted) b i.began i.kept i.paused c.args.step c.args.count c.args.state was fetching is_state within)

pub returns : goal.returns
returns g c =
    let i = c.deref_mut-inside.result.now in
    member_same i.hosted c.args.state _ _ (c.make_active.ensures ∙ ap (λ s. active_record c.args.step s c.args.count i.kept) c.in_ok-copy.ensures)
    ∙ ap (λ p. made_active c.args.step c.args.state c.args.count p) (ap (λ h. performer_of h) c.deref_mut-inside.ensures.value ∙ c.self.view_is)
