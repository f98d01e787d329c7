use Rattle.std.proofs.Common.{sym, subst, ap, ◌∙◌, ◌++◌, append_assoc, arith}
use Rattle.circus_member_rules.specs.Rules.{before_answers}
use Rattle.circus_member_rules.specs.Step.{begin_behind}
use Rattle.circus_member_rules.specs.Happening.{IsHome}
use Rattle.circus_member.proofs.Parts.{doing_of, both_ok}
use Rattle.circus_member.proofs.doing.Doing.begin.Goals as goal

pub request_to_ring-requires : goal.request_to_ring-requires
request_to_ring-requires g c =
    let home = subst (λ d. IsHome (g.M.Module.declared d.member.performing.hosted) d.member.place d.member.known.views) (sym c.self.view_is) c.requires in
    let own = home.own in
    let few = home.few in
    (omega (arith, own, few), home.node)

pub returns : goal.returns
returns g c =
    let i = c.self.inside in
    both_ok c.begin_at.result
    (λ held made.
    let all = made ∙ ap (λ e. e ++ before_answers i.member.gather c.args.count) c.in_ok-request_to_ring.ensures ∙ append_assoc i.effects _ _ in
    (λ j. doing_of (record i.member { gather = held j }) (all j))
    ∙ ap (λ d. begin_behind d c.args.count) c.self.view_is)
    c.begin_at.ensures.held
    c.begin_at.ensures.made
