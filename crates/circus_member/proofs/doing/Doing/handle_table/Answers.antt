use Rattle.std.proofs.Common.{sym, subst, ap, ◌∙◌, ◌++◌, [], map, if◌then◌else◌, length, arith}
use Rattle.std.proofs.lemmas.Result.{on_ok_weaker}
use Rattle.circus_header.specs.CallFields.{IsModule}
use Rattle.circus_member_rules.specs.Rules.{givers, state_request}
use Rattle.circus_member_rules.specs.Step.{is_taken_in, handle_table}
use Rattle.circus_member_rules.specs.MemberState.{behind}
use Rattle.circus_member_rules.specs.Happening.{IsHome}
use Rattle.circus_member_rules.specs.Seen.Sound.{AreOpen}
use Rattle.circus_member.proofs.Parts.{doing_of}
use Rattle.circus_member.proofs.Telling.{told_all}
use Rattle.circus_member.proofs.doing.Doing.handle_table.Goals as goal

pub know-requires-clause-home : goal.know-requires-clause-home
know-requires-clause-home g c =
    let i = c.self.inside in
    let home = subst (λ d. IsHome (g.M.Module.declared d.member.performing.hosted) d.member.place d.member.known.views) (sym c.self.view_is) c.requires.home in
    subst (λ p. IsHome (g.M.Module.declared p.hosted) i.member.place i.member.known.views) (sym c.take_in.ensures) home

pub know-requires-clause-asks : goal.know-requires-clause-asks
know-requires-clause-asks g c =
    let i = c.self.inside in
    let ready = subst (λ d. AreOpen (g.M.Module.declared d.member.performing.hosted) d.member.place.troupe (length d.member.known.views) d.member.asks) (sym c.self.view_is) c.requires.asks in
    subst (λ p. AreOpen (g.M.Module.declared p.hosted) i.member.place.troupe (length i.member.known.views) i.member.asks) (sym c.take_in.ensures) ready

pub ask_for_states-requires-clause-troupe : goal.ask_for_states-requires-clause-troupe
ask_for_states-requires-clause-troupe g c =
    let home = subst (λ d. IsHome (g.M.Module.declared d.member.performing.hosted) d.member.place d.member.known.views) (sym c.self.view_is) c.requires.home in
    let own = home.own in
    let few = home.few in
    let same = ap (λ d. d.member.place) (c.self-2.view_is ∙ c.in_ok-know.ensures) in
    subst (λ p. IsModule p.troupe) (sym same) (omega (arith, own, few))

pub know-requires-clause-view : goal.know-requires-clause-view
know-requires-clause-view g c = c.requires.table

pub ask_for_states-requires-clause-incarnation : goal.ask_for_states-requires-clause-incarnation
ask_for_states-requires-clause-incarnation g c = c.requires.table

pub returns : goal.returns
returns g c =
    let i = c.self.inside in
    let j = c.self-2.inside in
    let d = doing_of i.member i.effects in
    let e = doing_of j.member j.effects in
    let taken = c.is_taken_in-taken_in.ensures
    ∙ ap (λ k. is_taken_in k.phase c.record-2.result.now.phase) c.record.ensures.value
    ∙ ap (λ k. is_taken_in i.member.performer.kept.phase k.phase) c.record-2.ensures.value in
    let are = c.in_ok-nodes.ensures ∙ ap (λ t. if t then givers i.member.place.node i.member.known.down c.args.table.view else []) taken in
    on_ok_weaker c.ask_for_states.result
    (λ made.
    told_all d c.args.request c.args.table c.take_in.new.performer e c.in_ok-nodes.nodes c.ask_for_states.new.effects
    c.take_in.ensures are (c.self-2.view_is ∙ c.in_ok-know.ensures)
    (made ∙ ap (λ ns. j.effects ++ map (state_request j.member.place.troupe c.args.table.view.incarnation) ns) c.as_slice.ensures)
    ∙ ap (λ x. behind x (handle_table x.member c.args.request c.args.table)) c.self.view_is)
    c.ask_for_states.ensures
