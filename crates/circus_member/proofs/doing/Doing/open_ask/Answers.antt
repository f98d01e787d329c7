use Rattle.std.proofs.Common.{◌≡◌, sym, subst, ap, ◌∙◌, []}
use Rattle.std.proofs.lemmas.Result.{on_ok_weaker}
use Rattle.std.proofs.lemmas.List.Elements.{All-same}
use Rattle.circus_header.specs.CallFields.{IsIncarnation}
use Rattle.circus_model.specs.Behaviour.{IsModule}
use Rattle.circus_fanout.specs.declared.send.Send.{Send}
use Rattle.circus_fanout.specs.Asking.{begin_asking, with_view, calls_for_a_view}
use Rattle.circus_performing.specs.Record.{behaviour}
use Rattle.circus_member_rules.specs.Step.{name_of_last, header_of_ask}
use Rattle.circus_member.specs.Seen.Within.{opened_last}
use Rattle.circus_member_rules.specs.Callable.{MayCall, HasFewAsks}
use Rattle.circus_member_rules.specs.Seen.Sound.{HasTurned}
use Rattle.circus_member_rules.proofs.Calls.{by_the_view}
use Rattle.circus_member_rules.proofs.Homes.{are_views}
use Rattle.circus_member_rules.proofs.Runs.{few_asks}
use Rattle.circus_member.proofs.Parts.{doing_of}
use Rattle.circus_member.proofs.Opening.{turned_few, written_ask, may_call_asked, no_run, no_ask, no_view, opened_so}
use Rattle.circus_member.proofs.doing.Doing.open_ask.Goals as goal

pub returns-in_default : goal.returns-in_default
returns-in_default g c =
    let i = c.self.inside in
    let d = doing_of i.member i.effects in
    subst (λ x. x ≡ opened_last x) c.self.view_is (no_run d (sym c.in_default.ensures))

pub returns-in_default-open_ask : goal.returns-in_default-open_ask
returns-in_default-open_ask g c =
    let i = c.self.inside in
    let d = doing_of i.member i.effects in
    subst (λ x. x ≡ opened_last x) c.self.view_is (no_ask d c.in-Some.last.now (sym c.in-Some.ensures) (sym c.in_default-open_ask.ensures))

pub returns-in_default-view : goal.returns-in_default-view
returns-in_default-view g c =
    let i = c.self.inside in
    let d = doing_of i.member i.effects in
    subst (λ x. x ≡ opened_last x) c.self.view_is (no_view d c.in-Some.last.now c.in-Some-open_ask.ask.now (sym c.in-Some.ensures) (sym c.in-Some-open_ask.ensures) (sym c.in_default-view.ensures))

pub name_of_last-name-requires : goal.name_of_last-name-requires
name_of_last-name-requires g c =
    let i = c.self.inside in
    let b = behaviour g.M.Module.declared g.M.Module.turn g.M.Module.first i.member.performer.hosted in
    let lawful : IsModule b = record { first_is_state = g.met.M.Module.first_is_state i.member.performer.hosted; turns_are_lawful = g.met.M.Module.turns_are_lawful i.member.performer.hosted } in
    subst HasFewAsks (sym c.record-record.ensures.value) (few_asks b lawful i.member.performer.began i.member.performer.kept c.record-record.ensures.kept)

pub header_of_ask-requires : goal.header_of_ask-requires
header_of_ask-requires g c =
    let i = c.self.inside in
    let d = doing_of i.member i.effects in
    let b = behaviour g.M.Module.declared g.M.Module.turn g.M.Module.first i.member.performer.hosted in
    let lawful : IsModule b = record { first_is_state = g.met.M.Module.first_is_state i.member.performer.hosted; turns_are_lawful = g.met.M.Module.turns_are_lawful i.member.performer.hosted } in
    let turned = subst (λ x. HasTurned (behaviour g.M.Module.declared g.M.Module.turn g.M.Module.first x.member.performing.hosted) x.member) (sym c.self.view_is) c.requires in
    turned_few b lawful d.member turned c.record-record.ensures.kept c.in-Some.last.now (sym c.in-Some.ensures)

pub body_of-requires : goal.body_of-requires
body_of-requires g c =
    let i = c.self.inside in
    let d = doing_of i.member i.effects in
    let b = behaviour g.M.Module.declared g.M.Module.turn g.M.Module.first i.member.performer.hosted in
    let lawful : IsModule b = record { first_is_state = g.met.M.Module.first_is_state i.member.performer.hosted; turns_are_lawful = g.met.M.Module.turns_are_lawful i.member.performer.hosted } in
    let turned = subst (λ x. HasTurned (behaviour g.M.Module.declared g.M.Module.turn g.M.Module.first x.member.performing.hosted) x.member) (sym c.self.view_is) c.requires in
    written_ask b lawful d.member turned c.record-record.ensures.kept c.in-Some-open_ask.ask.now (sym c.in-Some-open_ask.ensures)

pub calls_of_ask-requires-clause-may : goal.calls_of_ask-requires-clause-may
calls_of_ask-requires-clause-may g c =
    let i = c.self.inside in
    let d = doing_of i.member i.effects in
    let b = behaviour g.M.Module.declared g.M.Module.turn g.M.Module.first i.member.performer.hosted in
    let lawful : IsModule b = record { first_is_state = g.met.M.Module.first_is_state i.member.performer.hosted; turns_are_lawful = g.met.M.Module.turns_are_lawful i.member.performer.hosted } in
    let turned = subst (λ x. HasTurned (behaviour g.M.Module.declared g.M.Module.turn g.M.Module.first x.member.performing.hosted) x.member) (sym c.self.view_is) c.requires in
    let at = sym c.in-Some.ensures in
    let is = sym c.in-Some-open_ask.ensures in
    let last = c.in-Some.last.now in
    let ask = c.in-Some-open_ask.ask.now in
    let view = c.in-Some-view.view.now in
    let header = c.in_ok-header.ensures ∙ ap (λ k. header_of_ask i.member.place.troupe k last ask) c.record-record.ensures.value in
    let fanout = c.in_ok-fanout.ensures.fanout
    ∙ ap (λ n. with_view view n (begin_asking c.in_ok-header.header c.in_ok-body.body i.member.place.replies)) c.down_nodes.ensures
    ∙ ap (λ h. with_view view i.member.known.down (begin_asking h c.in_ok-body.body i.member.place.replies)) header
    ∙ ap (λ x. with_view view i.member.known.down (begin_asking (header_of_ask i.member.place.troupe i.member.performer.kept last ask) x i.member.place.replies)) c.in_ok-body.ensures in
    subst (MayCall i.member.known) (sym fanout) (may_call_asked b lawful d.member turned c.record-record.ensures.kept last ask view at is)

pub calls_of_ask-requires-clause-views : goal.calls_of_ask-requires-clause-views
calls_of_ask-requires-clause-views g c =
    let i = c.self.inside in
    let turned = subst (λ x. HasTurned (behaviour g.M.Module.declared g.M.Module.turn g.M.Module.first x.member.performing.hosted) x.member) (sym c.self.view_is) c.requires in
    let view = c.in-Some-view.view.now in
    let incarnation = are_views i.member.known turned.home.incarnations c.in-Some-open_ask.ask.now.callee view (sym c.in-Some-view.ensures) in
    All-same (λ (s : Send). IsIncarnation s.incarnation) _ _ (c.as_slice.ensures ∙ c.in_ok-fanout.ensures.sends) (by_the_view view c.down_nodes.result.now [] incarnation)

pub returns : goal.returns
returns g c =
    let i = c.self.inside in
    let d = doing_of i.member i.effects in
    let at = sym c.in-Some.ensures in
    let is = sym c.in-Some-open_ask.ensures in
    let last = c.in-Some.last.now in
    let ask = c.in-Some-open_ask.ask.now in
    let view = c.in-Some-view.view.now in
    let header = c.in_ok-header.ensures ∙ ap (λ k. header_of_ask i.member.place.troupe k last ask) c.record-record.ensures.value in
    let fanout = c.in_ok-fanout.ensures.fanout
    ∙ ap (λ n. with_view view n (begin_asking c.in_ok-header.header c.in_ok-body.body i.member.place.replies)) c.down_nodes.ensures
    ∙ ap (λ h. with_view view i.member.known.down (begin_asking h c.in_ok-body.body i.member.place.replies)) header
    ∙ ap (λ x. with_view view i.member.known.down (begin_asking (header_of_ask i.member.place.troupe i.member.performer.kept last ask) x i.member.place.replies)) c.in_ok-body.ensures in
    let name = c.name_of_last-name.ensures ∙ ap name_of_last c.record-record.ensures.value in
    let sends = c.as_slice.ensures ∙ c.in_ok-fanout.ensures.sends ∙ ap (λ n. calls_for_a_view view n []) c.down_nodes.ensures in
    on_ok_weaker c.open.result
    (λ kept.
    opened_so d last ask view c.name_of_last-name.result c.in_ok-fanout.fanout c.as_slice.result.now c.open.new.self c.calls_of_ask.new.effects
    at is (sym c.in-Some-view.ensures) name fanout sends kept c.in_ok-calls_of_ask.ensures
    ∙ ap opened_last c.self.view_is)
    c.open.ensures
