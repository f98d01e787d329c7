use Rattle.std.proofs.Common.{sym, subst, ap, ◌∙◌, ◌++◌, length}
use Rattle.std.specs.Prelude.{slice_get}
use Rattle.std.proofs.lemmas.Option.{none-some, same_Some}
use Rattle.circus_header.specs.CallFields.{IsIncarnation}
use Rattle.circus_fanout.specs.Knowing.{note_view, is_newer}
use Rattle.circus_member.specs.Seen.Within.{seen_by}
use Rattle.circus_member_rules.specs.Rules.{with_new_view, calls_for_a_new_view}
use Rattle.circus_member_rules.specs.Callable.{AllMayCall}
use Rattle.circus_member_rules.specs.Happening.{IsHome}
use Rattle.circus_member_rules.specs.Seen.Sound.{AreOpen}
use Rattle.circus_member.proofs.Parts.{doing_of, both_ok}
use Rattle.circus_member_rules.proofs.Homes.{ring_newer, newer_there}
use Rattle.circus_member.proofs.Telling.{known_already, known_newly, table_may_call}
use Rattle.circus_member.proofs.doing.Doing.know.Goals as goal

pub returns-then-not-tell : goal.returns-then-not-tell
returns-then-not-tell g c =
    let i = c.self.inside in
    let d = doing_of i.member i.effects in
    let is = c.tell.ensures.known ∙ ap (λ k. note_view k c.args.view) c.hear.ensures in
    let older = sym (ring_newer i.member.known c.args.request c.args.view) ∙ ap (λ k. is_newer k c.args.view) (sym c.hear.ensures) ∙ sym c.if-not-tell.ensures.newer in
    known_already d c.args.request c.args.view c.tell.new.self is older ∙ ap (λ x. seen_by x c.args.request c.args.view) c.self.view_is

pub returns-in_default : goal.returns-in_default
returns-in_default g c =
    let there = ap (λ k. slice_get k.views c.args.view.troupe) c.tell.ensures.known ∙ newer_there c.hear.new.known c.args.view (sym c.if-not-tell.ensures.newer) in
    absurd (none-some c.args.view (c.in_default.ensures ∙ there))

pub new_view-requires-clause-asks : goal.new_view-requires-clause-asks
new_view-requires-clause-asks g c =
    let i = c.self.inside in
    let is = c.tell.ensures.known ∙ ap (λ k. note_view k c.args.view) c.hear.ensures in
    let home = subst (λ d. IsHome (g.M.Module.declared d.member.performing.hosted) d.member.place d.member.known.views) (sym c.self.view_is) c.requires.home in
    let ready = subst (λ d. AreOpen (g.M.Module.declared d.member.performing.hosted) d.member.place.troupe (length d.member.known.views) d.member.asks) (sym c.self.view_is) c.requires.asks in
    subst (λ k. AllMayCall k i.member.asks) (sym is) (table_may_call (g.M.Module.declared i.member.performer.hosted) i.member.place i.member.known c.args.request c.args.view i.member.asks c.requires.view home ready)

pub new_view-requires-clause-view : goal.new_view-requires-clause-view
new_view-requires-clause-view g c =
    let there = ap (λ k. slice_get k.views c.args.view.troupe) c.tell.ensures.known ∙ newer_there c.hear.new.known c.args.view (sym c.if-not-tell.ensures.newer) in
    let same = same_Some c.in-Some.view.now c.args.view (c.in-Some.ensures ∙ there) in
    subst (λ v. IsIncarnation v.incarnation) (sym same) c.requires.view

pub returns : goal.returns
returns g c =
    let i = c.self.inside in
    let d = doing_of i.member i.effects in
    let is = c.tell.ensures.known ∙ ap (λ k. note_view k c.args.view) c.hear.ensures in
    let newer = sym (ring_newer i.member.known c.args.request c.args.view) ∙ ap (λ k. is_newer k c.args.view) (sym c.hear.ensures) ∙ sym c.if-not-tell.ensures.newer in
    let there = ap (λ k. slice_get k.views c.args.view.troupe) c.tell.ensures.known ∙ newer_there c.hear.new.known c.args.view (sym c.if-not-tell.ensures.newer) in
    let same = same_Some c.in-Some.view.now c.args.view (c.in-Some.ensures ∙ there) in
    both_ok c.new_view.result
    (λ kept made.
    known_newly d c.args.request c.args.view c.tell.new.self c.new_view.new.self c.new_view.new.effects is newer
    (kept ∙ ap (λ v. with_new_view c.tell.new.self v i.member.asks) same)
    (made ∙ ap (λ v. i.effects ++ calls_for_a_new_view c.tell.new.self v i.member.asks) same)
    ∙ ap (λ x. seen_by x c.args.request c.args.view) c.self.view_is)
    c.new_view.ensures.kept
    c.new_view.ensures.made
