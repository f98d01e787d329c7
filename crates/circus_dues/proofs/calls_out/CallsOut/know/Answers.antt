use Rattle.std.proofs.Common.{sym, subst, ap, ◌∙◌, ◌++◌}
use Rattle.std.proofs.lemmas.Option.{none-some, same_Some}
use Rattle.std.proofs.lemmas.Result.{on_ok_weaker}
use Rattle.circus_header.specs.CallFields.{IsIncarnation}
use Rattle.circus_collate.specs.declared.view.View.{View}
use Rattle.circus_fanout.specs.Knowing.{Knowing, note_view, is_newer}
use Rattle.circus_member_rules.specs.Rules.{with_new_view, calls_for_a_new_view}
use Rattle.circus_member_rules.specs.Callable.{AllMayCall}
use Rattle.circus_member_rules.proofs.Homes.{ring_newer}
use Rattle.circus_dues.specs.Seen.Parts.{CallsOut, MayCallFor, with_table, calls_by_table}
use Rattle.circus_dues.proofs.Calling.{all_may_call_of, now_known, may_know, kept_newer, made_newer}
use Rattle.circus_dues.proofs.calls_out.CallsOut.know.Goals as goal

pub new_view-requires-clause-asks : goal.new_view-requires-clause-asks
new_view-requires-clause-asks c =
    let i = c.self.inside in
    let o : CallsOut = record { known = i.known; asks = i.asks } in
    let may = subst (MayCallFor c.args.place.now) (sym c.self.view_is) c.requires.may in
    let is = c.tell.ensures.known ∙ ap (λ (k : Knowing). note_view k c.args.view) c.hear.ensures in
    subst (λ k. AllMayCall k i.asks) (sym is)
    (all_may_call_of c.args.place.now _ (may_know c.args.place.now o c.args.request c.args.view c.requires.view may))

pub new_view-requires-clause-view : goal.new_view-requires-clause-view
new_view-requires-clause-view c =
    let there = now_known c.hear.new.known c.tell.new.self c.args.view c.tell.ensures.known (sym c.if-not-tell.ensures.newer) in
    let same = same_Some c.in-Some.view.now c.args.view (c.in-Some.ensures ∙ there) in
    subst (λ (v : View). IsIncarnation v.incarnation) (sym same) c.requires.view

pub returns-in-Some-clause-kept : goal.returns-in-Some-clause-kept
returns-in-Some-clause-kept c =
    let i = c.self.inside in
    let o : CallsOut = record { known = i.known; asks = i.asks } in
    let is = c.tell.ensures.known ∙ ap (λ (k : Knowing). note_view k c.args.view) c.hear.ensures in
    let newer = sym (ring_newer i.known c.args.request c.args.view) ∙ ap (λ k. is_newer k c.args.view) (sym c.hear.ensures) ∙ sym c.if-not-tell.ensures.newer in
    let there = now_known c.hear.new.known c.tell.new.self c.args.view c.tell.ensures.known (sym c.if-not-tell.ensures.newer) in
    let same = same_Some c.in-Some.view.now c.args.view (c.in-Some.ensures ∙ there) in
    on_ok_weaker c.new_view.result
    (λ kept.
    kept_newer o c.args.request c.args.view c.tell.new.self is c.new_view.new.self newer (kept ∙ ap (λ v. with_new_view c.tell.new.self v i.asks) same)
    ∙ ap (λ x. with_table x c.args.request c.args.view) c.self.view_is)
    c.new_view.ensures.kept

pub returns-in-Some-clause-made : goal.returns-in-Some-clause-made
returns-in-Some-clause-made c =
    let i = c.self.inside in
    let o : CallsOut = record { known = i.known; asks = i.asks } in
    let is = c.tell.ensures.known ∙ ap (λ (k : Knowing). note_view k c.args.view) c.hear.ensures in
    let newer = sym (ring_newer i.known c.args.request c.args.view) ∙ ap (λ k. is_newer k c.args.view) (sym c.hear.ensures) ∙ sym c.if-not-tell.ensures.newer in
    let there = now_known c.hear.new.known c.tell.new.self c.args.view c.tell.ensures.known (sym c.if-not-tell.ensures.newer) in
    let same = same_Some c.in-Some.view.now c.args.view (c.in-Some.ensures ∙ there) in
    let before = c.args.effects.now in
    on_ok_weaker c.new_view.result
    (λ made.
    made_newer o c.args.request c.args.view c.tell.new.self is before c.new_view.new.effects newer (made ∙ ap (λ v. before ++ calls_for_a_new_view c.tell.new.self v i.asks) same)
    ∙ ap (λ x. before ++ calls_by_table x c.args.request c.args.view) c.self.view_is)
    c.new_view.ensures.made

pub returns-in-None-clause-kept : goal.returns-in-None-clause-kept
returns-in-None-clause-kept c =
    let there = now_known c.hear.new.known c.tell.new.self c.args.view c.tell.ensures.known (sym c.if-not-tell.ensures.newer) in
    absurd (none-some c.args.view (c.in-None.ensures ∙ there))

pub returns-in-None-clause-made : goal.returns-in-None-clause-made
returns-in-None-clause-made c =
    let there = now_known c.hear.new.known c.tell.new.self c.args.view c.tell.ensures.known (sym c.if-not-tell.ensures.newer) in
    absurd (none-some c.args.view (c.in-None.ensures ∙ there))
