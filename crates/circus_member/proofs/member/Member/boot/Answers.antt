use Rattle.std.proofs.Common.{◌≡◌, [], sym, subst, ap, ◌∙◌}
use Rattle.circus_model.specs.Behaviour.{IsModule}
use Rattle.circus_performing.specs.Record.{behaviour}
use Rattle.circus_member_rules.specs.MemberState.{Doing}
use Rattle.circus_member_rules.specs.Step.{enter_run_of, main_start}
use Rattle.circus_member_rules.specs.GoneOn.{HasGoneOn}
use Rattle.circus_member_rules.specs.Seen.Sound.{IsSound, MayStart, IsRested}
use Rattle.circus_member.proofs.Boot.{at_boot, sound_at_boot, may_begin, rested_before, rested_entered, gone_before, gone_entered}
use Rattle.circus_member.proofs.member.Member.boot.Goals as goal

pub enter-requires-clause-sound : goal.enter-requires-clause-sound
enter-requires-clause-sound g c =
    let M = g.M.Module in
    let lawful : (hosted : g.row.M.Denot) → IsModule (behaviour M.declared M.turn M.first hosted) = λ hosted. record { first_is_state = g.met.M.Module.first_is_state hosted; turns_are_lawful = g.met.M.Module.turns_are_lawful hosted } in
    subst (λ (d : Doing g.row.M.Denot). IsSound (behaviour M.declared M.turn M.first d.member.performing.hosted) d.member) (sym c.in_ok-doing.ensures)
    (sound_at_boot M.declared M.turn M.first lawful c.args.place c.args.views c.args.hosted c.requires c.args.beginning)

pub enter-requires-clause-may : goal.enter-requires-clause-may
enter-requires-clause-may g c =
    let M = g.M.Module in
    let lawful : (hosted : g.row.M.Denot) → IsModule (behaviour M.declared M.turn M.first hosted) = λ hosted. record { first_is_state = g.met.M.Module.first_is_state hosted; turns_are_lawful = g.met.M.Module.turns_are_lawful hosted } in
    subst (λ (d : Doing g.row.M.Denot). MayStart (M.declared d.member.performing.hosted) d.member c.in_ok-start.start) (sym c.in_ok-doing.ensures)
    (subst (λ start. MayStart (M.declared (at_boot M.declared M.turn M.first lawful c.args.place c.args.views c.args.hosted c.requires c.args.beginning).performing.hosted) (at_boot M.declared M.turn M.first lawful c.args.place c.args.views c.args.hosted c.requires c.args.beginning) start) (sym (c.in_ok-start.ensures ∙ ap (main_start c.args.place.troupe) c.as_slice.ensures)) (may_begin M.declared M.turn M.first lawful c.args.place c.args.views c.args.hosted c.requires c.args.beginning (sym c.if-starts.ensures)))

pub of-requires : goal.of-requires
of-requires g c =
    let M = g.M.Module in
    let lawful : (hosted : g.row.M.Denot) → IsModule (behaviour M.declared M.turn M.first hosted) = λ hosted. record { first_is_state = g.met.M.Module.first_is_state hosted; turns_are_lawful = g.met.M.Module.turns_are_lawful hosted } in
    let begun : Doing g.row.M.Denot = record { member = at_boot M.declared M.turn M.first lawful c.args.place c.args.views c.args.hosted c.requires c.args.beginning; effects = [] } in
    let is : c.in_ok-into_box.field-0.value ≡ enter_run_of M.turn 0 begun (main_start c.args.place.troupe c.args.views) =
    c.in_ok-into_box.ensures ∙ c.in_ok-enter.ensures ∙ ap (λ d. enter_run_of M.turn 0 d c.in_ok-start.start) c.in_ok-doing.ensures ∙ ap (enter_run_of M.turn 0 begun) (c.in_ok-start.ensures ∙ ap (main_start c.args.place.troupe) c.as_slice.ensures) in
    subst (λ (d : Doing g.row.M.Denot). IsRested (behaviour M.declared M.turn M.first d.member.performing.hosted) d.member) (sym is)
    (rested_entered M.declared M.turn M.first lawful c.args.place c.args.views c.args.hosted c.requires c.args.beginning (sym c.if-starts.ensures))

pub of-requires-else-starts : goal.of-requires-else-starts
of-requires-else-starts g c =
    let M = g.M.Module in
    let lawful : (hosted : g.row.M.Denot) → IsModule (behaviour M.declared M.turn M.first hosted) = λ hosted. record { first_is_state = g.met.M.Module.first_is_state hosted; turns_are_lawful = g.met.M.Module.turns_are_lawful hosted } in
    subst (λ (d : Doing g.row.M.Denot). IsRested (behaviour M.declared M.turn M.first d.member.performing.hosted) d.member) (sym (c.in_ok-into_box-2.ensures ∙ c.in_ok-doing.ensures))
    (rested_before M.declared M.turn M.first lawful c.args.place c.args.views c.args.hosted c.requires c.args.beginning)

pub returns-in_ok-into_box-clause-rest : goal.returns-in_ok-into_box-clause-rest
returns-in_ok-into_box-clause-rest g c =
    let M = g.M.Module in
    let lawful : (hosted : g.row.M.Denot) → IsModule (behaviour M.declared M.turn M.first hosted) = λ hosted. record { first_is_state = g.met.M.Module.first_is_state hosted; turns_are_lawful = g.met.M.Module.turns_are_lawful hosted } in
    let begun : Doing g.row.M.Denot = record { member = at_boot M.declared M.turn M.first lawful c.args.place c.args.views c.args.hosted c.requires c.args.beginning; effects = [] } in
    let is : c.in_ok-into_box.field-0.value ≡ enter_run_of M.turn 0 begun (main_start c.args.place.troupe c.args.views) =
    c.in_ok-into_box.ensures ∙ c.in_ok-enter.ensures ∙ ap (λ d. enter_run_of M.turn 0 d c.in_ok-start.start) c.in_ok-doing.ensures ∙ ap (enter_run_of M.turn 0 begun) (c.in_ok-start.ensures ∙ ap (main_start c.args.place.troupe) c.as_slice.ensures) in
    subst HasGoneOn (sym (c.of.ensures.member ∙ ap (λ (d : Doing g.row.M.Denot). d.member) is))
    (gone_entered M.declared M.turn M.first lawful c.args.place c.args.views c.args.hosted c.requires c.args.beginning (sym c.if-starts.ensures))

pub returns-in_ok-into_box-2-clause-rest : goal.returns-in_ok-into_box-2-clause-rest
returns-in_ok-into_box-2-clause-rest g c =
    let M = g.M.Module in
    let lawful : (hosted : g.row.M.Denot) → IsModule (behaviour M.declared M.turn M.first hosted) = λ hosted. record { first_is_state = g.met.M.Module.first_is_state hosted; turns_are_lawful = g.met.M.Module.turns_are_lawful hosted } in
    subst HasGoneOn (sym (c.of-else-starts.ensures.member ∙ ap (λ (d : Doing g.row.M.Denot). d.member) (c.in_ok-into_box-2.ensures ∙ c.in_ok-doing.ensures)))
    (gone_before M.declared M.turn M.first lawful c.args.place c.args.views c.args.hosted c.requires c.args.beginning)
