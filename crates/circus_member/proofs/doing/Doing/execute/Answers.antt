use Rattle.std.proofs.Common.{sym, subst, ap, ◌∙◌}
use Rattle.std.specs.Prelude.{option_map}
use Rattle.circus_model.specs.Behaviour.{IsModule}
use Rattle.circus_performing.specs.Record.{behaviour}
use Rattle.circus_member_rules.specs.MemberState.{Doing}
use Rattle.circus_member_rules.specs.Step.{start_by_call, next_start, given_states, start_runs}
use Rattle.circus_member_rules.specs.Seen.Sound.{IsSound}
use Rattle.circus_member_rules.proofs.Starting.{sound_answered}
use Rattle.circus_member_rules.proofs.Enough.{held_by}
use Rattle.circus_member.proofs.Going.{Goes, goes_sound, goes_may, went_sound, went_same, went_fewer, went_so_far}
use Rattle.circus_member.proofs.doing.Doing.execute.Goals as goal

pub starts-init : goal.starts-init
starts-init g c =
    let M = g.M.Module in
    let lawful : (hosted : g.row.M.Denot) → IsModule (behaviour M.declared M.turn M.first hosted) = λ hosted. record { first_is_state = g.met.M.Module.first_is_state hosted; turns_are_lawful = g.met.M.Module.turns_are_lawful hosted } in
    record {
      sound = subst (λ (d : Doing g.row.M.Denot). IsSound (behaviour M.declared M.turn M.first d.member.performing.hosted) d.member) (sym c.in_ok-doing.ensures) (sound_answered M.declared M.turn M.first lawful c.args.at c.args.doing.value c.requires);
      same = ap (λ (d : Doing g.row.M.Denot). start_runs M.declared M.turn c.args.at (held_by d) d) c.in_ok-doing.ensures;
    }

pub enter_boxed-requires-clause-sound : goal.enter_boxed-requires-clause-sound
enter_boxed-requires-clause-sound g c =
    let M = g.M.Module in
    let lawful : (hosted : g.row.M.Denot) → IsModule (behaviour M.declared M.turn M.first hosted) = λ hosted. record { first_is_state = g.met.M.Module.first_is_state hosted; turns_are_lawful = g.met.M.Module.turns_are_lawful hosted } in
    let sound = c.starts.invariant.sound in
    let goes : Goes M.declared M.turn M.first lawful c.args.at c.starts.doing.value sound c.give_states.new.self c.in-Some.start = record { given = c.in_ok-give_states.ensures ∙ ap (λ (x : Doing g.row.M.Denot). given_states x) c.deref_mut.ensures.value; starts = sym c.in-Some.is ∙ c.in_ok-start.ensures ∙ ap (λ (x : Doing g.row.M.Denot). option_map (start_by_call x.member.place.troupe (M.declared x.member.performing.hosted).procedures) (next_start x.member)) c.deref.ensures } in
    goes_sound M.declared M.turn M.first lawful c.args.at c.starts.doing.value sound c.give_states.new.self c.in-Some.start goes

pub enter_boxed-requires-clause-may : goal.enter_boxed-requires-clause-may
enter_boxed-requires-clause-may g c =
    let M = g.M.Module in
    let lawful : (hosted : g.row.M.Denot) → IsModule (behaviour M.declared M.turn M.first hosted) = λ hosted. record { first_is_state = g.met.M.Module.first_is_state hosted; turns_are_lawful = g.met.M.Module.turns_are_lawful hosted } in
    let sound = c.starts.invariant.sound in
    let goes : Goes M.declared M.turn M.first lawful c.args.at c.starts.doing.value sound c.give_states.new.self c.in-Some.start = record { given = c.in_ok-give_states.ensures ∙ ap (λ (x : Doing g.row.M.Denot). given_states x) c.deref_mut.ensures.value; starts = sym c.in-Some.is ∙ c.in_ok-start.ensures ∙ ap (λ (x : Doing g.row.M.Denot). option_map (start_by_call x.member.place.troupe (M.declared x.member.performing.hosted).procedures) (next_start x.member)) c.deref.ensures } in
    goes_may M.declared M.turn M.first lawful c.args.at c.starts.doing.value sound c.give_states.new.self c.in-Some.start goes

pub starts-smaller : goal.starts-smaller
starts-smaller g c =
    let M = g.M.Module in
    let lawful : (hosted : g.row.M.Denot) → IsModule (behaviour M.declared M.turn M.first hosted) = λ hosted. record { first_is_state = g.met.M.Module.first_is_state hosted; turns_are_lawful = g.met.M.Module.turns_are_lawful hosted } in
    let sound = c.starts.invariant.sound in
    let goes : Goes M.declared M.turn M.first lawful c.args.at c.starts.doing.value sound c.give_states.new.self c.in-Some.start = record { given = c.in_ok-give_states.ensures ∙ ap (λ (x : Doing g.row.M.Denot). given_states x) c.deref_mut.ensures.value; starts = sym c.in-Some.is ∙ c.in_ok-start.ensures ∙ ap (λ (x : Doing g.row.M.Denot). option_map (start_by_call x.member.place.troupe (M.declared x.member.performing.hosted).procedures) (next_start x.member)) c.deref.ensures } in
    went_fewer M.declared M.turn M.first lawful c.args.at c.starts.doing.value sound c.give_states.new.self c.in_ok-doing-in-Some.doing.value c.in-Some.start goes c.in_ok-doing-in-Some.ensures

pub starts-preserved : goal.starts-preserved
starts-preserved g c =
    let M = g.M.Module in
    let lawful : (hosted : g.row.M.Denot) → IsModule (behaviour M.declared M.turn M.first hosted) = λ hosted. record { first_is_state = g.met.M.Module.first_is_state hosted; turns_are_lawful = g.met.M.Module.turns_are_lawful hosted } in
    let sound = c.starts.invariant.sound in
    let goes : Goes M.declared M.turn M.first lawful c.args.at c.starts.doing.value sound c.give_states.new.self c.in-Some.start = record { given = c.in_ok-give_states.ensures ∙ ap (λ (x : Doing g.row.M.Denot). given_states x) c.deref_mut.ensures.value; starts = sym c.in-Some.is ∙ c.in_ok-start.ensures ∙ ap (λ (x : Doing g.row.M.Denot). option_map (start_by_call x.member.place.troupe (M.declared x.member.performing.hosted).procedures) (next_start x.member)) c.deref.ensures } in
    record {
      sound = went_sound M.declared M.turn M.first lawful c.args.at c.starts.doing.value sound c.give_states.new.self c.in_ok-doing-in-Some.doing.value c.in-Some.start goes c.in_ok-doing-in-Some.ensures;
      same = went_same M.declared M.turn M.first lawful c.args.at c.starts.doing.value sound c.give_states.new.self c.in_ok-doing-in-Some.doing.value c.in-Some.start goes c.in_ok-doing-in-Some.ensures ∙ c.starts.invariant.same;
    }

pub returns-in-None : goal.returns-in-None
returns-in-None g c =
    let M = g.M.Module in
    let lawful : (hosted : g.row.M.Denot) → IsModule (behaviour M.declared M.turn M.first hosted) = λ hosted. record { first_is_state = g.met.M.Module.first_is_state hosted; turns_are_lawful = g.met.M.Module.turns_are_lawful hosted } in
    let sound = c.starts.invariant.sound in
    went_so_far M.declared M.turn M.first lawful c.args.at c.starts.doing.value sound c.give_states.new.self (c.in_ok-give_states.ensures ∙ ap (λ (x : Doing g.row.M.Denot). given_states x) c.deref_mut.ensures.value)
    (sym c.in-None.is ∙ c.in_ok-start.ensures ∙ ap (λ (x : Doing g.row.M.Denot). option_map (start_by_call x.member.place.troupe (M.declared x.member.performing.hosted).procedures) (next_start x.member)) c.deref.ensures) ∙ c.starts.invariant.same
