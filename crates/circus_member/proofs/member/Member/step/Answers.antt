use Rattle.std.proofs.Common.{◌≡◌, ◌≤◌, [], length, sym, subst, ap, ◌∙◌}
use Rattle.std.specs.Option.{option_to_list}
use Rattle.circus_limits.specs.Limits.{most_modules}
use Rattle.circus_model.specs.Behaviour.{IsModule}
use Rattle.circus_performing.specs.Record.{behaviour}
use Rattle.circus_member_rules.specs.MemberState.{MemberState, Doing}
use Rattle.circus_member_rules.specs.Step.{look_up, difference}
use Rattle.circus_member_rules.specs.Seen.Closing.{closed_by}
use Rattle.circus_member_rules.specs.Happening.{CanHappen}
use Rattle.circus_member_rules.specs.GoneOn.{HasGoneOn}
use Rattle.circus_member_rules.specs.Seen.Sound.{IsRested}
use Rattle.circus_member_rules.proofs.Unsettled.{waited_by}
use Rattle.circus_member.proofs.Stepping.{begun_so, Goes, few_views, ends_so, rests, has_gone_on}
use Rattle.circus_member.proofs.member.Member.step.Goals as goal

pub handle-requires-clause-sound : goal.handle-requires-clause-sound
handle-requires-clause-sound g c = c.self.invariant.rested.sound

pub handle-requires-clause-can : goal.handle-requires-clause-can
handle-requires-clause-can g c =
    subst (λ (m : MemberState g.row.M.Denot). CanHappen (g.M.Module.declared m.performing.hosted) m c.args.occurrence) (sym c.self.view_is) c.requires

pub execute-requires : goal.execute-requires
execute-requires g c = c.in_ok-doing.ensures.sound

pub look_up-requires : goal.look_up-requires
look_up-requires g c =
    let M = g.M.Module in
    let m = c.args.self in
    let lawful : (hosted : g.row.M.Denot) → IsModule (behaviour M.declared M.turn M.first hosted) = λ hosted. record { first_is_state = g.met.M.Module.first_is_state hosted; turns_are_lawful = g.met.M.Module.turns_are_lawful hosted } in
    let rest = subst (λ (m : MemberState g.row.M.Denot). IsRested (behaviour M.declared M.turn M.first m.performing.hosted) m) c.self.view_is c.self.invariant.rested in
    let begins : c.self.inside.doing.value ≡ (let d : Doing g.row.M.Denot = record { member = c.args.self; effects = [] } in d) = begun_so c.self.inside.doing.value c.args.self c.self.view_is c.self.invariant.made in
    let goes : Goes M.declared M.turn M.first c.args.at c.args.occurrence m c.self.inside.doing.value c.in_ok-doing.doing.value c.in_ok-doing-2.doing.value c.close.new.self c.concern_of-concern.result c.waited-waited.result =
    record { begins = begins; handles = c.in_ok-doing.ensures.kept; sound = c.in_ok-doing.ensures.sound; executes = c.in_ok-doing-2.ensures; concerns = c.concern_of-concern.ensures; waits = c.waited-waited.ensures ∙ ap (λ (d : Doing g.row.M.Denot). waited_by d.member) (c.deref.ensures ∙ begins); closes = c.close.ensures ∙ ap (λ (d : Doing g.row.M.Denot). closed_by c.concern_of-concern.result c.waited-waited.result d) c.deref_mut.ensures.value } in
    subst (λ (d : Doing g.row.M.Denot). length d.member.known.views ≤ most_modules) (sym c.deref_mut-2.ensures.value)
    (few_views M.declared M.turn M.first c.args.at c.args.occurrence m lawful rest c.self.inside.doing.value c.in_ok-doing.doing.value c.in_ok-doing-2.doing.value c.close.new.self c.concern_of-concern.result c.waited-waited.result goes)

pub of-member-requires : goal.of-member-requires
of-member-requires g c =
    let M = g.M.Module in
    let m = c.args.self in
    let lawful : (hosted : g.row.M.Denot) → IsModule (behaviour M.declared M.turn M.first hosted) = λ hosted. record { first_is_state = g.met.M.Module.first_is_state hosted; turns_are_lawful = g.met.M.Module.turns_are_lawful hosted } in
    let rest = subst (λ (m : MemberState g.row.M.Denot). IsRested (behaviour M.declared M.turn M.first m.performing.hosted) m) c.self.view_is c.self.invariant.rested in
    let begins : c.self.inside.doing.value ≡ (let d : Doing g.row.M.Denot = record { member = c.args.self; effects = [] } in d) = begun_so c.self.inside.doing.value c.args.self c.self.view_is c.self.invariant.made in
    let goes : Goes M.declared M.turn M.first c.args.at c.args.occurrence m c.self.inside.doing.value c.in_ok-doing.doing.value c.in_ok-doing-2.doing.value c.close.new.self c.concern_of-concern.result c.waited-waited.result =
    record { begins = begins; handles = c.in_ok-doing.ensures.kept; sound = c.in_ok-doing.ensures.sound; executes = c.in_ok-doing-2.ensures; concerns = c.concern_of-concern.ensures; waits = c.waited-waited.ensures ∙ ap (λ (d : Doing g.row.M.Denot). waited_by d.member) (c.deref.ensures ∙ begins); closes = c.close.ensures ∙ ap (λ (d : Doing g.row.M.Denot). closed_by c.concern_of-concern.result c.waited-waited.result d) c.deref_mut.ensures.value } in
    rests M.declared M.turn M.first c.args.at c.args.occurrence m lawful rest c.self.inside.doing.value c.in_ok-doing.doing.value c.in_ok-doing-2.doing.value c.close.new.self c.concern_of-concern.result c.waited-waited.result goes c.look_up.new.self (c.in_ok-look_up.ensures ∙ ap (λ (d : Doing g.row.M.Denot). look_up d) c.deref_mut-2.ensures.value)

pub returns-clause-member : goal.returns-clause-member
returns-clause-member g c =
    let M = g.M.Module in
    let m = c.args.self in
    let lawful : (hosted : g.row.M.Denot) → IsModule (behaviour M.declared M.turn M.first hosted) = λ hosted. record { first_is_state = g.met.M.Module.first_is_state hosted; turns_are_lawful = g.met.M.Module.turns_are_lawful hosted } in
    let rest = subst (λ (m : MemberState g.row.M.Denot). IsRested (behaviour M.declared M.turn M.first m.performing.hosted) m) c.self.view_is c.self.invariant.rested in
    let begins : c.self.inside.doing.value ≡ (let d : Doing g.row.M.Denot = record { member = c.args.self; effects = [] } in d) = begun_so c.self.inside.doing.value c.args.self c.self.view_is c.self.invariant.made in
    let goes : Goes M.declared M.turn M.first c.args.at c.args.occurrence m c.self.inside.doing.value c.in_ok-doing.doing.value c.in_ok-doing-2.doing.value c.close.new.self c.concern_of-concern.result c.waited-waited.result =
    record { begins = begins; handles = c.in_ok-doing.ensures.kept; sound = c.in_ok-doing.ensures.sound; executes = c.in_ok-doing-2.ensures; concerns = c.concern_of-concern.ensures; waits = c.waited-waited.ensures ∙ ap (λ (d : Doing g.row.M.Denot). waited_by d.member) (c.deref.ensures ∙ begins); closes = c.close.ensures ∙ ap (λ (d : Doing g.row.M.Denot). closed_by c.concern_of-concern.result c.waited-waited.result d) c.deref_mut.ensures.value } in
    c.of-member.ensures.member ∙ ap (λ (d : Doing g.row.M.Denot). d.member) (ends_so M.declared M.turn M.first c.args.at c.args.occurrence m lawful rest c.self.inside.doing.value c.in_ok-doing.doing.value c.in_ok-doing-2.doing.value c.close.new.self c.concern_of-concern.result c.waited-waited.result goes c.look_up.new.self (c.in_ok-look_up.ensures ∙ ap (λ (d : Doing g.row.M.Denot). look_up d) c.deref_mut-2.ensures.value))

pub returns-clause-effects : goal.returns-clause-effects
returns-clause-effects g c =
    let M = g.M.Module in
    let m = c.args.self in
    let lawful : (hosted : g.row.M.Denot) → IsModule (behaviour M.declared M.turn M.first hosted) = λ hosted. record { first_is_state = g.met.M.Module.first_is_state hosted; turns_are_lawful = g.met.M.Module.turns_are_lawful hosted } in
    let rest = subst (λ (m : MemberState g.row.M.Denot). IsRested (behaviour M.declared M.turn M.first m.performing.hosted) m) c.self.view_is c.self.invariant.rested in
    let begins : c.self.inside.doing.value ≡ (let d : Doing g.row.M.Denot = record { member = c.args.self; effects = [] } in d) = begun_so c.self.inside.doing.value c.args.self c.self.view_is c.self.invariant.made in
    let goes : Goes M.declared M.turn M.first c.args.at c.args.occurrence m c.self.inside.doing.value c.in_ok-doing.doing.value c.in_ok-doing-2.doing.value c.close.new.self c.concern_of-concern.result c.waited-waited.result =
    record { begins = begins; handles = c.in_ok-doing.ensures.kept; sound = c.in_ok-doing.ensures.sound; executes = c.in_ok-doing-2.ensures; concerns = c.concern_of-concern.ensures; waits = c.waited-waited.ensures ∙ ap (λ (d : Doing g.row.M.Denot). waited_by d.member) (c.deref.ensures ∙ begins); closes = c.close.ensures ∙ ap (λ (d : Doing g.row.M.Denot). closed_by c.concern_of-concern.result c.waited-waited.result d) c.deref_mut.ensures.value } in
    c.of-member.ensures.effects ∙ ap (λ (d : Doing g.row.M.Denot). d.effects) (ends_so M.declared M.turn M.first c.args.at c.args.occurrence m lawful rest c.self.inside.doing.value c.in_ok-doing.doing.value c.in_ok-doing-2.doing.value c.close.new.self c.concern_of-concern.result c.waited-waited.result goes c.look_up.new.self (c.in_ok-look_up.ensures ∙ ap (λ (d : Doing g.row.M.Denot). look_up d) c.deref_mut-2.ensures.value))

pub returns-clause-rest : goal.returns-clause-rest
returns-clause-rest g c =
    let M = g.M.Module in
    let m = c.args.self in
    let lawful : (hosted : g.row.M.Denot) → IsModule (behaviour M.declared M.turn M.first hosted) = λ hosted. record { first_is_state = g.met.M.Module.first_is_state hosted; turns_are_lawful = g.met.M.Module.turns_are_lawful hosted } in
    let rest = subst (λ (m : MemberState g.row.M.Denot). IsRested (behaviour M.declared M.turn M.first m.performing.hosted) m) c.self.view_is c.self.invariant.rested in
    let begins : c.self.inside.doing.value ≡ (let d : Doing g.row.M.Denot = record { member = c.args.self; effects = [] } in d) = begun_so c.self.inside.doing.value c.args.self c.self.view_is c.self.invariant.made in
    let goes : Goes M.declared M.turn M.first c.args.at c.args.occurrence m c.self.inside.doing.value c.in_ok-doing.doing.value c.in_ok-doing-2.doing.value c.close.new.self c.concern_of-concern.result c.waited-waited.result =
    record { begins = begins; handles = c.in_ok-doing.ensures.kept; sound = c.in_ok-doing.ensures.sound; executes = c.in_ok-doing-2.ensures; concerns = c.concern_of-concern.ensures; waits = c.waited-waited.ensures ∙ ap (λ (d : Doing g.row.M.Denot). waited_by d.member) (c.deref.ensures ∙ begins); closes = c.close.ensures ∙ ap (λ (d : Doing g.row.M.Denot). closed_by c.concern_of-concern.result c.waited-waited.result d) c.deref_mut.ensures.value } in
    subst HasGoneOn (sym c.of-member.ensures.member) (has_gone_on M.declared M.turn M.first c.args.at c.args.occurrence m lawful rest c.self.inside.doing.value c.in_ok-doing.doing.value c.in_ok-doing-2.doing.value c.close.new.self c.concern_of-concern.result c.waited-waited.result goes c.look_up.new.self (c.in_ok-look_up.ensures ∙ ap (λ (d : Doing g.row.M.Denot). look_up d) c.deref_mut-2.ensures.value))

pub returns-clause-differences : goal.returns-clause-differences
returns-clause-differences g c =
    c.in_ok-differences.ensures
    ∙ ap (λ told. option_to_list told) (c.in_ok-doing.ensures.told ∙ ap (λ (m : MemberState g.row.M.Denot). difference c.args.occurrence m) c.self.view_is)
