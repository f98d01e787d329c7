use Rattle.std.proofs.Common.{List, ◌++◌, map, sym, subst, ap, ◌∙◌, append_assoc}
use Rattle.std.proofs.lemmas.Result.{on_ok_weaker}
use Rattle.circus_member_rules.specs.declared.occurrence.Effect.{Effect}
use Rattle.circus_member_rules.specs.Rules.{state_request}
use Rattle.circus_dues.specs.Seen.Parts.{MayCallFor, calls_by_table}
use Rattle.circus_dues.proofs.Calling.{may_by_table, states_asked}
use Rattle.circus_dues.proofs.calls_out.CallsOut.take_table.Goals as goal

pub returns-clause-made : goal.returns-clause-made
returns-clause-made c =
    let o = c.args.self.now in
    let place = c.args.place.now in
    let request = c.args.request in
    let view = c.args.table.view in
    let before = c.args.effects.now in
    let calls = calls_by_table o request view in
    let asked = states_asked place c.args.taken_in o.known request view c.as_slice.result.now (c.as_slice.ensures ∙ c.in_ok-nodes.ensures) in
    let states = map (state_request place.troupe view.incarnation) c.as_slice.result.now in
    on_ok_weaker c.ask_for_states.result
    (λ made. made
    ∙ ap (λ (effects : List Effect). effects ++ states) c.in_ok-know.ensures.made
    ∙ append_assoc before calls states
    ∙ ap (λ (asks : List Effect). before ++ (calls ++ asks)) asked)
    c.ask_for_states.ensures

pub returns-clause-may : goal.returns-clause-may
returns-clause-may c =
    on_ok_weaker c.ask_for_states.result
    (λ made. subst (MayCallFor c.args.place.now) (sym c.in_ok-know.ensures.kept)
    (may_by_table c.args.place.now c.args.self.now c.args.request c.args.table.view c.requires.view c.requires.may))
    c.ask_for_states.ensures
