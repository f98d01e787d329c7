use Rattle.std.proofs.Common.{◌≡◌, Some, sym, subst, ap, ◌∙◌}
use Rattle.std.specs.Prelude.{IfOk}
use Rattle.std.specs.Option.{option_map_or}
use Rattle.circus_member_rules.specs.MemberState.{Doing}
use Rattle.circus_member_rules.specs.Step.{value_of_open, answered_by}
use Rattle.circus_member.proofs.doing.Doing.answer_open.Goals as goal

pub answer_boxed-requires-clause-value : goal.answer_boxed-requires-clause-value
answer_boxed-requires-clause-value g c =
    subst (λ (d : Doing g.row.M.Denot). value_of_open d.member ≡ Some c.in-Some.reply) c.deref.ensures (sym c.in_ok-reply.ensures ∙ c.in-Some.is)

pub returns-in-Some : goal.returns-in-Some
returns-in-Some g c =
    let d = c.args.doing.value in
    let valued = sym (ap (λ (e : Doing g.row.M.Denot). value_of_open e.member) c.deref.ensures) ∙ sym c.in_ok-reply.ensures ∙ c.in-Some.is in
    let is = ap (λ o. option_map_or (answered_by g.M.Module.turn c.args.at d) o d) valued in
    subst (λ x. IfOk c.answer_boxed.result (λ e. e.value ≡ x)) (sym is) c.answer_boxed.ensures

pub returns-in-None : goal.returns-in-None
returns-in-None g c =
    let d = c.args.doing.value in
    let valued = sym (ap (λ (e : Doing g.row.M.Denot). value_of_open e.member) c.deref.ensures) ∙ sym c.in_ok-reply.ensures ∙ c.in-None.is in
    sym (ap (λ o. option_map_or (answered_by g.M.Module.turn c.args.at d) o d) valued)
