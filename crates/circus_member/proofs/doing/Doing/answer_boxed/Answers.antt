use Rattle.std.proofs.Common.{◌≡◌, Some, sym, subst, ap, ◌∙◌}
use Rattle.std.specs.Prelude.{IfOk}
use Rattle.circus_performing.specs.Record.{behaviour}
use Rattle.circus_member_rules.specs.MemberState.{Doing}
use Rattle.circus_member_rules.specs.Step.{value_of_open, answered_by}
use Rattle.circus_member_rules.specs.Seen.Sound.{IsSound}
use Rattle.circus_member.proofs.doing.Doing.answer_boxed.Goals as goal

pub answer-requires-clause-sound : goal.answer-requires-clause-sound
answer-requires-clause-sound g c =
    subst (λ (d : Doing g.row.M.Denot). IsSound (behaviour g.M.Module.declared g.M.Module.turn g.M.Module.first d.member.performing.hosted) d.member) (sym c.into_inner.ensures) c.requires.sound

pub answer-requires-clause-value : goal.answer-requires-clause-value
answer-requires-clause-value g c =
    subst (λ (d : Doing g.row.M.Denot). value_of_open d.member ≡ Some c.args.reply) (sym c.into_inner.ensures) c.requires.value

pub returns : goal.returns
returns g c =
    subst (λ x. IfOk c.into_box.result (λ e. e.value ≡ x)) (c.in_ok-answer.ensures ∙ ap (λ (e : Doing g.row.M.Denot). answered_by g.M.Module.turn c.args.at e c.args.reply) c.into_inner.ensures) c.into_box.ensures
