use Rattle.std.proofs.Common.{◌≡◌, sym, subst, ap, ◌∙◌, Some}
use Rattle.circus_model.specs.Behaviour.{IsModule}
use Rattle.circus_performing.specs.Record.{behaviour}
use Rattle.circus_member_rules.specs.Step.{value_of_open, after_turns, answered_by}
use Rattle.circus_member_rules.specs.Seen.Sound.{IsSound, HasTurned}
use Rattle.circus_member.specs.Seen.Parts.{member_of}
use Rattle.circus_member.proofs.Parts.{doing_of}
use Rattle.circus_member_rules.proofs.Turned.{has_turned}
use Rattle.circus_member_rules.proofs.Entering.{has_value, can_answer, with_answered, turned_by_reply}
use Rattle.circus_member.proofs.doing.Doing.answer.Goals as goal

pub answer-requires : goal.answer-requires
answer-requires g c =
    let i = c.self.inside in
    let d = doing_of i.member i.effects in
    let b = behaviour g.M.Module.declared g.M.Module.turn g.M.Module.first i.member.performer.hosted in
    let sound = subst (λ x. IsSound (behaviour g.M.Module.declared g.M.Module.turn g.M.Module.first x.member.performing.hosted) x.member) (sym c.self.view_is) c.requires.sound in
    let value = subst (λ x. value_of_open x.member ≡ Some c.args.reply) (sym c.self.view_is) c.requires.value in
    can_answer b d.member c.args.reply sound (has_value b d.member c.args.reply sound value)

pub after_turns-requires : goal.after_turns-requires
after_turns-requires g c =
    let i = c.self.inside in
    let d = doing_of i.member i.effects in
    let b = behaviour g.M.Module.declared g.M.Module.turn g.M.Module.first i.member.performer.hosted in
    let lawful : IsModule b = record { first_is_state = g.met.M.Module.first_is_state i.member.performer.hosted; turns_are_lawful = g.met.M.Module.turns_are_lawful i.member.performer.hosted } in
    let sound = subst (λ x. IsSound (behaviour g.M.Module.declared g.M.Module.turn g.M.Module.first x.member.performing.hosted) x.member) (sym c.self.view_is) c.requires.sound in
    let value = subst (λ x. value_of_open x.member ≡ Some c.args.reply) (sym c.self.view_is) c.requires.value in
    let turned = turned_by_reply b lawful d.member c.args.at c.args.reply sound (has_value b d.member c.args.reply sound value) in
    subst (λ m. HasTurned (behaviour g.M.Module.declared g.M.Module.turn g.M.Module.first m.performer.hosted) (member_of m)) (sym c.in_ok-self-inside.ensures)
    (has_turned b (with_answered b lawful d.member c.args.at c.args.reply) turned)

pub returns : goal.returns
returns g c =
    let i = c.self.inside in
    c.in_ok-after_turns.ensures
    ∙ ap (λ m. after_turns (doing_of m i.effects)) c.in_ok-self-inside.ensures
    ∙ ap (λ x. answered_by g.M.Module.turn c.args.at x c.args.reply) c.self.view_is
