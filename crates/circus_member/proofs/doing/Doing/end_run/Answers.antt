use Rattle.std.proofs.Common.{◌≡◌, ◌++◌, sym, subst, ap, ◌∙◌, None}
use Rattle.std.proofs.lemmas.Result.{on_ok_weaker}
use Rattle.circus_model.specs.Behaviour.{IsModule}
use Rattle.circus_gather.specs.Gathering.{reply_of}
use Rattle.circus_performing.specs.Performing.{open_ask}
use Rattle.circus_performing.specs.Record.{behaviour}
use Rattle.circus_member_rules.specs.Rules.{index_of_last, answers}
use Rattle.circus_member.specs.Seen.Within.{ended_last}
use Rattle.circus_member_rules.specs.Callable.{IsReply}
use Rattle.circus_member_rules.specs.Seen.Sound.{HasTurned}
use Rattle.circus_member.proofs.Parts.{doing_of}
use Rattle.circus_member.proofs.Opening.{ended_reply, none_ended, ended_so}
use Rattle.circus_member.proofs.doing.Doing.end_run.Goals as goal

pub returns-in_default : goal.returns-in_default
returns-in_default g c =
    let i = c.self.inside in
    let d = doing_of i.member i.effects in
    subst (λ x. x ≡ ended_last x) c.self.view_is (sym (none_ended d (sym c.in_default.ensures)))

pub reply_message-requires-clause-clock : goal.reply_message-requires-clause-clock
reply_message-requires-clause-clock g c =
    let i = c.self.inside in
    let d = doing_of i.member i.effects in
    let b = behaviour g.M.Module.declared g.M.Module.turn g.M.Module.first i.member.performer.hosted in
    let lawful : IsModule b = record { first_is_state = g.met.M.Module.first_is_state i.member.performer.hosted; turns_are_lawful = g.met.M.Module.turns_are_lawful i.member.performer.hosted } in
    let turned = subst (λ x. HasTurned (behaviour g.M.Module.declared g.M.Module.turn g.M.Module.first x.member.performing.hosted) x.member) (sym c.self.view_is) c.requires.turned in
    let ended = subst (λ x. open_ask x.member.performing.kept ≡ None) (sym c.self.view_is) c.requires.ended in
    let reply = ended_reply b lawful d.member turned c.record.ensures.kept c.in-Some.last.now (sym c.in-Some.ensures) ended in
    let is = subst IsReply (sym c.in_ok-reply.ensures) reply in
    is.clock

pub reply_message-requires-clause-outcome : goal.reply_message-requires-clause-outcome
reply_message-requires-clause-outcome g c =
    let i = c.self.inside in
    let d = doing_of i.member i.effects in
    let b = behaviour g.M.Module.declared g.M.Module.turn g.M.Module.first i.member.performer.hosted in
    let lawful : IsModule b = record { first_is_state = g.met.M.Module.first_is_state i.member.performer.hosted; turns_are_lawful = g.met.M.Module.turns_are_lawful i.member.performer.hosted } in
    let turned = subst (λ x. HasTurned (behaviour g.M.Module.declared g.M.Module.turn g.M.Module.first x.member.performing.hosted) x.member) (sym c.self.view_is) c.requires.turned in
    let ended = subst (λ x. open_ask x.member.performing.kept ≡ None) (sym c.self.view_is) c.requires.ended in
    let reply = ended_reply b lawful d.member turned c.record.ensures.kept c.in-Some.last.now (sym c.in-Some.ensures) ended in
    let is = subst IsReply (sym c.in_ok-reply.ensures) reply in
    is.outcome

pub finish-requires : goal.finish-requires
finish-requires g c =
    let i = c.self.inside in
    let turned = subst (λ x. HasTurned (behaviour g.M.Module.declared g.M.Module.turn g.M.Module.first x.member.performing.hosted) x.member) (sym c.self.view_is) c.requires.turned in
    let index = c.index_of_last-index.ensures ∙ ap index_of_last c.record.ensures.value in
    subst (λ n. reply_of i.member.gather n ≡ None) (sym index) turned.fresh

pub returns : goal.returns
returns g c =
    let i = c.self.inside in
    let d = doing_of i.member i.effects in
    let index = c.index_of_last-index.ensures ∙ ap index_of_last c.record.ensures.value in
    on_ok_weaker c.answer_all.result
    (λ made.
    ended_so d c.in-Some.last.now c.index_of_last-index.result c.in_ok-reply.reply c.finish.new.self c.in_ok-callers.callers c.answer_all.new.effects
    (sym c.in-Some.ensures) index c.in_ok-reply.ensures c.in_ok-callers.ensures.kept c.in_ok-callers.ensures.callers
    (made ∙ ap (λ m. i.effects ++ answers m c.in_ok-callers.callers) c.in_ok-message.ensures)
    ∙ ap ended_last c.self.view_is)
    c.answer_all.ensures
