use Rattle.std.proofs.Common.{true≢false, ap, sym, subst, ◌∙◌, ◌++◌}
use Rattle.std.specs.Prelude.{is_some, option_to_list, IsSome}
use Rattle.circus_model.specs.Behaviour.{IsModule}
use Rattle.circus_performing.specs.Performing.{answer_open_ask}
use Rattle.circus_performing.specs.Acts.{CanAnswer}
use Rattle.circus_performing.specs.Record.{behaviour}
use Rattle.circus_performing.specs.Seen.UnderWay.{IsMember}
use Rattle.circus_performing.proofs.Members.{answering, runs_wait, something_waits, resumes, answers_next, answers_gives, answers_kept, result_for, performer_of}
use Rattle.circus_performing.proofs.performer.Performer.answer.Goals as goal

pub unreachable-requires : goal.unreachable-requires
unreachable-requires g c =
    let i = c.deref_mut-inside.result.now in
    let was = subst (λ h. IsMember (g.M.Module.stands h.hosted) (behaviour g.M.Module.declared g.M.Module.turn g.M.Module.first h.hosted) h.began h.kept h.paused) (sym c.deref_mut-inside.ensures.value) c.self.invariant in
    let own = ap (λ h. performer_of h) c.deref_mut-inside.ensures.value ∙ c.self.view_is in
    let S = g.M.Module.stands i.hosted in
    let b = behaviour g.M.Module.declared g.M.Module.turn g.M.Module.first i.hosted in
    let lawful : IsModule b = record { first_is_state = g.met.M.Module.first_is_state i.hosted; turns_are_lawful = g.met.M.Module.turns_are_lawful i.hosted } in
    let can = subst (λ p. CanAnswer (g.M.Module.declared p.hosted) c.args.reply p.kept) (sym own) c.requires in
    something_waits S b i.began lawful i.kept c.args.reply (subst (λ q. IsMember S b i.began i.kept q) (sym c.take.ensures.value ∙ c.in_default.is) was) can

pub unreachable-unreachable : goal.unreachable-unreachable
unreachable-unreachable g c = c.unreachable.result

pub unreachable-requires-in_default-pop : goal.unreachable-requires-in_default-pop
unreachable-requires-in_default-pop g c =
    let i = c.deref_mut-inside.result.now in
    let was = subst (λ h. IsMember (g.M.Module.stands h.hosted) (behaviour g.M.Module.declared g.M.Module.turn g.M.Module.first h.hosted) h.began h.kept h.paused) (sym c.deref_mut-inside.ensures.value) c.self.invariant in
    let own = ap (λ h. performer_of h) c.deref_mut-inside.ensures.value ∙ c.self.view_is in
    let S = g.M.Module.stands i.hosted in
    let b = behaviour g.M.Module.declared g.M.Module.turn g.M.Module.first i.hosted in
    let lawful : IsModule b = record { first_is_state = g.met.M.Module.first_is_state i.hosted; turns_are_lawful = g.met.M.Module.turns_are_lawful i.hosted } in
    let can = subst (λ p. CanAnswer (g.M.Module.declared p.hosted) c.args.reply p.kept) (sym own) c.requires in
    let a = answering S b i.began lawful i.kept c.in-Some.paused c.args.reply (subst (λ q. IsMember S b i.began i.kept q) (sym c.take.ensures.value ∙ c.in-Some.is) was) can in
    let some : IsSome c.pop.result = c.pop.ensures.some.1 (runs_wait S b i.began lawful i.kept c.in-Some.paused c.args.reply a) in
    true≢false (sym some ∙ ap is_some c.in_default-pop.is)

pub unreachable-unreachable-in_default-pop : goal.unreachable-unreachable-in_default-pop
unreachable-unreachable-in_default-pop g c = c.unreachable-in_default-pop.result

pub resume-requires : goal.resume-requires
resume-requires g c =
    let i = c.deref_mut-inside.result.now in
    let was = subst (λ h. IsMember (g.M.Module.stands h.hosted) (behaviour g.M.Module.declared g.M.Module.turn g.M.Module.first h.hosted) h.began h.kept h.paused) (sym c.deref_mut-inside.ensures.value) c.self.invariant in
    let own = ap (λ h. performer_of h) c.deref_mut-inside.ensures.value ∙ c.self.view_is in
    let S = g.M.Module.stands i.hosted in
    let b = behaviour g.M.Module.declared g.M.Module.turn g.M.Module.first i.hosted in
    let lawful : IsModule b = record { first_is_state = g.met.M.Module.first_is_state i.hosted; turns_are_lawful = g.met.M.Module.turns_are_lawful i.hosted } in
    let can = subst (λ p. CanAnswer (g.M.Module.declared p.hosted) c.args.reply p.kept) (sym own) c.requires in
    let a = answering S b i.began lawful i.kept c.in-Some.paused c.args.reply (subst (λ q. IsMember S b i.began i.kept q) (sym c.take.ensures.value ∙ c.in-Some.is) was) can in
    resumes S b i.began lawful i.kept c.in-Some.paused c.args.reply a

pub go_on-requires-clause-next : goal.go_on-requires-clause-next
go_on-requires-clause-next g c =
    let i = c.deref_mut-inside.result.now in
    let was = subst (λ h. IsMember (g.M.Module.stands h.hosted) (behaviour g.M.Module.declared g.M.Module.turn g.M.Module.first h.hosted) h.began h.kept h.paused) (sym c.deref_mut-inside.ensures.value) c.self.invariant in
    let own = ap (λ h. performer_of h) c.deref_mut-inside.ensures.value ∙ c.self.view_is in
    let S = g.M.Module.stands i.hosted in
    let b = behaviour g.M.Module.declared g.M.Module.turn g.M.Module.first i.hosted in
    let lawful : IsModule b = record { first_is_state = g.met.M.Module.first_is_state i.hosted; turns_are_lawful = g.met.M.Module.turns_are_lawful i.hosted } in
    let can = subst (λ p. CanAnswer (g.M.Module.declared p.hosted) c.args.reply p.kept) (sym own) c.requires in
    let a = answering S b i.began lawful i.kept c.in-Some.paused c.args.reply (subst (λ q. IsMember S b i.began i.kept q) (sym c.take.ensures.value ∙ c.in-Some.is) was) can in
    let runs_are = c.pop.ensures.taken ∙ ap (λ o. c.pop.new.self ++ option_to_list o) c.in-Some-pop.is in
    let run = c.in_ok-replied_run.field-0 in
    answers_next S b i.began lawful i.kept c.in-Some.paused c.args.reply a c.args.step c.args.clock c.pop.new.self c.in-Some-pop.run' run runs_are c.in_ok-replied_run.ensures

pub go_on-requires-clause-gives : goal.go_on-requires-clause-gives
go_on-requires-clause-gives g c =
    let i = c.deref_mut-inside.result.now in
    let was = subst (λ h. IsMember (g.M.Module.stands h.hosted) (behaviour g.M.Module.declared g.M.Module.turn g.M.Module.first h.hosted) h.began h.kept h.paused) (sym c.deref_mut-inside.ensures.value) c.self.invariant in
    let own = ap (λ h. performer_of h) c.deref_mut-inside.ensures.value ∙ c.self.view_is in
    let S = g.M.Module.stands i.hosted in
    let b = behaviour g.M.Module.declared g.M.Module.turn g.M.Module.first i.hosted in
    let lawful : IsModule b = record { first_is_state = g.met.M.Module.first_is_state i.hosted; turns_are_lawful = g.met.M.Module.turns_are_lawful i.hosted } in
    let can = subst (λ p. CanAnswer (g.M.Module.declared p.hosted) c.args.reply p.kept) (sym own) c.requires in
    let a = answering S b i.began lawful i.kept c.in-Some.paused c.args.reply (subst (λ q. IsMember S b i.began i.kept q) (sym c.take.ensures.value ∙ c.in-Some.is) was) can in
    let runs_are = c.pop.ensures.taken ∙ ap (λ o. c.pop.new.self ++ option_to_list o) c.in-Some-pop.is in
    let run = c.in_ok-replied_run.field-0 in
    answers_gives S b i.began lawful i.kept c.in-Some.paused c.args.reply a c.args.step c.args.clock c.pop.new.self c.in-Some-pop.run' run runs_are c.in_ok-replied_run.ensures c.in_ok-turn.turn c.in_ok-turn.ensures

pub returns : goal.returns
returns g c =
    let i = c.deref_mut-inside.result.now in
    let was = subst (λ h. IsMember (g.M.Module.stands h.hosted) (behaviour g.M.Module.declared g.M.Module.turn g.M.Module.first h.hosted) h.began h.kept h.paused) (sym c.deref_mut-inside.ensures.value) c.self.invariant in
    let own = ap (λ h. performer_of h) c.deref_mut-inside.ensures.value ∙ c.self.view_is in
    let S = g.M.Module.stands i.hosted in
    let b = behaviour g.M.Module.declared g.M.Module.turn g.M.Module.first i.hosted in
    let lawful : IsModule b = record { first_is_state = g.met.M.Module.first_is_state i.hosted; turns_are_lawful = g.met.M.Module.turns_are_lawful i.hosted } in
    let can = subst (λ p. CanAnswer (g.M.Module.declared p.hosted) c.args.reply p.kept) (sym own) c.requires in
    let a = answering S b i.began lawful i.kept c.in-Some.paused c.args.reply (subst (λ q. IsMember S b i.began i.kept q) (sym c.take.ensures.value ∙ c.in-Some.is) was) can in
    let runs_are = c.pop.ensures.taken ∙ ap (λ o. c.pop.new.self ++ option_to_list o) c.in-Some-pop.is in
    let run = c.in_ok-replied_run.field-0 in
    result_for (λ p. answer_open_ask (g.M.Module.turn p.hosted) p.began c.args.step c.args.reply c.args.clock p.kept) c.go_on.result _ c.args.self _ own
    (answers_kept S b i.began lawful i.kept c.in-Some.paused c.args.reply a c.args.step c.args.clock c.pop.new.self c.in-Some-pop.run' run runs_are c.in_ok-replied_run.ensures) c.go_on.ensures
