use Rattle.std.proofs.Common.{[], sym, subst, ◌∙◌, ap}
use Rattle.circus_model.specs.Behaviour.{IsModule}
use Rattle.circus_model.specs.Lawful.{CanStart}
use Rattle.circus_model.specs.Gives.{Gives}
use Rattle.circus_record.specs.declared.record.RunRecord.{RunRecord}
use Rattle.circus_performing.specs.Performing.{state_after, replies_of, begin_run, enter_run}
use Rattle.circus_performing.specs.Acts.{CanEnter}
use Rattle.circus_performing.specs.Record.{behaviour}
use Rattle.circus_performing.specs.Seen.UnderWay.{IsMember, IsNext}
use Rattle.circus_performing.proofs.Members.{enters, enters_kept, next_in, result_for, performer_of}
use Rattle.circus_performing.proofs.performer.Performer.enter.Goals as goal

pub start-requires : goal.start-requires
start-requires g c =
    let i = c.deref_mut-inside.result.now in
    let was = subst (λ h. IsMember (g.M.Module.stands h.hosted) (behaviour g.M.Module.declared g.M.Module.turn g.M.Module.first h.hosted) h.began h.kept h.paused) (sym c.deref_mut-inside.ensures.value) c.self.invariant in
    let own = ap (λ h. performer_of h) c.deref_mut-inside.ensures.value ∙ c.self.view_is in
    let b = behaviour g.M.Module.declared g.M.Module.turn g.M.Module.first i.hosted in
    let lawful : IsModule b = record { first_is_state = g.met.M.Module.first_is_state i.hosted; turns_are_lawful = g.met.M.Module.turns_are_lawful i.hosted } in
    let can = subst (λ p. CanEnter (g.M.Module.declared p.hosted) c.args.start p.kept) (sym own) c.requires in
    let way = enters (g.M.Module.stands i.hosted) b i.began lawful i.kept i.paused c.args.step c.args.start was can in
    subst (λ s. CanStart b.declared s c.args.start.procedure c.args.start.arguments) (sym way.0.state ∙ sym c.replace-state.ensures.value) way.1.under_way.made.may_start

pub go_on-requires-clause-next : goal.go_on-requires-clause-next
go_on-requires-clause-next g c =
    let i = c.deref_mut-inside.result.now in
    let was = subst (λ h. IsMember (g.M.Module.stands h.hosted) (behaviour g.M.Module.declared g.M.Module.turn g.M.Module.first h.hosted) h.began h.kept h.paused) (sym c.deref_mut-inside.ensures.value) c.self.invariant in
    let own = ap (λ h. performer_of h) c.deref_mut-inside.ensures.value ∙ c.self.view_is in
    let b = behaviour g.M.Module.declared g.M.Module.turn g.M.Module.first i.hosted in
    let lawful : IsModule b = record { first_is_state = g.met.M.Module.first_is_state i.hosted; turns_are_lawful = g.met.M.Module.turns_are_lawful i.hosted } in
    let can = subst (λ p. CanEnter (g.M.Module.declared p.hosted) c.args.start p.kept) (sym own) c.requires in
    let way = enters (g.M.Module.stands i.hosted) b i.began lawful i.kept i.paused c.args.step c.args.start was can in
    subst (IsNext b i.began (record i.kept { state = c.replace-state.new.dest }) c.args.step) (sym c.begin_run.ensures)
    (next_in (g.M.Module.stands i.hosted) b i.began i.kept c.args.step (begin_run c.args.step c.args.start) c.replace-state.new.dest way.1)

pub go_on-requires-clause-gives : goal.go_on-requires-clause-gives
go_on-requires-clause-gives g c =
    let i = c.deref_mut-inside.result.now in
    let was = subst (λ h. IsMember (g.M.Module.stands h.hosted) (behaviour g.M.Module.declared g.M.Module.turn g.M.Module.first h.hosted) h.began h.kept h.paused) (sym c.deref_mut-inside.ensures.value) c.self.invariant in
    let own = ap (λ h. performer_of h) c.deref_mut-inside.ensures.value ∙ c.self.view_is in
    let S = g.M.Module.stands i.hosted in
    let b = behaviour g.M.Module.declared g.M.Module.turn g.M.Module.first i.hosted in
    let lawful : IsModule b = record { first_is_state = g.met.M.Module.first_is_state i.hosted; turns_are_lawful = g.met.M.Module.turns_are_lawful i.hosted } in
    let can = subst (λ p. CanEnter (g.M.Module.declared p.hosted) c.args.start p.kept) (sym own) c.requires in
    let way = enters S b i.began lawful i.kept i.paused c.args.step c.args.start was can in
    let state = state_after i.began i.kept.runs in
    subst (λ (r : RunRecord). Gives (λ paused. S paused state r.procedure r.arguments (replies_of r.asks)) (b.turn state r.procedure r.arguments (replies_of r.asks)) c.in_ok-turn.turn) (sym c.begin_run.ensures)
    (subst (λ s. Gives (λ paused. S paused s c.args.start.procedure c.args.start.arguments []) (b.turn s c.args.start.procedure c.args.start.arguments []) c.in_ok-turn.turn) (c.replace-state.ensures.value ∙ way.0.state) c.in_ok-turn.ensures)

pub returns : goal.returns
returns g c =
    let i = c.deref_mut-inside.result.now in
    let was = subst (λ h. IsMember (g.M.Module.stands h.hosted) (behaviour g.M.Module.declared g.M.Module.turn g.M.Module.first h.hosted) h.began h.kept h.paused) (sym c.deref_mut-inside.ensures.value) c.self.invariant in
    let own = ap (λ h. performer_of h) c.deref_mut-inside.ensures.value ∙ c.self.view_is in
    let b = behaviour g.M.Module.declared g.M.Module.turn g.M.Module.first i.hosted in
    let lawful : IsModule b = record { first_is_state = g.met.M.Module.first_is_state i.hosted; turns_are_lawful = g.met.M.Module.turns_are_lawful i.hosted } in
    let can = subst (λ p. CanEnter (g.M.Module.declared p.hosted) c.args.start p.kept) (sym own) c.requires in
    let way = enters (g.M.Module.stands i.hosted) b i.began lawful i.kept i.paused c.args.step c.args.start was can in
    result_for (λ p. enter_run (g.M.Module.turn p.hosted) c.args.step c.args.start p.kept) c.go_on.result _ c.args.self _ own
    (enters_kept (g.M.Module.stands i.hosted) b i.began lawful i.kept c.args.step c.args.start c.begin_run.result way.0.state c.begin_run.ensures) c.go_on.ensures
