use Rattle.std.proofs.Common.{◌≡◌, ◌∙◌, true, false, sym, ap, subst}
use Rattle.std.specs.Bool.{Decides}
use Rattle.std.proofs.lemmas.Result.{IfOk-weaker}
use Rattle.circus_performing.specs.Record.{behaviour, IsRecord}
use Rattle.circus_verdict.specs.Seen.Living.{phase_told, EndsSo}
use Rattle.circus_verdict.proofs.Ending.{none_awaiting, none_late, none_in_phase}
use Rattle.circus_verdict.proofs.Lists.{is_nil, not_nil}
use Rattle.circus_verdict.proofs.LivedSteps.{end_of, ends_by}
use Rattle.circus_verdict.proofs.living.Lived.ends_so.Goals as goal

pub returns-then-not-is_empty : goal.returns-then-not-is_empty
returns-then-not-is_empty g c = λ node number troupe events of_ lives.
    let M = g.M.Module in
    let of = c.args.of.now in
    let l = c.args.self.now in
    let b = behaviour M.declared M.turn M.first c.args.module.now in
    none_awaiting of.deployment.now b node number troupe of.kept.now of_.at events l.pairs l.dues l.awaited
    (end_of of.deployment.now of.home.now of.signature.now of.kept.now b node number troupe of_ l events c.requires.ready lives c.requires.apart)
    (not_nil l.awaited c.is_empty.result c.is_empty.ensures c.if-not-is_empty.true)

pub returns-then-not-is_timely : goal.returns-then-not-is_timely
returns-then-not-is_timely g c = λ node number troupe events of_ lives.
    let M = g.M.Module in
    let of = c.args.of.now in
    let l = c.args.self.now in
    let b = behaviour M.declared M.turn M.first c.args.module.now in
    none_late of.deployment.now b node number troupe of.kept.now of_.at events l.pairs l.dues l.awaited
    (end_of of.deployment.now of.home.now of.signature.now of.kept.now b node number troupe of_ l events c.requires.ready lives c.requires.apart)
    (λ q rises so_far all. let clash : false ≡ true = sym c.if-not-is_timely.true ∙ (c.is_timely.ensures.all _ _ _ _ q rises so_far).1 all in cc)

pub returns-then-not-tells_phase : goal.returns-then-not-tells_phase
returns-then-not-tells_phase g c = λ node number troupe events of_ lives.
    let M = g.M.Module in
    let of = c.args.of.now in
    let l = c.args.self.now in
    let b = behaviour M.declared M.turn M.first c.args.module.now in
    none_in_phase of.deployment.now b node number troupe of.kept.now of_.at events l.pairs l.dues l.awaited
    (end_of of.deployment.now of.home.now of.signature.now of.kept.now b node number troupe of_ l events c.requires.ready lives c.requires.apart)
    (λ is. let clash : false ≡ true = sym c.if-not-tells_phase.true ∙ c.tells_phase.ensures.1 (is ∙ ap phase_told (sym c.phase.ensures)) in cc)

pub returns : goal.returns
returns g c = λ node number troupe events of_ lives.
    let M = g.M.Module in
    let of = c.args.of.now in
    let l = c.args.self.now in
    let b = behaviour M.declared M.turn M.first c.args.module.now in
    IfOk-weaker c.follows.result
    (λ follows. Decides follows (IsRecord b c.began.result.now of.kept.now))
    (EndsSo of.deployment.now b node number troupe of.kept.now events l.dues.owing.began)
    (λ follows decides.
    ends_by of.deployment.now of.home.now of.signature.now of.kept.now b node number troupe of_ l events c.requires.ready lives c.requires.apart (is_nil l.awaited c.is_empty.result c.is_empty.ensures c.if-not-is_empty.false)
    (c.tells_phase.ensures.0 c.if-not-tells_phase.false ∙ ap phase_told c.phase.ensures)
    (λ boot phase first entered q rises so_far. (c.is_timely.ensures.all boot phase first entered q rises so_far).0 c.if-not-is_timely.false) follows
    (subst (λ s. Decides follows (IsRecord b s of.kept.now)) c.began.ensures decides))
    c.follows.ensures
