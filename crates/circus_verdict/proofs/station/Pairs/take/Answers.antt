use Rattle.std.proofs.Common.{◌≡◌, sym, subst}
use Rattle.std.proofs.lemmas.Result.{IfOk-weaker}
use Rattle.circus_world_theory.specs.NodeActs.{with_all, came_by}
use Rattle.circus_verdict.specs.Seen.Station.{StandFor, IsOwed, came_to, wire_behind}
use Rattle.circus_verdict.specs.declared.station.Came.{Came}
use Rattle.circus_verdict.proofs.Stationing.{came_owed, came_stand, still_formatted}
use Rattle.circus_verdict.proofs.station.Pairs.take.Goals as goal

pub returns-clause-came : goal.returns-clause-came
returns-clause-came c = λ d node acts stand so.
    let p = c.args.self.now in
    let event = c.args.event.now in
    IfOk-weaker c.bring.result (λ (came : Came). came ≡ came_to p.wire event) (IsOwed d node acts event)
    (λ came is. subst (IsOwed d node acts event) (sym is) (came_owed d node acts p stand event so)) c.bring.ensures.came

pub returns-clause-stand : goal.returns-clause-stand
returns-clause-stand c = λ d node acts stand so.
    let p = c.args.self.now in
    let q = c.bring.new.self in
    let event = c.args.event.now in
    IfOk-weaker c.bring.result (λ (came : Came). q.wire ≡ wire_behind p.wire event) (λ (came : Came). StandFor d node (with_all acts (came_by event)) q)
    (λ came is. came_stand d node acts p stand event so q is) c.bring.ensures.wire

pub returns-clause-format : goal.returns-clause-format
returns-clause-format c = still_formatted c.args.self.now c.bring.new.self c.bring.ensures.format c.bring.ensures.remains
