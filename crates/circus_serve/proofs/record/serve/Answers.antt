use Rattle.std.proofs.Common.{◌≡◌, ◌∙◌, [], ◌∷◌, ap, sym, subst, arith, Err, Result}
use Rattle.std.proofs.lemmas.Result.{err_from_is_err_and}
use Rattle.circus_outside.specs.Link.{LinkCounts}
use Rattle.circus_outside.specs.Told.{told_more}
use Rattle.circus_outside.specs.declared.link.TakenFrom.{TakenFrom}
use Rattle.circus_node.specs.Node.{IsNodeOf}
use Rattle.circus_serve.specs.declared.fault.ServeFault.{ServeFault}
use Rattle.circus_serve.specs.Outside.{Tells, tells_of}
use Rattle.circus_serve.specs.Seen.Faults.{of_link}
use Rattle.circus_serve.specs.declared.serving.Serving.{Serving}
use Rattle.circus_serve.specs.Recorded.{Recorded}
use Rattle.circus_serve.specs.Answers.{IsAnswer}
use Rattle.circus_serve.proofs.ServedLemmas.{bind_faulted, boot_faulted, boot_served, take_faulted, turn_faulted, turn_served, HasServed, all_served, rose_by, rose_then, not_failed}
use Rattle.circus_serve.proofs.SuspectLemmas.{own_node}
use Rattle.circus_serve.proofs.record.serve.Goals as goal

pub returns-in_err-bind : goal.returns-in_err-bind
returns-in_err-bind g c =
    let M = g.M.Module in
    let L = g.L.Link in
    let d = c.args.deployment.now in
    let old : Tells = tells_of (L.bound c.args.link.now) (L.taken c.args.link.now) (L.given c.args.link.now) in
    let new : Tells = tells_of (L.bound c.bind.new.self) (L.taken c.bind.new.self) (L.given c.bind.new.self) in
    let r : Result (Recorded g.row.M.Denot) ServeFault = c.from_residual.result in
    let p = err_from_is_err_and c.from_residual.result c.from_residual.ensures.1 in
    let f = c.in_err-bind.field-0.0 in
    let is : r ≡ Err (of_link f) = p.1 ∙ ap Err p.2 in
    record {
      served = subst (λ x. IsAnswer M.declared M.turn d c.args.node c.args.core c.args.gives c.args.turns old new x) (sym is)
          (bind_faulted M.declared M.turn d c.args.node c.args.core c.args.gives c.args.turns old new f c.port_of.result c.port_of.ensures c.in_err-bind.ensures.bound c.in_err-bind.ensures.taken
          c.in_err-bind.ensures.given);
      rose = rose_by (Unit {0}) r f (L.faults c.args.link.now) (L.faults c.bind.new.self) is c.in_err-bind.ensures.counts;
    }

pub begin-requires : goal.begin-requires
begin-requires g c = own_node c.args.deployment.now c.args.node c.args.core c.requires.node

pub returns-in_err-serving : goal.returns-in_err-serving
returns-in_err-serving g c =
    let M = g.M.Module in
    let L = g.L.Link in
    let d = c.args.deployment.now in
    let old : Tells = tells_of (L.bound c.args.link.now) (L.taken c.args.link.now) (L.given c.args.link.now) in
    let mid : Tells = tells_of (L.bound c.bind.new.self) (L.taken c.bind.new.self) (L.given c.bind.new.self) in
    let new : Tells = tells_of (L.bound c.begin.new.link) (L.taken c.begin.new.link) (L.given c.begin.new.link) in
    let r : Result (Recorded g.row.M.Denot) ServeFault = c.from_residual-in_err-serving.result in
    let p = err_from_is_err_and c.from_residual-in_err-serving.result c.from_residual-in_err-serving.ensures.1 in
    let f = c.in_err-serving.field-0.0 in
    let is : r ≡ Err f = p.1 ∙ ap Err p.2 in
    let bound = c.in_ok-bind.ensures.bound ∙ ap (λ port. told_more (L.bound c.args.link.now) (port ∷ [])) c.port_of.ensures in
    record {
      served = subst (λ x. IsAnswer M.declared M.turn d c.args.node c.args.core c.args.gives c.args.turns old new x) (sym is)
          (boot_faulted M.declared M.turn d c.args.node c.args.core c.args.gives {P = g.row.M-Paused.Denot} c.args.turns old mid new f bound c.in_ok-bind.ensures.taken c.in_ok-bind.ensures.given
          c.in_err-serving.ensures.gone);
      rose = rose_then (Serving g.row.M.Denot g.row.M-Paused.Denot) r f (L.faults c.args.link.now) (L.faults c.bind.new.self) (L.faults c.begin.new.link) is c.in_ok-bind.ensures.counts
          c.in_err-serving.ensures.counts;
    }

pub loop-turn-init : goal.loop-turn-init
loop-turn-init g c =
    let M = g.M.Module in
    let L = g.L.Link in
    let d = c.args.deployment.now in
    let old : Tells = tells_of (L.bound c.args.link.now) (L.taken c.args.link.now) (L.given c.args.link.now) in
    let mid : Tells = tells_of (L.bound c.bind.new.self) (L.taken c.bind.new.self) (L.given c.bind.new.self) in
    let new : Tells = tells_of (L.bound c.begin.new.link) (L.taken c.begin.new.link) (L.given c.begin.new.link) in
    let bound = c.in_ok-bind.ensures.bound ∙ ap (λ port. told_more (L.bound c.args.link.now) (port ∷ [])) c.port_of.ensures in
    record {
      node = subst (λ k. IsNodeOf d k c.in_ok-serving.serving.core) c.requires.node.own c.in_ok-serving.ensures.node;
      served = boot_served M.declared M.turn d c.args.node c.args.core c.args.gives old mid new c.in_ok-serving.serving bound c.in_ok-bind.ensures.taken c.in_ok-bind.ensures.given
          c.in_ok-serving.ensures.gone;
      counts = c.in_ok-serving.ensures.counts ∙ c.in_ok-bind.ensures.counts;
    }

pub returns-in_err-taken : goal.returns-in_err-taken
returns-in_err-taken g c =
    let M = g.M.Module in
    let L = g.L.Link in
    let d = c.args.deployment.now in
    let old : Tells = tells_of (L.bound c.args.link.now) (L.taken c.args.link.now) (L.given c.args.link.now) in
    let mid : Tells = tells_of (L.bound c.loop-turn.link) (L.taken c.loop-turn.link) (L.given c.loop-turn.link) in
    let new : Tells = tells_of (L.bound c.take.new.self) (L.taken c.take.new.self) (L.given c.take.new.self) in
    let r : Result (Recorded g.row.M.Denot) ServeFault = c.from_residual-in_err-taken.result in
    let p = err_from_is_err_and c.from_residual-in_err-taken.result c.from_residual-in_err-taken.ensures.1 in
    let f = c.in_err-taken.field-0.0 in
    let is : r ≡ Err (of_link f) = p.1 ∙ ap Err p.2 in
    record {
      served = subst (λ x. IsAnswer M.declared M.turn d c.args.node c.args.core c.args.gives c.args.turns old new x) (sym is)
          (take_faulted M.declared M.turn d c.args.node c.args.core c.args.gives c.args.turns old mid new c.loop-turn._turn c.loop-turn.serving f c.loop-turn.invariant.served c.loop-turn-test.true
          c.in_err-taken.ensures.bound c.in_err-taken.ensures.taken c.in_err-taken.ensures.given);
      rose = rose_by TakenFrom r f (L.faults c.args.link.now) (L.faults c.take.new.self) is
          (subst (λ count. LinkCounts {A = TakenFrom} (Err f) count (L.faults c.take.new.self)) c.loop-turn.invariant.counts c.in_err-taken.ensures.counts);
    }

pub take-requires-in-loop-turn-clause-deployment : goal.take-requires-in-loop-turn-clause-deployment
take-requires-in-loop-turn-clause-deployment g c = c.requires.deployment

pub take-requires-in-loop-turn-clause-node : goal.take-requires-in-loop-turn-clause-node
take-requires-in-loop-turn-clause-node g c = c.loop-turn.invariant.node

pub returns-in_err-serving-2 : goal.returns-in_err-serving-2
returns-in_err-serving-2 g c =
    let M = g.M.Module in
    let L = g.L.Link in
    let d = c.args.deployment.now in
    let old : Tells = tells_of (L.bound c.args.link.now) (L.taken c.args.link.now) (L.given c.args.link.now) in
    let mid : Tells = tells_of (L.bound c.loop-turn.link) (L.taken c.loop-turn.link) (L.given c.loop-turn.link) in
    let between : Tells = tells_of (L.bound c.take.new.self) (L.taken c.take.new.self) (L.given c.take.new.self) in
    let new : Tells = tells_of (L.bound c.take-in-loop-turn.new.link) (L.taken c.take-in-loop-turn.new.link) (L.given c.take-in-loop-turn.new.link) in
    let r : Result (Recorded g.row.M.Denot) ServeFault = c.from_residual-in_err-serving-2.result in
    let p = err_from_is_err_and c.from_residual-in_err-serving-2.result c.from_residual-in_err-serving-2.ensures.1 in
    let f = c.in_err-serving-2.field-0.0 in
    let is : r ≡ Err f = p.1 ∙ ap Err p.2 in
    record {
      served = subst (λ x. IsAnswer M.declared M.turn d c.args.node c.args.core c.args.gives c.args.turns old new x) (sym is)
          (turn_faulted M.declared M.turn d c.args.node c.args.core c.args.gives c.args.turns old mid between new c.loop-turn._turn c.loop-turn.serving c.in_ok-taken.taken f c.loop-turn.invariant.served
          c.loop-turn-test.true c.in_ok-taken.ensures.bound c.in_ok-taken.ensures.taken c.in_ok-taken.ensures.given c.in_err-serving-2.ensures.gone);
      rose = rose_then (Serving g.row.M.Denot g.row.M-Paused.Denot) r f (L.faults c.args.link.now) (L.faults c.take.new.self) (L.faults c.take-in-loop-turn.new.link) is
          (c.in_ok-taken.ensures.counts ∙ c.loop-turn.invariant.counts) c.in_err-serving-2.ensures.counts;
    }

pub loop-turn-preserved : goal.loop-turn-preserved
loop-turn-preserved g c =
    let M = g.M.Module in
    let L = g.L.Link in
    let d = c.args.deployment.now in
    let old : Tells = tells_of (L.bound c.args.link.now) (L.taken c.args.link.now) (L.given c.args.link.now) in
    let mid : Tells = tells_of (L.bound c.loop-turn.link) (L.taken c.loop-turn.link) (L.given c.loop-turn.link) in
    let between : Tells = tells_of (L.bound c.take.new.self) (L.taken c.take.new.self) (L.given c.take.new.self) in
    let new : Tells = tells_of (L.bound c.take-in-loop-turn.new.link) (L.taken c.take-in-loop-turn.new.link) (L.given c.take-in-loop-turn.new.link) in
    record {
      node = c.in_ok-serving-2.ensures.node;
      served = turn_served M.declared M.turn d c.args.node c.args.core c.args.gives old mid between new c.loop-turn._turn c.loop-turn.serving c.in_ok-serving-2.serving c.in_ok-taken.taken c.loop-turn.invariant.served
          c.in_ok-taken.ensures.bound c.in_ok-taken.ensures.taken c.in_ok-taken.ensures.given c.in_ok-serving-2.ensures.gone;
      counts = c.in_ok-serving-2.ensures.counts ∙ c.in_ok-taken.ensures.counts ∙ c.loop-turn.invariant.counts;
    }

pub returns : goal.returns
returns g c =
    let M = g.M.Module in
    let L = g.L.Link in
    let d = c.args.deployment.now in
    let old : Tells = tells_of (L.bound c.args.link.now) (L.taken c.args.link.now) (L.given c.args.link.now) in
    let new : Tells = tells_of (L.bound c.loop-turn.link) (L.taken c.loop-turn.link) (L.given c.loop-turn.link) in
    let all : c.loop-turn._turn ≡ c.args.turns = omega (arith, c.loop-turn-test.false, c.loop-turn.auto._turn-end) in
    record {
      served = all_served M.declared M.turn d c.args.node c.args.core c.args.gives c.args.turns old new c.loop-turn.serving
          (subst (λ count. HasServed M.declared M.turn d c.args.node c.args.core c.args.gives old new count c.loop-turn.serving) all c.loop-turn.invariant.served);
      rose = λ failed. absurd (not_failed (record { happened = c.loop-turn.serving.log.happened; node = c.loop-turn.serving.core }) failed);
    }
