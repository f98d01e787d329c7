use Rattle.std.proofs.Common.{ℕ, ◌≡◌, ◌∙◌, ap, sym, subst, refl, Err, List}
use Rattle.std.proofs.lemmas.Result.{err_from_is_err_and}
use Rattle.circus_node.specs.declared.event.Outputs.{Outputs}
use Rattle.circus_serve.specs.declared.fault.ServeFault.TheVariants as fault
use Rattle.circus_serve.specs.Outside.{Tells, tells_of}
use Rattle.circus_serve.specs.Serving.{Served, event_comes}
use Rattle.circus_serve.specs.Seen.Counting.{ServeCounts}
use Rattle.circus_serve.specs.Seen.Faults.{of_link, of_step}
use Rattle.circus_serve.specs.declared.serving.Serving.{Serving}
use Rattle.circus_serve.specs.Seen.Going.{served_of, HasGone}
use Rattle.circus_serve.proofs.HappenedLemmas.{event_extends}
use Rattle.circus_serve.proofs.EventLemmas.{if_fault, count_at_fault, count_at_refusal, gone_stopped, event_refused, event_lacking, event_noted, noted_so, suspects_so}
use Rattle.circus_serve.proofs.serving.Serving.step.Goals as goal

pub step-requires : goal.step-requires
step-requires g c = c.requires.event

pub returns-in_err-noted : goal.returns-in_err-noted
returns-in_err-noted g c =
    let M = g.M.Module in
    let L = g.L.Link in
    let d = c.args.deployment.now in
    let s : Served g.row.M.Denot = served_of c.args.self in
    let state : Serving g.row.M.Denot g.row.M-Paused.Denot × List ℕ → Served g.row.M.Denot = λ stepped. served_of stepped.0 in
    let old : Tells = tells_of (L.bound c.args.link.now) (L.taken c.args.link.now) (L.given c.args.link.now) in
    let r = c.from_residual.result in
    let p = err_from_is_err_and r c.from_residual.ensures.1 in
    let is : r ≡ Err fault.NoMemory = p.1 ∙ ap Err p.2 in
    record {
      node = if_fault r fault.NoMemory _ is;
      suspects = if_fault r fault.NoMemory _ is;
      gone = subst (λ x. HasGone state d old old s.happened (event_comes M.declared M.turn c.args.event s) x) (sym is)
          (gone_stopped state d old old s.happened (event_comes M.declared M.turn c.args.event s) (event_extends M.declared M.turn c.args.event s) refl refl refl);
      counts = subst (λ x. ServeCounts x (L.faults c.args.link.now) (L.faults c.args.link.now)) (sym is) refl;
    }

pub returns-in_err-core : goal.returns-in_err-core
returns-in_err-core g c =
    let M = g.M.Module in
    let L = g.L.Link in
    let d = c.args.deployment.now in
    let s : Served g.row.M.Denot = served_of c.args.self in
    let state : Serving g.row.M.Denot g.row.M-Paused.Denot × List ℕ → Served g.row.M.Denot = λ stepped. served_of stepped.0 in
    let old : Tells = tells_of (L.bound c.args.link.now) (L.taken c.args.link.now) (L.given c.args.link.now) in
    let r = c.from_residual-in_err-core.result in
    let p = err_from_is_err_and r c.from_residual-in_err-core.ensures.1 in
    let f = c.in_err-core.field-0.0 in
    let is : r ≡ Err (of_step f) = p.1 ∙ ap Err p.2 in
    record {
      node = if_fault r (of_step f) _ is;
      suspects = if_fault r (of_step f) _ is;
      gone = subst (λ x. HasGone state d old old s.happened (event_comes M.declared M.turn c.args.event s) x) (sym is)
          (event_refused state d M.declared M.turn c.args.event s old old f c.in_err-core.ensures.stepped refl refl refl);
      counts = subst (λ x. ServeCounts x (L.faults c.args.link.now) (L.faults c.args.link.now)) (sym is) (count_at_refusal (Serving g.row.M.Denot g.row.M-Paused.Denot × List ℕ) f (L.faults c.args.link.now));
    }

pub returns-in_err-add_event : goal.returns-in_err-add_event
returns-in_err-add_event g c =
    let M = g.M.Module in
    let L = g.L.Link in
    let d = c.args.deployment.now in
    let s : Served g.row.M.Denot = served_of c.args.self in
    let state : Serving g.row.M.Denot g.row.M-Paused.Denot × List ℕ → Served g.row.M.Denot = λ stepped. served_of stepped.0 in
    let old : Tells = tells_of (L.bound c.args.link.now) (L.taken c.args.link.now) (L.given c.args.link.now) in
    let new : Tells = tells_of (L.bound c.add_event.new.link) (L.taken c.add_event.new.link) (L.given c.add_event.new.link) in
    let r = c.from_residual-in_err-add_event.result in
    let p = err_from_is_err_and r c.from_residual-in_err-add_event.ensures.1 in
    let f = c.in_err-add_event.field-0.0 in
    let is : r ≡ Err (of_link f) = p.1 ∙ ap Err p.2 in
    record {
      node = if_fault r (of_link f) _ is;
      suspects = if_fault r (of_link f) _ is;
      gone = subst (λ x. HasGone state d old new s.happened (event_comes M.declared M.turn c.args.event s) x) (sym is)
          (event_lacking state d M.declared M.turn c.args.event s c.in_ok-core.core c.in_ok-core.outputs c.in_ok-core.ensures.stepped old new f c.in_err-add_event.ensures.given);
      counts = subst (λ x. ServeCounts x (L.faults c.args.link.now) (L.faults c.add_event.new.link)) (sym is)
          (count_at_fault (Serving g.row.M.Denot g.row.M-Paused.Denot × List ℕ) f (L.faults c.args.link.now) (L.faults c.add_event.new.link) c.in_err-add_event.ensures.counts);
    }

pub returns : goal.returns
returns g c =
    let M = g.M.Module in
    let L = g.L.Link in
    let d = c.args.deployment.now in
    let s : Served g.row.M.Denot = served_of c.args.self in
    let state : Serving g.row.M.Denot g.row.M-Paused.Denot × List ℕ → Served g.row.M.Denot = λ stepped. served_of stepped.0 in
    let old : Tells = tells_of (L.bound c.args.link.now) (L.taken c.args.link.now) (L.given c.args.link.now) in
    let new : Tells = tells_of (L.bound c.add_event.new.link) (L.taken c.add_event.new.link) (L.given c.add_event.new.link) in
    let core = c.in_ok-core.core in
    let outputs : Outputs = c.in_ok-core.outputs in
    let ended = c.in_ok-core.ensures.stepped in
    record {
      node = c.in_ok-core.ensures.node d c.args.self.core.wire.own c.requires.node;
      suspects = suspects_so state d M.declared M.turn c.args.event s core outputs ended;
      gone = event_noted state d M.declared M.turn c.args.event s core outputs ended old new (record { core = core; log = c.add_event.new.self }, outputs.suspects)
          (noted_so state d M.declared M.turn c.args.event s core outputs ended c.add_event.new.self.next c.add_event.new.self.happened c.in_ok-noted.noted c.in_ok-noted.ensures
          c.in_ok-add_event.ensures.next c.in_ok-add_event.ensures.happened) c.in_ok-add_event.ensures.given;
      counts = c.in_ok-add_event.ensures.counts;
    }
