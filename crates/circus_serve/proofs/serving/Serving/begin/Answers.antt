use Rattle.std.proofs.Common.{◌≡◌, ◌∙◌, [], true, false, ap, sym, subst, Ok, Err}
use Rattle.std.proofs.lemmas.Result.{err_from_is_err_and}
use Rattle.circus_node.specs.declared.event.Event.TheVariants.{Join}
use Rattle.circus_serve.specs.Outside.{Tells, tells_of}
use Rattle.circus_serve.specs.Serving.{Served, Progress, on, comes, begin_serving}
use Rattle.circus_serve.specs.Seen.Counting.{ServeCounts}
use Rattle.circus_serve.specs.Seen.Faults.{of_link}
use Rattle.circus_serve.proofs.SpareLemmas.{begun_so}
use Rattle.circus_serve.specs.declared.serving.Serving.{Serving}
use Rattle.circus_serve.specs.Seen.Going.{served_of, HasGone}
use Rattle.circus_serve.proofs.EventLemmas.{if_fault, count_at_fault, then_counts, boot_lacking, boot_so, boot_noted}
use Rattle.circus_serve.proofs.GoneLemmas.{gone_then}
use Rattle.circus_serve.proofs.serving.Serving.begin.Goals as goal

pub returns-in_err-log : goal.returns-in_err-log
returns-in_err-log g c =
    let M = g.M.Module in
    let L = g.L.Link in
    let d = c.args.deployment.now in
    let old : Tells = tells_of (L.bound c.args.link.now) (L.taken c.args.link.now) (L.given c.args.link.now) in
    let new : Tells = tells_of (L.bound c.begin.new.link) (L.taken c.begin.new.link) (L.given c.begin.new.link) in
    let r = c.from_residual.result in
    let p = err_from_is_err_and r c.from_residual.ensures.1 in
    let f = c.in_err-log.field-0.0 in
    let is : r ≡ Err (of_link f) = p.1 ∙ ap Err p.2 in
    record {
      node = if_fault r (of_link f) _ is;
      gone = subst (λ x. HasGone served_of d old new [] (begin_serving M.declared M.turn c.args.core c.args.gives) x) (sym is)
          (boot_lacking served_of d M.declared M.turn c.args.core c.args.gives old new f c.in_err-log.ensures.given);
      counts = subst (λ x. ServeCounts x (L.faults c.args.link.now) (L.faults c.begin.new.link)) (sym is)
          (count_at_fault (Serving g.row.M.Denot g.row.M-Paused.Denot) f (L.faults c.args.link.now) (L.faults c.begin.new.link) c.in_err-log.ensures.counts);
    }

pub come-requires-clause-node : goal.come-requires-clause-node
come-requires-clause-node g c = c.requires

pub returns-then-is_spare : goal.returns-then-is_spare
returns-then-is_spare g c =
    let M = g.M.Module in
    let L = g.L.Link in
    let d = c.args.deployment.now in
    let core = c.args.core in
    let gives = c.args.gives in
    let old : Tells = tells_of (L.bound c.args.link.now) (L.taken c.args.link.now) (L.given c.args.link.now) in
    let mid : Tells = tells_of (L.bound c.begin.new.link) (L.taken c.begin.new.link) (L.given c.begin.new.link) in
    let new : Tells = tells_of (L.bound c.come.new.link) (L.taken c.come.new.link) (L.given c.come.new.link) in
    let state : Serving g.row.M.Denot g.row.M-Paused.Denot → Served g.row.M.Denot = served_of in
    let serving : Serving g.row.M.Denot g.row.M-Paused.Denot = record { core = core; log = c.in_ok-log.log } in
    let so = boot_so state d M.declared M.turn core gives c.in_ok-log.log.next c.in_ok-log.log.happened c.in_ok-log.ensures.next c.in_ok-log.ensures.happened in
    record {
      node = c.come.ensures.node;
      gone = subst (λ (p : Progress g.row.M.Denot). HasGone state d old new [] p c.come.result)
          (ap (comes M.declared M.turn Join) so ∙ sym (begun_so M.declared M.turn core gives true (sym c.is_spare.ensures ∙ c.if-is_spare.true)))
          (gone_then state state d old mid new [] (on (state serving)) serving (comes M.declared M.turn Join) c.come.result
          (subst (λ (p : Progress g.row.M.Denot). HasGone state d old mid [] p (Ok serving)) (ap on (sym so))
          (boot_noted state d M.declared M.turn core gives old mid serving so c.in_ok-log.ensures.given)) c.come.ensures.gone);
      counts = then_counts c.come.result (L.faults c.args.link.now) (L.faults c.begin.new.link) (L.faults c.come.new.link) c.in_ok-log.ensures.counts c.come.ensures.counts;
    }

pub returns-else-is_spare : goal.returns-else-is_spare
returns-else-is_spare g c =
    let M = g.M.Module in
    let L = g.L.Link in
    let d = c.args.deployment.now in
    let core = c.args.core in
    let gives = c.args.gives in
    let old : Tells = tells_of (L.bound c.args.link.now) (L.taken c.args.link.now) (L.given c.args.link.now) in
    let new : Tells = tells_of (L.bound c.begin.new.link) (L.taken c.begin.new.link) (L.given c.begin.new.link) in
    let state : Serving g.row.M.Denot g.row.M-Paused.Denot → Served g.row.M.Denot = served_of in
    let serving : Serving g.row.M.Denot g.row.M-Paused.Denot = record { core = core; log = c.in_ok-log.log } in
    record {
      node = c.requires;
      gone = subst (λ (p : Progress g.row.M.Denot). HasGone state d old new [] p (Ok serving))
          (sym (begun_so M.declared M.turn core gives false (sym c.is_spare.ensures ∙ c.if-is_spare.false)))
          (boot_noted state d M.declared M.turn core gives old new serving
          (boot_so state d M.declared M.turn core gives c.in_ok-log.log.next c.in_ok-log.log.happened c.in_ok-log.ensures.next c.in_ok-log.ensures.happened) c.in_ok-log.ensures.given);
      counts = c.in_ok-log.ensures.counts;
    }
