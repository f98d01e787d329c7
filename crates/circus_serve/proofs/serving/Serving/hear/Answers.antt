use Rattle.std.proofs.Common.{ℕ, ◌≡◌, ◌∙◌, List, Option, ap, sym, subst, refl, Ok, Err}
use Rattle.std.specs.Option.{option_map_or}
use Rattle.std.proofs.lemmas.Result.{err_from_is_err_and, IfOk-weaker}
use Rattle.circus_outside.specs.declared.link.TakenFrom.TheVariants.{From}
use Rattle.circus_node.specs.declared.event.Event.TheVariants.{Datagram}
use Rattle.circus_node.specs.Node.{IsNodeOf}
use Rattle.circus_serve.specs.declared.fault.ServeFault.TheVariants as fault
use Rattle.circus_serve.specs.Outside.{Tells, tells_of}
use Rattle.circus_serve.specs.Serving.{Served, Progress, on, comes, take_comes, with_foreign}
use Rattle.circus_serve.specs.Seen.Counting.{ServeCounts}
use Rattle.circus_serve.specs.declared.serving.Serving.{Serving}
use Rattle.circus_serve.specs.Seen.Going.{served_of, HasGone}
use Rattle.circus_serve.proofs.HappenedLemmas.{took_extends}
use Rattle.circus_serve.proofs.EventLemmas.{if_fault, gone_stopped, foreign_noted, foreign_so, peer_is_other}
use Rattle.circus_serve.proofs.SuspectLemmas.{own_node}
use Rattle.circus_serve.proofs.serving.Serving.hear.Goals as goal

pub peer_at-requires : goal.peer_at-requires
peer_at-requires g c = c.requires.deployment

pub returns-in_err-add_foreign : goal.returns-in_err-add_foreign
returns-in_err-add_foreign g c =
    let M = g.M.Module in
    let L = g.L.Link in
    let d = c.args.deployment.now in
    let s : Served g.row.M.Denot = served_of c.args.self in
    let old : Tells = tells_of (L.bound c.args.link.now) (L.taken c.args.link.now) (L.given c.args.link.now) in
    let r = c.from_residual.result in
    let p = err_from_is_err_and r c.from_residual.ensures.1 in
    let is : r ≡ Err fault.NoMemory = p.1 ∙ ap Err p.2 in
    let progress = take_comes M.declared M.turn d c.args.node (From c.args.port c.args.bytes) s in
    record {
      node = if_fault r fault.NoMemory _ is;
      gone = subst (λ x. HasGone served_of d old old s.happened progress x) (sym is)
          (gone_stopped served_of d old old s.happened progress (took_extends M.declared M.turn d c.args.node (From c.args.port c.args.bytes) s) refl refl refl);
      counts = subst (λ x. ServeCounts x (L.faults c.args.link.now) (L.faults c.args.link.now)) (sym is) refl;
    }

pub returns-in_default : goal.returns-in_default
returns-in_default g c =
    let M = g.M.Module in
    let L = g.L.Link in
    let d = c.args.deployment.now in
    let s : Served g.row.M.Denot = served_of c.args.self in
    let old : Tells = tells_of (L.bound c.args.link.now) (L.taken c.args.link.now) (L.given c.args.link.now) in
    let state : Serving g.row.M.Denot g.row.M-Paused.Denot → Served g.row.M.Denot = served_of in
    let after : Serving g.row.M.Denot g.row.M-Paused.Denot = record { core = c.args.self.core; log = c.add_foreign.new.self } in
    let foreign : Progress g.row.M.Denot = on (with_foreign c.args.port c.args.bytes s) in
    record {
      node = c.requires.node;
      gone = subst (λ (p : Progress g.row.M.Denot). HasGone state d old old s.happened p (Ok after))
          (ap (λ (peer : Option ℕ). option_map_or (λ from. comes M.declared M.turn (Datagram from c.args.bytes) s) peer foreign) c.in_default.ensures)
          (foreign_noted state d old old s c.args.port c.args.bytes after
          (foreign_so state d s c.args.port c.args.bytes c.add_foreign.new.self.next c.add_foreign.new.self.happened c.in_ok-add_foreign.ensures.next c.in_ok-add_foreign.ensures.happened) refl refl refl);
      counts = refl;
    }

pub returns-in_err-bytes : goal.returns-in_err-bytes
returns-in_err-bytes g c =
    let M = g.M.Module in
    let L = g.L.Link in
    let d = c.args.deployment.now in
    let s : Served g.row.M.Denot = served_of c.args.self in
    let old : Tells = tells_of (L.bound c.args.link.now) (L.taken c.args.link.now) (L.given c.args.link.now) in
    let r = c.from_residual-in_err-bytes.result in
    let p = err_from_is_err_and r c.from_residual-in_err-bytes.ensures.1 in
    let is : r ≡ Err fault.NoMemory = p.1 ∙ ap Err p.2 in
    let progress = take_comes M.declared M.turn d c.args.node (From c.args.port c.args.bytes) s in
    record {
      node = if_fault r fault.NoMemory _ is;
      gone = subst (λ x. HasGone served_of d old old s.happened progress x) (sym is)
          (gone_stopped served_of d old old s.happened progress (took_extends M.declared M.turn d c.args.node (From c.args.port c.args.bytes) s) refl refl refl);
      counts = subst (λ x. ServeCounts x (L.faults c.args.link.now) (L.faults c.args.link.now)) (sym is) refl;
    }

pub come-requires-clause-node : goal.come-requires-clause-node
come-requires-clause-node g c = own_node c.args.deployment.now c.args.node c.args.self.core c.requires.node

pub come-requires-clause-event : goal.come-requires-clause-event
come-requires-clause-event g c = peer_is_other c.args.deployment.now c.args.node c.args.port c.in-Some.from c.args.self.core c.requires.node (sym c.in-Some.ensures)

pub returns : goal.returns
returns g c =
    let M = g.M.Module in
    let L = g.L.Link in
    let d = c.args.deployment.now in
    let s : Served g.row.M.Denot = served_of c.args.self in
    let old : Tells = tells_of (L.bound c.args.link.now) (L.taken c.args.link.now) (L.given c.args.link.now) in
    let new : Tells = tells_of (L.bound c.come.new.link) (L.taken c.come.new.link) (L.given c.come.new.link) in
    let foreign : Progress g.row.M.Denot = on (with_foreign c.args.port c.args.bytes s) in
    record {
      node = IfOk-weaker c.come.result _ _ (λ t node. subst (λ k. IsNodeOf d k t.core) c.requires.node.own node) c.come.ensures.node;
      gone = subst (λ (p : Progress g.row.M.Denot). HasGone served_of d old new s.happened p c.come.result)
          (ap (λ (bytes : List ℕ). comes M.declared M.turn (Datagram c.in-Some.from bytes) s) c.in_ok-bytes.ensures
          ∙ ap (λ (peer : Option ℕ). option_map_or (λ from. comes M.declared M.turn (Datagram from c.args.bytes) s) peer foreign) c.in-Some.ensures) c.come.ensures.gone;
      counts = c.come.ensures.counts;
    }
