use Rattle.std.proofs.Common.{◌∙◌, map, sym, ap}
use Rattle.std.specs.Vec.Iter.{into_iter_items}
use Rattle.circus_record.specs.Naming.{host_name}
use Rattle.circus_audit.specs.Seen.Differing.{each_read, each_before, event_of}
use Rattle.circus_audit.proofs.Each.{each_more}
use Rattle.circus_audit.proofs.differences.ReplyReader.read_events.Goals as goal

pub loop-noted-preserved : goal.loop-noted-preserved
loop-noted-preserved c =
    let f = event_of (map host_name c.args.self.now.nodes.now) c.args.self.now.modules c.args.self.now.own c.args.imports.now c.args.kept.now in
    each_more f (into_iter_items c.loop-noted.noted-iterator) (into_iter_items c.next.new.self) c.in-Some.noted c.in_ok-event.event c.loop-noted.events (each_read f c.args.notes) c.in-Some.ensures.steps.0 c.in_ok-event.ensures c.loop-noted.invariant
    ∙ ap (λ es. each_before es (each_read f (into_iter_items c.next.new.self))) (sym c.in_ok-push.ensures.ok)
