use Rattle.std.proofs.Common.{◌∙◌, ◌+◌, ◌-◌, drop, map, length, sym, ap}
use Rattle.circus_record.specs.Naming.{host_name}
use Rattle.circus_audit.specs.Seen.Views.{entries_read, entries_before}
use Rattle.circus_audit.proofs.Entries.{entries_more, entries_end}
use Rattle.circus_audit.proofs.views.read_entries.Goals as goal

pub loop-preserved : goal.loop-preserved
loop-preserved c =
    let line = c.args.line.now in
    let nodes = map host_name c.args.nodes.now in
    let more = entries_more nodes (length line) c.loop.counter c.in_ok-entry.entry c.loop.entries (drop c.loop.place line) (drop c.in_ok-entry.next line) _ c.loop-test.true (sym c.is_end.ensures ∙ c.if-is_end.false) c.in_ok-entry.ensures.1 c.loop.invariant.read in
    record {
      within = c.in_ok-entry.ensures.0;
      read = more ∙ ap (λ es. entries_before es (entries_read nodes (length line - (c.loop.counter + 1)) (drop c.in_ok-entry.next line))) (sym c.in_ok-push.ensures.ok);
    }

pub returns-then-is_end : goal.returns-then-is_end
returns-then-is_end c =
    let line = c.args.line.now in
    entries_end (map host_name c.args.nodes.now) (length line - c.loop.counter) c.loop.entries (drop c.loop.place line) _ (sym c.is_end.ensures ∙ c.if-is_end.true) c.loop.invariant.read
