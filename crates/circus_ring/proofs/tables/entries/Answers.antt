use Rattle.std.proofs.Common.{◌+◌, ◌-◌, subst}
use Rattle.circus_header.specs.Seen.Layout.{Reading}
use Rattle.circus_header.proofs.Steps.{none_read}
use Rattle.circus_ring.specs.Seen.TableLayout.{entries_layout}
use Rattle.circus_ring.proofs.TableSteps.{entry_more, entry_failed, entries_end}
use Rattle.circus_ring.proofs.tables.entries.Goals as goal

pub returns-in_err-entry : goal.returns-in_err-entry
returns-in_err-entry c =
    c.loop-i.invariant _ (entry_failed c.args.bytes.now c.args.count c.loop-i._i c.loop-i.entries c.loop-i.at c.loop-i-test.true c.in_err-entry.ensures c.from_residual.ensures)

pub returns-in_err-push : goal.returns-in_err-push
returns-in_err-push c = none_read c.from_residual-in_err-push.ensures

pub loop-i-preserved : goal.loop-i-preserved
loop-i-preserved c r d =
    c.loop-i.invariant r (entry_more c.args.bytes.now c.args.count c.loop-i._i c.loop-i.entries c.loop-i.at c.loop-i-test.true c.in_ok-entry.ensures
    (subst (λ w. Reading c.args.bytes.now (entries_layout (c.args.count - (c.loop-i._i + 1)) w) c.in_ok-entry.next r) c.in_ok-push.ensures.ok d))

pub returns : goal.returns
returns c = c.loop-i.invariant _ (entries_end c.args.bytes.now c.args.count c.loop-i._i c.loop-i.entries c.loop-i.at c.loop-i-test.false)
