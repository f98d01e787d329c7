use Rattle.std.proofs.Common.{sym}
use Rattle.circus_member_rules.proofs.Calls.{stale_by_the_view}
use Rattle.circus_member_rules.proofs.calls_out.take_stale.Goals as goal

pub add_call_for-requires-clause-view : goal.add_call_for-requires-clause-view
add_call_for-requires-clause-view c =
    stale_by_the_view c.in-Some.view.now _ c.args.from c.args.incarnation _ c.stale-next.ensures.next
    (c.requires.views _ _ (sym c.in-Some.ensures))
