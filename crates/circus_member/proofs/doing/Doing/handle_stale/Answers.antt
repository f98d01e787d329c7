use Rattle.std.proofs.Common.{sym, subst}
use Rattle.circus_member_rules.specs.Callable.{AreViews, AllMayCall}
use Rattle.circus_member.proofs.doing.Doing.handle_stale.Goals as goal

pub take_stale-requires-clause-asks : goal.take_stale-requires-clause-asks
take_stale-requires-clause-asks g c = subst (λ d. AllMayCall d.member.known d.member.asks) (sym c.self.view_is) c.requires.asks

pub take_stale-requires-clause-views : goal.take_stale-requires-clause-views
take_stale-requires-clause-views g c = subst (λ d. AreViews d.member.known) (sym c.self.view_is) c.requires.views
