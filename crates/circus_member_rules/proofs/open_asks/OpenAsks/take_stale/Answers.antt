use Rattle.std.proofs.Common.{sym}
use Rattle.std.proofs.lemmas.Map.Entries.{All-lookup}
use Rattle.circus_member_rules.specs.OpenAsks.{is_name}
use Rattle.circus_member_rules.specs.Callable.{MayCall}
use Rattle.circus_member_rules.proofs.open_asks.OpenAsks.take_stale.Goals as goal

pub take_stale-requires-clause-may : goal.take_stale-requires-clause-may
take_stale-requires-clause-may c =
    rw (sym c.in-Some.ensures.value) at (All-lookup (MayCall c.args.known.now) (is_name c.args.name) c.self.inside.asks.entries (rw c.self.view_is c.requires.asks))
