use Rattle.std.proofs.Common.{sym, subst}
use Rattle.circus_pair.specs.Seen.Fresh.{IsFresh}
use Rattle.circus_pair.proofs.Following.{stands_first}
use Rattle.circus_pair.proofs.Freshness.{fresh_start}
use Rattle.circus_pair.proofs.pair.Pair.starting_at.Goals as goal

pub invariant_of-result : goal.invariant_of-result
invariant_of-result c = subst (λ e. IsFresh e) (sym c.new.ensures) (fresh_start c.args.number c.args.format)

pub returns-clause-stands : goal.returns-clause-stands
returns-clause-stands c = stands_first c.new.result c.args.number c.args.format c.new.ensures
