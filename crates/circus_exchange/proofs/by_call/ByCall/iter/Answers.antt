use Rattle.std.proofs.Common.{ap, sym, ◌∙◌}
use Rattle.std.specs.Cmp.{nat_cmp_total}
use Rattle.std.specs.Ordering.{nat_cmp}
use Rattle.std.specs.FinMap as map
use Rattle.circus_exchange.proofs.Finite.{entries_of}
use Rattle.circus_exchange.proofs.by_call.ByCall.iter.Goals as goal

pub returns-clause-rest : goal.returns-clause-rest
returns-clause-rest g c = c.iter.ensures.rest ∙ sym (entries_of nat_cmp nat_cmp_total _ c.iter.ensures.ordered) ∙ ap map.entries c.self.view_is
