use Rattle.std.proofs.Common.{ap, sym, ◌∙◌}
use Rattle.std.specs.Cmp.{nat_cmp_total}
use Rattle.std.specs.Ordering.{nat_cmp}
use Rattle.std.specs.FinMap as map
use Rattle.circus_exchange.proofs.Finite.{get_entry}
use Rattle.circus_exchange.proofs.held.Held.of.Goals as goal

pub returns : goal.returns
returns c = c.get.ensures.value ∙ sym (get_entry nat_cmp nat_cmp_total _ c.args.call) ∙ ap (λ m. map.get m c.args.call) c.self.view_is
