use Rattle.std.proofs.Common.{ap, sym, ◌∙◌}
use Rattle.std.specs.Cmp.{nat_cmp_total}
use Rattle.std.specs.Ordering.{nat_cmp}
use Rattle.std.specs.FinMap as map
use Rattle.circus_exchange.proofs.Finite.{get_entry}
use Rattle.circus_exchange.proofs.by_call.ByCall.get.Goals as goal

pub returns : goal.returns
returns g c = c.get.ensures.value ∙ sym (get_entry nat_cmp nat_cmp_total _ c.args.number) ∙ ap (λ m. map.get m c.args.number) c.self.view_is
