use Rattle.std.proofs.Common.{ap, ◌∙◌}
use Rattle.std.specs.Cmp.{nat_cmp_total}
use Rattle.std.specs.Ordering.{nat_cmp}
use Rattle.std.specs.FinMap as map
use Rattle.std.specs.FinMap.{nat_cmp-IsAntisymmetric}
use Rattle.circus_exchange.proofs.Finite.{removed}
use Rattle.circus_exchange.proofs.held.Held.forget.Goals as goal

pub returns : goal.returns
returns c = removed nat_cmp nat_cmp_total nat_cmp-IsAntisymmetric _ _ c.args.call c.remove.ensures.updates.0 ∙ ap (λ m. map.remove m c.args.call) c.self.view_is
