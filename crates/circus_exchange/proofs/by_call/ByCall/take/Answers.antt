use Rattle.std.proofs.Common.{ap, sym, ◌∙◌}
use Rattle.std.specs.Cmp.{nat_cmp_total}
use Rattle.std.specs.Ordering.{nat_cmp}
use Rattle.std.specs.FinMap as map
use Rattle.std.specs.FinMap.{nat_cmp-IsAntisymmetric}
use Rattle.circus_exchange.proofs.Finite.{get_entry, removed}
use Rattle.circus_exchange.proofs.by_call.ByCall.take.Goals as goal

pub returns-clause-value : goal.returns-clause-value
returns-clause-value g c = c.remove.ensures.value ∙ sym (get_entry nat_cmp nat_cmp_total _ c.args.number) ∙ ap (λ m. map.get m c.args.number) c.self.view_is

pub returns-clause-rest : goal.returns-clause-rest
returns-clause-rest g c = removed nat_cmp nat_cmp_total nat_cmp-IsAntisymmetric _ _ c.args.number c.remove.ensures.updates.0 ∙ ap (λ m. map.remove m c.args.number) c.self.view_is
