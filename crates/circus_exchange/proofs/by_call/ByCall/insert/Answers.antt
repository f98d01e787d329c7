use Rattle.std.proofs.Common.{ap, ◌∙◌}
use Rattle.std.specs.Cmp.{nat_cmp_total}
use Rattle.std.specs.Ordering.{nat_cmp}
use Rattle.std.specs.FinMap as map
use Rattle.std.specs.FinMap.{nat_cmp-IsAntisymmetric}
use Rattle.circus_exchange.proofs.Finite.{inserted, absent}
use Rattle.circus_exchange.proofs.by_call.ByCall.insert.Goals as goal

pub returns-in-Ok-clause-ok : goal.returns-in-Ok-clause-ok
returns-in-Ok-clause-ok g c = inserted nat_cmp nat_cmp_total nat_cmp-IsAntisymmetric _ _ c.args.number c.args.value c.in-Ok.ensures.updates.0 ∙ ap (λ m. map.insert m c.args.number c.args.value) c.self.view_is

pub returns-clause-known : goal.returns-clause-known
returns-clause-known g c some = absurd (absent nat_cmp nat_cmp_total _ _ c.args.number c.self.view_is c.in-Err.ensures.absent some)
