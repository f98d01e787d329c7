use Rattle.std.proofs.Common.{◌≡◌, List, ℕ, sym, ap, ◌∙◌}
use Rattle.std.specs.Cmp.{nat_cmp_total}
use Rattle.std.specs.Ordering.{nat_cmp}
use Rattle.std.specs.FinMap as map
use Rattle.std.specs.FinMap.{nat_cmp-IsAntisymmetric}
use Rattle.circus_exchange.proofs.Finite.{inserted}
use Rattle.circus_exchange.proofs.Holding.{put_first}
use Rattle.circus_exchange.proofs.held.Held.begin.Goals as goal

pub returns-in-Ok-clause-ok : goal.returns-in-Ok-clause-ok
returns-in-Ok-clause-ok c =
    inserted nat_cmp nat_cmp_total nat_cmp-IsAntisymmetric _ _ c.args.call _ c.in-Ok.ensures.updates.0
    ∙ ap (λ (m : map.FinMap nat_cmp (map.FinMap nat_cmp (List ℕ))). map.insert m c.args.call c.insert.new.self) c.self.view_is
    ∙ ap (map.insert c.args.self.now c.args.call) (c.in_ok-insert.ensures.ok ∙ ap (λ (m : map.FinMap nat_cmp (List ℕ)). map.insert m c.from.result c.args.part) c.new-parts.ensures ∙ ap (λ n. map.insert map.empty n c.args.part) c.from.ensures)
    ∙ put_first c.args.self.now c.args.call c.args.number c.args.part c.requires
