use Rattle.std.proofs.Common.{eqb, ap, sym, ◌∙◌}
use Rattle.std.specs.Cmp.{nat_cmp_total}
use Rattle.std.specs.Ordering.{nat_cmp}
use Rattle.std.specs.FinMap as map
use Rattle.circus_exchange.proofs.Finite.{len_of}
use Rattle.circus_exchange.proofs.by_call.ByCall.is_empty.Goals as goal

pub returns : goal.returns
returns g c = ap (λ n. eqb n 0) (c.len.ensures.len ∙ sym (len_of nat_cmp nat_cmp_total _ c.len.ensures.ordered) ∙ ap map.len c.self.view_is)
