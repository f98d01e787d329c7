use Rattle.std.proofs.Common.{◌<◌, length, ap, subst, ◌∙◌}
use Rattle.std.specs.FinMap as map
use Rattle.circus_exchange.proofs.Numbering.{seen_set}
use Rattle.circus_exchange.proofs.series.Series.insert.Goals as goal

pub returns-in-Some-clause-ok : goal.returns-in-Some-clause-ok
returns-in-Some-clause-ok g c =
    let row = c.self.inside.row.items in
    let within : c.in-Some.place < length row = subst (λ r. c.in-Some.place < length r) c.deref.ensures.value c.in-Some.ensures.1 in
    seen_set c.self.inside.first row c.self.inside.others.entries c.in-Some.place c.args.number c.args.value within c.in-Some.ensures.0
    ∙ ap (λ m. map.insert m c.args.number c.args.value) c.self.view_is
