use Rattle.std.proofs.Common.{◌<◌, length, ap, sym, subst, ◌∙◌, refl}
use Rattle.std.proofs.lemmas.Option.{slice_get_read}
use Rattle.std.specs.FinMap as map
use Rattle.circus_exchange.specs.Seen.Numbered.{IsOff}
use Rattle.circus_exchange.proofs.Numbering.{got_in_row, got_off_row}
use Rattle.circus_exchange.proofs.series.Series.get.Goals as goal

pub returns-in-Some : goal.returns-in-Some
returns-in-Some g c =
    let row = c.self.inside.row.items in
    let within : c.in-Some.place < length row = subst (λ r. c.in-Some.place < length r) c.deref.ensures.value c.in-Some.ensures.1 in
    sym (slice_get_read row (length row) c.in-Some.place c.index.result.now refl within c.index.ensures)
    ∙ sym (got_in_row c.self.inside.first row c.self.inside.others.entries c.args.number c.in-Some.place c.in-Some.ensures.0 within)
    ∙ ap (λ m. map.get m c.args.number) c.self.view_is

pub returns-in-None : goal.returns-in-None
returns-in-None g c =
    c.get.ensures.value
    ∙ sym (got_off_row c.self.inside.first c.self.inside.row.items c.self.inside.others.entries c.args.number (subst (λ r. IsOff c.self.inside.first (length r) c.args.number) c.deref.ensures.value c.in-None.ensures))
    ∙ ap (λ m. map.get m c.args.number) c.self.view_is
