use Rattle.std.proofs.Common.{sym, ap, subst, ◌∙◌}
use Rattle.circus_value.specs.Seen.NamePlaces.{IsIndexOf, place_in, table_in}
use Rattle.circus_value.proofs.NameItems.{place_seen}
use Rattle.circus_value.proofs.name_index.NameIndex.find.Goals as goal

pub returns-in-Some : goal.returns-in-Some
returns-in-Some g c =
    let places = c.in-Some.places.value in
    let name = c.args.name.now in
    let seen = ap table_in (sym c.in-Some.is) ∙ c.self.view_is in
    let index = subst (IsIndexOf g.T.HasName.name_of c.args.items.now) (sym seen) c.requires in
    c.copied.ensures ∙ c.get.ensures.value ∙ ap (λ m. place_in m name) c.deref.ensures ∙ place_seen places name ∙ index name
