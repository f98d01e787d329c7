use Rattle.std.proofs.Common.{sym, ◌∙◌}
use Rattle.circus_value.proofs.NameItems.{place_seen}
use Rattle.circus_value.proofs.name_index.NameIndex.of.Goals as goal

pub returns : goal.returns
returns g c =
    λ name. rw c.in_ok-places.ensures.ok (sym (place_seen c.in_ok-places_of.field-0 name) ∙ c.in_ok-places_of.ensures name)
