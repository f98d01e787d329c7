use Rattle.std.proofs.Common.{◌≡◌, ℕ, List, take}
use Rattle.circus_place.specs.Value.{attribute_in}
use Rattle.circus_place.specs.Seen.Table.{constant_at}
use Rattle.circus_place.proofs.attributes.Attributes.of.Given as goal

abbrev pub invariant-loop-attribute : goal.invariant-loop-attribute
invariant-loop-attribute l = (name : List ℕ) → constant_at (record { table = l.table }) name ≡ attribute_in (take l.attribute-index l.attributes) name
