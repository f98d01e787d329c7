-- What the code wants of items.
use Rattle.circus_value.specs.ShapeTree.{field_trees}
use Rattle.circus_resolve.specs.declared.slots.Slots.{Slots as Wanted}
use Rattle.circus_resolve.specs.declared.slots.Slots.TheVariants as wanted
use Rattle.circus_resolve.specs.Faults.{Slots, alike, for_fields}
use Rattle.circus_resolve.specs.Seen.Scoped.{shape_as}

abbrev pub slots_as : Wanted → Slots
slots_as (wanted.Alike shape) = alike (shape_as shape)
slots_as (wanted.ForFields fields) = for_fields (field_trees fields.now)
