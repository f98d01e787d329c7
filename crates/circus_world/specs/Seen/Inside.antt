-- A world by what stands in its box.
use Rattle.circus_world.specs.WorldState.{WorldState}
use Rattle.circus_world.specs.declared.world.Inside.{Inside}
use Rattle.circus_world.specs.Seen.Slots.{world_of, AreFull}
use Rattle.circus_world.specs.Seen.Sound.{IsSound}

abbrev pub inside_of : {M P : Type 0} → Inside M P → WorldState M
inside_of i = world_of i.deployment i.modules.items i.slots.items i.sent i.steps

-- each node is in its slot, and the world is sound
abbrev pub IsSoundInside : {M P : Type 0} → Inside M P → Type 0
IsSoundInside i = AreFull i.slots.items × IsSound (inside_of i)
