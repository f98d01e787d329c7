-- Modules that are made, seen from outside.
use Rattle.circus_model.specs.Behaviour.{Behaviour}
use Rattle.circus_machine.specs.Modules.{turn_with}
use Rattle.circus_machine.specs.declared.text.TextModule.{TextModule}

abbrev pub seen_as : TextModule → Behaviour
seen_as m = record { declared = m.parts.value.signature; turn = turn_with m.parts.value.signature m.parts.value.bodies; first = m.parts.value.first }
