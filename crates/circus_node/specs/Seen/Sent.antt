-- What handing over comes to, but for want of memory.
use Rattle.std.specs.Prelude.{◌≡◌, List, Result, Ok, Err}
use Rattle.circus_wire.specs.Wire.{WireState}
use Rattle.circus_member_rules.specs.declared.occurrence.Purpose.{Purpose}
use Rattle.circus_node.specs.declared.event.Give.{Give}
use Rattle.circus_node.specs.declared.event.StepFault.{StepFault}
use Rattle.circus_node.specs.declared.event.StepFault.TheVariants as fault
use Rattle.circus_node.specs.Sending.{Sending, sent, spent}

abbrev pub IsHanded : {A : Type 0} → Result A StepFault → WireState Purpose → List Give → Sending → Type 0
IsHanded (Ok _) w gives sending = sending ≡ sent w gives
IsHanded (Err (fault.Spent node)) w gives sending = sending ≡ spent node
IsHanded (Err fault.NoMemory) w gives sending = Unit {0}
