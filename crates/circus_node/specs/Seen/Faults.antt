-- Why a step has no node, by why a call was not handed over.
use Rattle.circus_wire.specs.declared.fault.WireFault.{WireFault}
use Rattle.circus_wire.specs.declared.fault.WireFault.TheVariants as wire
use Rattle.circus_node.specs.declared.event.StepFault.{StepFault}
use Rattle.circus_node.specs.declared.event.StepFault.TheVariants as step

abbrev pub fault_of : WireFault → StepFault
fault_of (wire.Spent node) = step.Spent node
fault_of wire.NoMemory = step.NoMemory
