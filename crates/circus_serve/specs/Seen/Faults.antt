-- Why a node is not served, by why a call of the link or a step failed.
use Rattle.circus_outside.specs.declared.link.LinkFault.{LinkFault}
use Rattle.circus_outside.specs.declared.link.LinkFault.TheVariants as link
use Rattle.circus_node.specs.declared.event.StepFault.{StepFault}
use Rattle.circus_node.specs.declared.event.StepFault.TheVariants as step
use Rattle.circus_serve.specs.declared.fault.ServeFault.{ServeFault}
use Rattle.circus_serve.specs.declared.fault.ServeFault.TheVariants as serve

abbrev pub of_link : LinkFault → ServeFault
of_link link.Failed = serve.LinkFailed
of_link link.NoMemory = serve.NoMemory

abbrev pub of_step : StepFault → ServeFault
of_step (step.Spent node) = serve.Spent node
of_step step.NoMemory = serve.NoMemory
