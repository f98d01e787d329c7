use Rattle.circus_schedule.proofs.NamedNodes.{named_node}
use Rattle.circus_schedule.proofs.laws.nodes_are_named.Goals as goal

pub returns : goal.returns
returns c = named_node
