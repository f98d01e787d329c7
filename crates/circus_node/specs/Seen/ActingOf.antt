-- What a node does, by the machine that does it.
use Rattle.circus_node.specs.declared.acting.Role.{Role}
use Rattle.circus_node.specs.declared.acting.Role.TheVariants as role
use Rattle.circus_node.specs.NodeState.{Acting, member, ringmaster}

abbrev pub acting_of : {M P : Type 0} → Role M P → Acting M
acting_of (role.Member m) = member m
acting_of (role.Ringmaster ring) = ringmaster ring.value
