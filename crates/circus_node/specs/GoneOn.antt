-- What holds of a node at boot and behind a step: its member has gone on as far as it can.
use Rattle.circus_member_rules.specs.GoneOn.{HasGoneOn}
use Rattle.circus_node.specs.NodeState.{Acting, member, ringmaster}

-- the Ringmaster answers each request at once
abbrev pub MemberHasGoneOn : {M : Type 0} → Acting M → Type 0
MemberHasGoneOn (member m) = HasGoneOn m
MemberHasGoneOn (ringmaster kept) = Unit {0}
