-- A node, stored as a tuple of its parts.
use Rattle.std.specs.Prelude.{ℕ, refl, ◌≡◌, ◌⊎◌}
use Rattle.std.specs.Coded.{Coded, code_by, coded×, coded⊎, coded_ℕ}
use Rattle.std.proofs.Common.{inl, inr}
use Rattle.circus_collate.specs.declared.deployment.Deployment.{Deployment}
use Rattle.circus_collate.specs.contracts.deployment.Deployment as deployment_model
use Rattle.circus_ring.specs.RingTable.{Kept}
use Rattle.circus_ring.specs.contracts.ring.Ring as ring_model
use Rattle.circus_wire.specs.Wire.{WireState}
use Rattle.circus_wire.specs.Seen.PeerCode.{wire_code}
use Rattle.circus_member_rules.specs.declared.occurrence.Purpose.{Purpose}
use Rattle.circus_member_rules.specs.contracts.occurrence.Purpose as purpose_model
use Rattle.circus_member_rules.specs.MemberState.{MemberState}
use Rattle.circus_member.specs.Seen.StateCode.{state_code}
use Rattle.circus_node.specs.NodeState.{Acting, member, ringmaster, NodeState}

abbrev pub either_of : {M : Type 0} → Acting M → MemberState M ⊎ Kept
either_of (member m) = inl m
either_of (ringmaster kept) = inr kept

abbrev pub acting_by : {M : Type 0} → MemberState M ⊎ Kept → Acting M
acting_by (inl m) = member m
acting_by (inr kept) = ringmaster kept

pub either_back : {M : Type 0} (a : Acting M) → acting_by (either_of a) ≡ a
either_back (member m) = refl
either_back (ringmaster kept) = refl

abbrev pub acting_code : {M : Type 0} → Coded M → Coded (Acting M)
acting_code {M} hosted =
    code_by (MemberState M ⊎ Kept) (coded⊎ (state_code hosted) ring_model.the_row.coded) either_of acting_by either_back

abbrev pub node_code : {M : Type 0} → Coded M → Coded (NodeState M)
node_code {M} hosted =
    code_by (Deployment × (WireState Purpose × (Acting M × ℕ)))
    (coded× deployment_model.the_row.coded (coded× (wire_code purpose_model.the_row.coded) (coded× (acting_code hosted) coded_ℕ)))
    (λ n. (n.deployment, (n.wire, (n.acting, n.dropped))))
    (λ q. record { deployment = q.0; wire = q.1.0; acting = q.1.1.0; dropped = q.1.1.1 })
    (λ _. refl)
