-- A world, stored as a tuple of its parts.
use Rattle.std.specs.Prelude.{ℕ, Bool, List, Option, refl}
use Rattle.std.specs.Coded.{Coded, code_by, coded×, coded_list, coded_ℕ, coded_option, coded_bool}
use Rattle.circus_collate.specs.declared.deployment.Deployment.{Deployment}
use Rattle.circus_collate.specs.contracts.deployment.Deployment as deployment_model
use Rattle.circus_node.specs.NodeState.{NodeState}
use Rattle.circus_node.specs.Seen.NodeCode.{node_code}
use Rattle.circus_world.specs.Sent.{Sent}
use Rattle.circus_world.specs.WorldState.{WorldState, Standing}

abbrev pub sent_code : Coded Sent
sent_code =
    code_by (ℕ × (ℕ × (ℕ × List ℕ))) (coded× coded_ℕ (coded× coded_ℕ (coded× coded_ℕ (coded_list coded_ℕ))))
    (λ s. (s.step, (s.from, (s.to, s.bytes)))) (λ q. record { step = q.0; from = q.1.0; to = q.1.1.0; bytes = q.1.1.1 }) (λ _. refl)

abbrev pub standing_code : {M : Type 0} → Coded M → Coded (Standing M)
standing_code {M} hosted =
    code_by (NodeState M × (Option ℕ × Bool)) (coded× (node_code hosted) (coded× (coded_option coded_ℕ) coded_bool))
    (λ s. (s.node, (s.crashed, s.joins))) (λ q. record { node = q.0; crashed = q.1.0; joins = q.1.1 }) (λ _. refl)

abbrev pub world_code : {M : Type 0} → Coded M → Coded (WorldState M)
world_code {M} hosted =
    code_by (Deployment × (List M × (List (Standing M) × (List Sent × ℕ))))
    (coded× deployment_model.the_row.coded (coded× (coded_list hosted) (coded× (coded_list (standing_code hosted)) (coded× (coded_list sent_code) coded_ℕ))))
    (λ w. (w.deployment, (w.modules, (w.nodes, (w.sent, w.steps)))))
    (λ q. record { deployment = q.0; modules = q.1.0; nodes = q.1.1.0; sent = q.1.1.1.0; steps = q.1.1.1.1 })
    (λ _. refl)
