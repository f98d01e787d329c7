-- The record of a node, stored as a tuple of its parts.
use Rattle.std.specs.Prelude.{List, refl}
use Rattle.std.specs.Coded.{Coded, code_by, coded×, coded_list}
use Rattle.circus_node.specs.NodeState.{NodeState}
use Rattle.circus_node.specs.Seen.NodeCode.{node_code}
use Rattle.circus_serve.specs.declared.happening.Happening.{Happening}
use Rattle.circus_serve.specs.contracts.happening.Happening as happening_model
use Rattle.circus_serve.specs.Recorded.{Recorded}

abbrev pub recorded_code : {M : Type 0} → Coded M → Coded (Recorded M)
recorded_code {M} hosted =
    code_by (List Happening × NodeState M) (coded× (coded_list happening_model.the_row.coded) (node_code hosted))
    (λ r. (r.happened, r.node)) (λ q. record { happened = q.0; node = q.1 }) (λ _. refl)
