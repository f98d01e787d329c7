-- The text of a served node is the same with the behaviour of its module.
use Rattle.std.proofs.Common.{◌≡◌, ℕ, List, [], ◌++◌, codes, None, refl}
use Rattle.std.specs.Option.{option_map_or}
use Rattle.circus_value.specs.ValueTree.{ValueTree}
use Rattle.circus_value.specs.declared.outcome.Outcome.{Outcome}
use Rattle.circus_collate.specs.declared.deployment.Deployment.{Deployment}
use Rattle.circus_model.specs.NextTurn.{NextTurn}
use Rattle.circus_model.specs.declared.signature.Signature.{Signature}
use Rattle.circus_record.specs.Line.{line}
use Rattle.circus_record.specs.MemberText.{member_lines}
use Rattle.circus_record.specs.Naming.{Names}
use Rattle.circus_report.specs.ViewLines.{ringmaster_line, views_lines}
use Rattle.circus_node.specs.Accepting.{troupe_at}
use Rattle.circus_node.specs.NodeState.{Acting, member, ringmaster, ring_views}
use Rattle.circus_node.specs.Alike.{acting_as}
use Rattle.circus_serve.specs.Recorded.{Recorded}
use Rattle.circus_serve.specs.NodeText.{happened_lines, node_text}
use Rattle.circus_node_command.specs.Alike.{recorded_as}
use Rattle.circus_node_command.proofs.ServingAlike.{record_as}

module _ {M : Type 0} (declared : M → Signature) (turn : M → List ValueTree → ℕ → List ValueTree → List Outcome → NextTurn) (first : M → List ValueTree) where
  views_as : (a : Acting M) → ring_views (acting_as declared turn first a) ≡ ring_views a
  views_as (member m) = refl
  views_as (ringmaster kept) = refl

  pub text_as : (names : Names) (d : Deployment) (node : ℕ) (recorded : Recorded M)
      → node_text names d node (recorded_as declared turn first recorded) ≡ node_text names d node recorded
  text_as names d node recorded =
      λ i. line (codes "circus node 1 " ++ names.node node) ++ happened_lines names 0 recorded.happened
      ++ option_map_or (λ troupe. option_map_or (member_lines names node troupe None) (record_as declared turn first recorded.node.acting i) []) (troupe_at d node)
      (ringmaster_line names None ++ option_map_or (views_lines names) (views_as recorded.node.acting i) [])
