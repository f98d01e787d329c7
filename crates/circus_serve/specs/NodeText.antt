-- The text of a node that was served: what happened to it, and what it did.
use Rattle.std.specs.Prelude.{ℕ, ◌+◌, List, [], ◌∷◌, ◌++◌, codes, None}
use Rattle.std.specs.Option.{option_map_or}
use Rattle.std.specs.List.{flat_map}
use Rattle.std.specs.Fmt.{decimal}
use Rattle.hex.specs.Hex.{encode_lower}
use Rattle.circus_value.specs.ThreadText.{clock_text}
use Rattle.circus_value.specs.OutcomeText.{outcome_text}
use Rattle.circus_header.specs.declared.answer.Reply.{Reply}
use Rattle.circus_collate.specs.declared.deployment.Deployment.{Deployment}
use Rattle.circus_record.specs.Line.{line}
use Rattle.circus_record.specs.Naming.{Names}
use Rattle.circus_record.specs.MemberText.{member_lines}
use Rattle.circus_member_rules.specs.declared.occurrence.Difference.{Difference}
use Rattle.circus_node.specs.declared.event.Event.{Event}
use Rattle.circus_node.specs.declared.event.Event.TheVariants.{Datagram, Tick, Down, Join}
use Rattle.circus_node.specs.declared.event.Give.{Give}
use Rattle.circus_node.specs.NodeState.{NodeState, member_record, ring_views}
use Rattle.circus_node.specs.Accepting.{troupe_at}
use Rattle.circus_report.specs.ViewLines.{ringmaster_line, views_lines}
use Rattle.circus_serve.specs.declared.happening.Happening.{Happening}
use Rattle.circus_serve.specs.declared.happening.Happening.TheVariants.{Booted, Stepped, Foreign}
use Rattle.circus_serve.specs.Recorded.{Recorded}

-- what comes to the node
abbrev pub event_text : Names → Event → List ℕ
event_text names (Datagram from bytes) = codes "datagram " ++ names.node from ++ codes " " ++ encode_lower bytes
event_text names Tick = codes "tick"
event_text names (Down node) = codes "down " ++ names.node node
event_text names Join = codes "join"

-- the event of this number
abbrev pub event_line : ℕ → List ℕ → List ℕ
event_line number text = line (codes "event " ++ decimal number ++ codes " " ++ text)

abbrev pub give_line : Names → Give → List ℕ
give_line names give = line (codes "give " ++ names.node give.to ++ codes " " ++ encode_lower give.bytes)

-- who replied, and what
abbrev pub reply_text : Names → ℕ → Reply → List ℕ
reply_text names node reply = codes " " ++ names.node node ++ codes " clock " ++ clock_text reply.clock ++ codes " " ++ outcome_text reply.outcome

-- two replies to an ask that differ
abbrev pub differ_line : Names → Difference → List ℕ
differ_line names d =
    line (codes "differ run " ++ decimal d.run ++ codes " ask " ++ decimal d.ask
    ++ reply_text names d.first d.first_reply ++ reply_text names d.second d.second_reply)

abbrev pub foreign_line : ℕ → List ℕ → List ℕ
foreign_line port bytes = line (codes "foreign " ++ decimal port ++ codes " " ++ encode_lower bytes)

-- what happened, the first event having this number; what is foreign has none
abbrev pub happened_lines : Names → ℕ → List Happening → List ℕ
happened_lines names number [] = []
happened_lines names number (Booted gives ∷ others) =
    event_line number (codes "boot") ++ flat_map (give_line names) gives ++ happened_lines names (number + 1) others
happened_lines names number (Stepped event gives differences ∷ others) =
    event_line number (event_text names event) ++ flat_map (give_line names) gives ++ flat_map (differ_line names) differences
    ++ happened_lines names (number + 1) others
happened_lines names number (Foreign port bytes ∷ others) = foreign_line port bytes ++ happened_lines names number others

module _ {M : Type 0} where
  -- the member that it hosts, or the Ringmaster and its views
  abbrev pub node_lines : Names → Deployment → ℕ → NodeState M → List ℕ
  node_lines names d node n =
      option_map_or (λ troupe. option_map_or (member_lines names node troupe None) (member_record n.acting) []) (troupe_at d node)
      (ringmaster_line names None ++ option_map_or (views_lines names) (ring_views n.acting) [])

  abbrev pub node_text : Names → Deployment → ℕ → Recorded M → List ℕ
  node_text names d node recorded =
      line (codes "circus node 1 " ++ names.node node) ++ happened_lines names 0 recorded.happened ++ node_lines names d node recorded.node
