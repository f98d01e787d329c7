-- The text of a world: what was sent, the Ringmaster's views, and the members.
use Rattle.std.specs.Prelude.{ℕ, ◌+◌, List, [], ◌∷◌, ◌++◌, codes, slice_get}
use Rattle.std.specs.Option.{option_map_or}
use Rattle.std.specs.Fmt.{decimal}
use Rattle.hex.specs.Hex.{encode_lower}
use Rattle.circus_collate.specs.declared.deployment.Host.{Host}
use Rattle.circus_record.specs.Line.{line}
use Rattle.circus_record.specs.Naming.{Names}
use Rattle.circus_record.specs.MemberText.{member_lines}
use Rattle.circus_node.specs.NodeState.{member_record, ring_views}
use Rattle.circus_world.specs.Sent.{Sent}
use Rattle.circus_world.specs.WorldState.{WorldState, Standing}
use Rattle.circus_report.specs.ViewLines.{ringmaster_line, views_lines}

abbrev pub first_line : List ℕ
first_line = line (codes "circus report 1")

-- when a datagram was sent, and by whom to whom
abbrev pub sent_head : Names → ℕ → Sent → List ℕ
sent_head names number sent =
    codes "datagram " ++ decimal number ++ codes " step " ++ decimal sent.step ++ codes " from " ++ names.node sent.from

-- a datagram with its number
abbrev pub sent_line : Names → ℕ → Sent → List ℕ
sent_line names number sent =
    sent_head names number sent ++ line (codes " to " ++ names.node sent.to ++ codes " " ++ encode_lower sent.bytes)

-- datagrams, the first having this number
abbrev pub sent_lines : Names → ℕ → List Sent → List ℕ
sent_lines names number [] = []
sent_lines names number (sent ∷ others) = sent_line names number sent ++ sent_lines names (number + 1) others

module _ {M : Type 0} where
  -- the member at a node, whose host is this
  abbrev pub member_at : Names → ℕ → Host → Standing M → List ℕ
  member_at names number host s =
      option_map_or (λ troupe. option_map_or (member_lines names number troupe s.crashed) (member_record s.node.acting) []) host.module []

  -- the members of nodes in their order, the first having this number
  abbrev pub members_lines : Names → ℕ → List Host → List (Standing M) → List ℕ
  members_lines names number [] nodes = []
  members_lines names number (host ∷ hosts) [] = []
  members_lines names number (host ∷ hosts) (s ∷ nodes) = member_at names number host s ++ members_lines names (number + 1) hosts nodes

  -- the Ringmaster
  abbrev pub ring_lines : Names → Standing M → List ℕ
  ring_lines names s = ringmaster_line names s.crashed ++ option_map_or (views_lines names) (ring_views s.node.acting) []

  -- the Ringmaster of a world
  abbrev pub ring_text : Names → WorldState M → List ℕ
  ring_text names w = option_map_or (ring_lines names) (slice_get w.nodes 0) []

  -- what stands behind the datagrams
  abbrev pub rest_text : Names → WorldState M → List ℕ
  rest_text names w = ring_text names w ++ members_lines names 0 w.deployment.nodes w.nodes

  abbrev pub report_text : Names → WorldState M → List ℕ
  report_text names w = first_line ++ sent_lines names 0 w.sent ++ rest_text names w
