-- What is written of a sample.
use Rattle.std.specs.Prelude.{ℕ, ◌+◌, List, [], ◌∷◌, ◌++◌, if◌then◌else◌, codes, length}
use Rattle.std.specs.Option.{option_map_or}
use Rattle.std.specs.Fmt.{decimal}
use Rattle.circus_record.specs.Line.{line}
use Rattle.circus_record.specs.Naming.{Names}
use Rattle.circus_record.specs.declared.record.MemberRecord.{MemberRecord}
use Rattle.circus_performing.specs.Performing.{is_active}
use Rattle.circus_node.specs.NodeState.{member_record}
use Rattle.circus_world.specs.WorldState.{WorldState, Standing}

-- the call that an active member performs next
abbrev pub count_line : Names → ℕ → MemberRecord → List ℕ
count_line names node kept =
    if is_active kept.phase then line (codes "member " ++ names.node node ++ codes " count " ++ decimal kept.count) else []

module _ {M : Type 0} where
  -- the member at a node
  abbrev pub count_at : Names → ℕ → Standing M → List ℕ
  count_at names node s = option_map_or (count_line names node) (member_record s.node.acting) []

  -- the active members of nodes in their order, the first having this number
  abbrev pub count_lines : Names → ℕ → List (Standing M) → List ℕ
  count_lines names node [] = []
  count_lines names node (s ∷ nodes) = count_at names node s ++ count_lines names (node + 1) nodes

  -- how many lines were stepped, how much was sent, and which calls members perform next
  abbrev pub summary : Names → ℕ → WorldState M → List ℕ
  summary names steps w =
      line (codes "circus sample 1")
      ++ line (codes "lines " ++ decimal steps)
      ++ line (codes "sent " ++ decimal (length w.sent))
      ++ count_lines names 0 w.nodes
