-- What a report shows of a run, and that the copies in it agree.
use Rattle.std.specs.Prelude.{ℕ, ◌≡◌, ◌+◌, true, List, [], ◌∷◌, ◌++◌, codes, length, map, slice_get, Option, Some}
use Rattle.std.specs.Option.{option_map_or}
use Rattle.std.specs.Fmt.{decimal}
use Rattle.circus_collate.specs.declared.view.View.{View}
use Rattle.circus_collate.specs.declared.deployment.Host.{Host}
use Rattle.circus_collate.specs.declared.deployment.Deployment.{Deployment}
use Rattle.circus_collate.specs.declared.deployment.Troupe.{Troupe}
use Rattle.circus_model.specs.Behaviour.{Behaviour}
use Rattle.circus_model.specs.Agree.{IsAt}
use Rattle.circus_model.specs.Execution.{history_of}
use Rattle.circus_record.specs.declared.record.MemberRecord.{MemberRecord}
use Rattle.circus_record.specs.Line.{line}
use Rattle.circus_record.specs.Naming.{Names}
use Rattle.circus_record.specs.MemberText.{member_lines}
use Rattle.circus_performing.specs.Performing.{is_active}
use Rattle.circus_value.specs.Among.{is_among}
use Rattle.circus_node.specs.Accepting.{troupe_at, is_root}
use Rattle.circus_world_theory.specs.Done.{IsDone}
use Rattle.circus_node.specs.NodeState.{member_record, ring_views}
use Rattle.circus_world.specs.Sent.{Sent}
use Rattle.circus_world.specs.WorldState.{WorldState, Standing}
use Rattle.circus_report.specs.Report.{first_line, sent_lines}
use Rattle.circus_report.specs.ViewLines.{ringmaster_line, views_lines}
use Rattle.circus_simulation.specs.Summary.{count_line}
use Rattle.circus_member_theory.specs.Stands.{Stands}

-- a node: the record of its member, none at the Ringmaster's, and the step in which it crashed
pub record NodeFacts : Type 0 where
  pub member : Option MemberRecord
  pub crashed : Option ℕ

pub record Facts : Type 0 where
  -- everything that was sent, in order: the place of a datagram is its number
  pub sent : List Sent
  -- the nodes by their numbers
  pub nodes : List NodeFacts
  -- those that the Ringmaster keeps
  pub views : List View

-- ---- the copies agree

-- what each active member performed are the next runs of its module in the history of the program
abbrev pub AllStand : Deployment → List Behaviour → Facts → Type 0
AllStand d program facts =
    (node troupe : ℕ) (n : NodeFacts) (b : Behaviour) (kept : MemberRecord)
    → slice_get facts.nodes node ≡ Some n → n.member ≡ Some kept → troupe_at d node ≡ Some troupe → IsAt program troupe b
    → is_active kept.phase ≡ true → Stands (history_of program) troupe b.first kept

-- ---- the roots have ended

-- each founder of each root has performed its one run to the end
abbrev pub RootsEnd : Deployment → Facts → Type 0
RootsEnd d facts =
    (node troupe : ℕ) (t : Troupe) (n : NodeFacts) (kept : MemberRecord)
    → is_root d troupe ≡ true → slice_get d.troupes troupe ≡ Some t → is_among t.founders node ≡ true
    → slice_get facts.nodes node ≡ Some n → n.member ≡ Some kept → IsDone kept

-- ---- the report

-- the member at a node of this number, whose host is this
abbrev pub member_text : Names → ℕ → Host → NodeFacts → List ℕ
member_text names number host n =
    option_map_or (λ troupe. option_map_or (member_lines names number troupe n.crashed) n.member []) host.module []

-- the members of nodes in their order, the first having this number
abbrev pub members_text : Names → ℕ → List Host → List NodeFacts → List ℕ
members_text names number [] nodes = []
members_text names number (host ∷ hosts) [] = []
members_text names number (host ∷ hosts) (n ∷ nodes) = member_text names number host n ++ members_text names (number + 1) hosts nodes

-- the Ringmaster, which is at the first node
abbrev pub ring_text : Names → Facts → List ℕ
ring_text names facts =
    option_map_or (λ (n : NodeFacts). ringmaster_line names n.crashed ++ views_lines names facts.views) (slice_get facts.nodes 0) []

-- the datagrams, behind the first line
abbrev pub sent_text : Names → Facts → List ℕ
sent_text names facts = first_line ++ sent_lines names 0 facts.sent

abbrev pub report_of : Names → List Host → Facts → List ℕ
report_of names hosts facts = sent_text names facts ++ (ring_text names facts ++ members_text names 0 hosts facts.nodes)

-- ---- the summary of a sample

abbrev pub counts_text : Names → ℕ → List NodeFacts → List ℕ
counts_text names number [] = []
counts_text names number (n ∷ nodes) = option_map_or (count_line names number) n.member [] ++ counts_text names (number + 1) nodes

abbrev pub summary_head : ℕ → Facts → List ℕ
summary_head steps facts =
    line (codes "circus sample 1") ++ line (codes "lines " ++ decimal steps) ++ line (codes "sent " ++ decimal (length facts.sent))

abbrev pub summary_of : Names → ℕ → Facts → List ℕ
summary_of names steps facts = summary_head steps facts ++ counts_text names 0 facts.nodes

-- ---- what is written of a program that has settled

abbrev pub settled_of : Names → List Host → ℕ → Facts → List ℕ
settled_of names hosts given facts =
    line (codes "circus settle 1") ++ line (codes "deliveries " ++ decimal given)
    ++ (ring_text names facts ++ members_text names 0 hosts facts.nodes)

-- ---- those of a world

module _ {M : Type 0} where
  abbrev pub node_facts : Standing M → NodeFacts
  node_facts s = record { member = member_record s.node.acting; crashed = s.crashed }

  abbrev pub ring_facts : Standing M → List View
  ring_facts s = option_map_or (λ views. views) (ring_views s.node.acting) []

  abbrev pub facts_of : WorldState M → Facts
  facts_of w = record { sent = w.sent; nodes = map node_facts w.nodes; views = option_map_or ring_facts (slice_get w.nodes 0) [] }
