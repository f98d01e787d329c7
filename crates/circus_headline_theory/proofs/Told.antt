-- The report of a world is that of its facts, and so is the summary of a sample.
use Rattle.std.proofs.Common.{◌≡◌, ℕ, ◌+◌, List, [], ◌∷◌, ◌++◌, map, Option, Some, None, refl, ap, ◌∙◌}
use Rattle.std.specs.Prelude.{slice_get, codes}
use Rattle.std.specs.Option.{option_map_or}
use Rattle.std.specs.Fmt.{decimal}
use Rattle.circus_collate.specs.declared.view.View.{View}
use Rattle.circus_collate.specs.declared.deployment.Host.{Host}
use Rattle.circus_record.specs.Line.{line}
use Rattle.circus_record.specs.Naming.{Names}
use Rattle.circus_node.specs.NodeState.{ring_views}
use Rattle.circus_world.specs.WorldState.{WorldState, Standing}
use Rattle.circus_report.specs.Report.{members_lines, member_at, ring_lines, rest_text, report_text, first_line, sent_lines}
use Rattle.circus_report.specs.ViewLines.{ringmaster_line, views_lines}
use Rattle.circus_simulation.specs.Summary.{count_at, count_lines, summary}
use Rattle.circus_settle.specs.Summary.{settled_text}
use Rattle.circus_headline_theory.specs.Facts.{NodeFacts, members_text, ring_text, counts_text, report_of, summary_head, summary_of, settled_of, node_facts, ring_facts, facts_of}

views_so : (names : Names) (o : Option (List View)) → option_map_or (views_lines names) o [] ≡ views_lines names (option_map_or (λ views. views) o [])
views_so names None = refl
views_so names (Some views) = refl

module _ {M : Type 0} (names : Names) where
  members_so : (number : ℕ) (hosts : List Host) (nodes : List (Standing M)) → members_lines names number hosts nodes ≡ members_text names number hosts (map node_facts nodes)
  members_so number [] nodes = refl
  members_so number (host ∷ hosts) [] = refl
  members_so number (host ∷ hosts) (s ∷ nodes) = ap (λ l. member_at names number host s ++ l) (members_so (number + 1) hosts nodes)

  ring_so : (nodes : List (Standing M)) → option_map_or (ring_lines names) (slice_get nodes 0) []
      ≡ option_map_or (λ (n : NodeFacts). ringmaster_line names n.crashed ++ views_lines names (option_map_or ring_facts (slice_get nodes 0) [])) (slice_get (map node_facts nodes) 0) []
  ring_so [] = refl
  ring_so (s ∷ nodes) = ap (λ l. ringmaster_line names s.crashed ++ l) (views_so names (ring_views s.node.acting))

  pub rest_is_told : (w : WorldState M) → rest_text names w ≡ ring_text names (facts_of w) ++ members_text names 0 w.deployment.nodes (facts_of w).nodes
  rest_is_told w =
      ap (λ l. l ++ members_lines names 0 w.deployment.nodes w.nodes) (ring_so w.nodes)
      ∙ ap (λ l. ring_text names (facts_of w) ++ l) (members_so 0 w.deployment.nodes w.nodes)

  counts_so : (number : ℕ) (nodes : List (Standing M)) → count_lines names number nodes ≡ counts_text names number (map node_facts nodes)
  counts_so number [] = refl
  counts_so number (s ∷ nodes) = ap (λ l. count_at names number s ++ l) (counts_so (number + 1) nodes)

  pub report_is_told : (w : WorldState M) → report_text names w ≡ report_of names w.deployment.nodes (facts_of w)
  report_is_told w = ap (λ l. first_line ++ sent_lines names 0 w.sent ++ l) (rest_is_told w)

  pub summary_is_told : (steps : ℕ) (w : WorldState M) → summary names steps w ≡ summary_of names steps (facts_of w)
  summary_is_told steps w = ap (λ l. summary_head steps (facts_of w) ++ l) (counts_so 0 w.nodes)

  pub settled_is_told : (given : ℕ) (w : WorldState M) → settled_text names given w ≡ settled_of names w.deployment.nodes given (facts_of w)
  settled_is_told given w = ap (λ l. line (codes "circus settle 1") ++ line (codes "deliveries " ++ decimal given) ++ l) (rest_is_told w)
