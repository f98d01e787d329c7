-- A sample comes to the same with the behaviours of its modules, and so does what is written of it.
use Rattle.std.proofs.Common.{◌≡◌, ℕ, zero, suc, ◌+◌, List, [], ◌∷◌, ◌++◌, length, map, Option, Ok, Err, refl, sym, ap, ◌∙◌}
use Rattle.std.specs.Prelude.{not, ◌&&◌, if◌then◌else◌, slice_get, codes}
use Rattle.std.specs.Fmt.{decimal}
use Rattle.std.specs.Option.{option_map_or}
use Rattle.std.proofs.lemmas.List.{length-map}
use Rattle.circus_value.specs.ValueTree.{ValueTree}
use Rattle.circus_value.specs.declared.outcome.Outcome.{Outcome}
use Rattle.circus_collate.specs.declared.deployment.Deployment.{Deployment}
use Rattle.circus_model.specs.NextTurn.{NextTurn}
use Rattle.circus_model.specs.Behaviour.{Behaviour}
use Rattle.circus_model.specs.declared.signature.Signature.{Signature}
use Rattle.circus_record.specs.declared.record.MemberRecord.{MemberRecord}
use Rattle.circus_record.specs.Line.{line}
use Rattle.circus_record.specs.Naming.{Names}
use Rattle.circus_node.specs.NodeState.{Acting, member, ringmaster, member_record}
use Rattle.circus_node.specs.Alike.{declared_of, turn_of, acting_as}
use Rattle.circus_schedule.specs.declared.sample.Facts.{Facts}
use Rattle.circus_schedule.specs.Sampling.{word_behind, line_drawn}
use Rattle.circus_world.specs.WorldState.{WorldState, Standing}
use Rattle.circus_world.specs.Legal.{is_spare}
use Rattle.circus_world.specs.Course.{Stepped, step_line}
use Rattle.circus_world.specs.Boot.{then_others}
use Rattle.circus_world.specs.Alike.{standing_as, world_as, step_as}
use Rattle.circus_world.proofs.WorldsAlike.{world_stepped_as}
use Rattle.circus_simulation.specs.Sampled.{spares_from, facts_of, lines_behind, sample_lines, lines_drawn}
use Rattle.circus_simulation.specs.Summary.{count_line, count_lines, summary}

module _ {M : Type 0} (declared : M → Signature) (turn : M → List ValueTree → ℕ → List ValueTree → List Outcome → NextTurn) (first : M → List ValueTree) where
  abbrev one : Standing M → Standing Behaviour
  one s = standing_as declared turn first s

  abbrev seen : WorldState M → WorldState Behaviour
  seen w = world_as declared turn first w

  -- ---- lines

  spares_as : (d : Deployment) (number : ℕ) (nodes : List (Standing M)) → spares_from d number (map one nodes) ≡ spares_from d number nodes
  spares_as d number [] = refl
  spares_as d number (s ∷ nodes) = ap (λ l. if is_spare d number && not s.joins then number ∷ l else l) (spares_as d (number + 1) nodes)

  facts_as : (w : WorldState M) → facts_of (seen w) ≡ facts_of w
  facts_as w =
      let known : ℕ → List ℕ → Facts = λ count spares. record { sent = length w.sent; nodes = count; spare = slice_get spares 0 } in
      ap (λ n. known n (spares_from w.deployment 0 (map one w.nodes))) (length-map w.nodes one)
      ∙ ap (known (length w.nodes)) (spares_as w.deployment 0 w.nodes)

  -- and then the lines that are left
  then_as : (left word : ℕ) → ((w : WorldState M) → step_as declared turn first (sample_lines declared turn left word w) ≡ sample_lines declared_of turn_of left word (seen w))
      → (s : Stepped M)
      → step_as declared turn first (then_others (sample_lines declared turn left word) s) ≡ then_others (sample_lines declared_of turn_of left word) (step_as declared turn first s)
  then_as left word same (Ok next) = same next
  then_as left word same (Err nodes) = refl

  pub sampled_as : (steps word : ℕ) (w : WorldState M)
      → step_as declared turn first (sample_lines declared turn steps word w) ≡ sample_lines declared_of turn_of steps word (seen w)
  sampled_as zero word w = refl
  sampled_as (suc left) word w =
      let next = word_behind word in
      let drawn = line_drawn next (facts_of w) in
      then_as left next (sampled_as left next) (step_line declared turn drawn w)
      ∙ ap (then_others (sample_lines declared_of turn_of left next))
      (world_stepped_as declared turn first drawn w ∙ ap (λ f. step_line declared_of turn_of (line_drawn next f) (seen w)) (sym (facts_as w)))

  -- and the lines themselves
  lines_then_as : (left word : ℕ)
      → ((w : WorldState M) → lines_drawn declared_of turn_of left word (seen w) ≡ lines_drawn declared turn left word w)
      → (s : Stepped M)
      → lines_behind (lines_drawn declared_of turn_of left word) (step_as declared turn first s) ≡ lines_behind (lines_drawn declared turn left word) s
  lines_then_as left word same (Ok next) = same next
  lines_then_as left word same (Err nodes) = refl

  pub lines_drawn_as : (steps word : ℕ) (w : WorldState M)
      → lines_drawn declared_of turn_of steps word (seen w) ≡ lines_drawn declared turn steps word w
  lines_drawn_as zero word w = refl
  lines_drawn_as (suc left) word w =
      let next = word_behind word in
      let drawn = line_drawn next (facts_of w) in
      ap (λ f. line_drawn next f ∷ lines_behind (lines_drawn declared_of turn_of left next) (step_line declared_of turn_of (line_drawn next f) (seen w))) (facts_as w)
      ∙ ap (λ e. drawn ∷ lines_behind (lines_drawn declared_of turn_of left next) e) (sym (world_stepped_as declared turn first drawn w))
      ∙ ap (λ l. drawn ∷ l) (lines_then_as left next (lines_drawn_as left next) (step_line declared turn drawn w))

  -- ---- texts

  record_as : (a : Acting M) → member_record (acting_as declared turn first a) ≡ member_record a
  record_as (member m) = refl
  record_as (ringmaster kept) = refl

  counts_as : (names : Names) (node : ℕ) (nodes : List (Standing M)) → count_lines names node (map one nodes) ≡ count_lines names node nodes
  counts_as names node [] = refl
  counts_as names node (s ∷ nodes) =
      let told : Option MemberRecord → List ℕ → List ℕ = λ kept others. option_map_or (count_line names node) kept [] ++ others in
      ap (λ kept. told kept (count_lines names (node + 1) (map one nodes))) (record_as s.node.acting)
      ∙ ap (told (member_record s.node.acting)) (counts_as names (node + 1) nodes)

  pub summary_as : (names : Names) (steps : ℕ) (w : WorldState M) → summary names steps (seen w) ≡ summary names steps w
  summary_as names steps w =
      let front = line (codes "circus sample 1") ++ line (codes "lines " ++ decimal steps) ++ line (codes "sent " ++ decimal (length w.sent)) in
      ap (λ counts. front ++ counts) (counts_as names 0 w.nodes)
