-- A picture is the same with the behaviours of its modules.
use Rattle.std.proofs.Common.{◌≡◌, ℕ, ◌+◌, List, [], ◌∷◌, ◌++◌, length, map, Option, refl, sym, ap, ◌∙◌}
use Rattle.std.specs.Option.{option_map_or}
use Rattle.circus_value.specs.ValueTree.{ValueTree}
use Rattle.circus_value.specs.declared.outcome.Outcome.{Outcome}
use Rattle.circus_model.specs.NextTurn.{NextTurn}
use Rattle.circus_model.specs.Behaviour.{Behaviour}
use Rattle.circus_model.specs.declared.signature.Signature.{Signature}
use Rattle.circus_idl.specs.declared.interface.Procedure.{Procedure}
use Rattle.circus_record.specs.declared.record.MemberRecord.{MemberRecord}
use Rattle.circus_record.specs.Naming.{Names}
use Rattle.circus_node.specs.Alike.{declared_of, turn_of}
use Rattle.circus_schedule.specs.declared.line.Line.{Line}
use Rattle.circus_world.specs.declared.cause.LineCause.{LineCause}
use Rattle.circus_world.specs.WorldState.{WorldState, Standing}
use Rattle.circus_world.specs.Legal.{refusal}
use Rattle.circus_world.specs.Course.{step_line}
use Rattle.circus_world.specs.Alike.{standing_as, world_as}
use Rattle.circus_world.proofs.WorldsAlike.{refusal_as, world_stepped_as}
use Rattle.circus_settle.proofs.Alike.{record_as}
use Rattle.circus_picture.specs.Row.{width}
use Rattle.circus_picture.specs.Deeds.{Deed, deeds_of_member, deeds_of_node, deeds_of}
use Rattle.circus_picture.specs.Rows.{Scene, left_below, left_rows}
use Rattle.circus_picture.specs.Picture.{beginning, middle, picture_text}
use Rattle.circus_commands.specs.declared.status.Status.TheVariants.{Done}
use Rattle.circus_commands.specs.Ending.{Ending}
use Rattle.circus_simulation.specs.Booted.{after_step}
use Rattle.circus_program.specs.Replay.{cause_text, refuse_line, follow_lines, picture_lines}
use Rattle.circus_program.proofs.ReplaysAlike.{after_as}

module _ {M : Type 0} (declared : M → Signature) (turn : M → List ValueTree → ℕ → List ValueTree → List Outcome → NextTurn) (first : M → List ValueTree) where
  abbrev one : Standing M → Standing Behaviour
  one s = standing_as declared turn first s

  abbrev seen : WorldState M → WorldState Behaviour
  seen w = world_as declared turn first w

  crashes_as : (nodes : List (Standing M)) → map (λ (s : Standing Behaviour). s.crashed) (map one nodes) ≡ map (λ (s : Standing M). s.crashed) nodes
  crashes_as [] = refl
  crashes_as (s ∷ nodes) = ap (λ l. s.crashed ∷ l) (crashes_as nodes)

  deeds_as : (node : ℕ) (nodes : List (Standing M)) → deeds_of node (map one nodes) ≡ deeds_of node nodes
  deeds_as node [] = refl
  deeds_as node (s ∷ nodes) =
      let told : Option MemberRecord → List Deed = λ o. option_map_or (deeds_of_member node) o [] in
      ap (λ o. told o ++ deeds_of (node + 1) (map one nodes)) (record_as declared turn first s.node.acting)
      ∙ ap (λ l. deeds_of_node node s ++ l) (deeds_as (node + 1) nodes)

  picture_as : (names : Names) (procedures : List (List Procedure)) (lines : List Line) (w : WorldState M) → picture_text names procedures lines (seen w) ≡ picture_text names procedures lines w
  picture_as names procedures lines w =
      let scene : List (Option ℕ) → Scene = λ crashes. record { names = names; procedures = procedures; width = width w.deployment.nodes; crashes = crashes; sent = w.sent } in
      let told : List (Option ℕ) → List Deed → List ℕ = λ crashes deeds.
      beginning w.deployment.nodes ++ middle (scene crashes) deeds lines ++ left_rows (scene crashes) (length lines) (left_below lines (length w.sent)) in
      (λ i. told (crashes_as w.nodes i) (deeds_as 0 w.nodes i))

  -- ---- lines

  followed_as : (names : Names) (end : WorldState M → Ending) (also : WorldState Behaviour → Ending) → ((w : WorldState M) → end w ≡ also (seen w)) → (number : ℕ) (lines : List Line) (w : WorldState M)
      → follow_lines declared turn names end number lines w ≡ follow_lines declared_of turn_of names also number lines (seen w)
  followed_as names end also same number [] w = same w
  followed_as names end also same number (line ∷ lines) w =
      let next : WorldState M → Ending = follow_lines declared turn names end (number + 1) lines in
      let other : WorldState Behaviour → Ending = follow_lines declared_of turn_of names also (number + 1) lines in
      let unless : Option LineCause → Ending → Ending = λ o e. option_map_or (λ cause. refuse_line number (cause_text names cause)) o e in
      ap (unless (refusal w line)) (
      after_as declared turn first names next other (λ after. followed_as names end also same (number + 1) lines after) (step_line declared turn line w)
      ∙ ap (after_step names other) (world_stepped_as declared turn first line w))
      ∙ ap (λ o. unless o (after_step names other (step_line declared_of turn_of line (seen w)))) (sym (refusal_as declared turn first line w))

  pub pictured_as : (names : Names) (procedures : List (List Procedure)) (lines : List Line) (w : WorldState M)
      → picture_lines declared turn names procedures lines w ≡ picture_lines (λ (b : Behaviour). b.declared) (λ (b : Behaviour). b.turn) names procedures lines (seen w)
  pictured_as names procedures lines w =
      let done : List ℕ → Ending = λ text. record { status = Done; text = text } in
      followed_as names (λ last. done (picture_text names procedures lines last)) (λ last. done (picture_text names procedures lines last))
      (λ last. ap done (sym (picture_as names procedures lines last))) 1 lines w
