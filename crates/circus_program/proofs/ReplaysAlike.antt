-- A replay comes to the same end with the behaviours of its modules.
use Rattle.std.proofs.Common.{◌≡◌, ℕ, ◌+◌, List, [], ◌∷◌, length, Option, Ok, Err, refl, sym, ap, ◌∙◌}
use Rattle.std.specs.Option.{option_map_or}
use Rattle.circus_value.specs.ValueTree.{ValueTree}
use Rattle.circus_value.specs.declared.outcome.Outcome.{Outcome}
use Rattle.circus_model.specs.NextTurn.{NextTurn}
use Rattle.circus_model.specs.Behaviour.{Behaviour}
use Rattle.circus_model.specs.declared.signature.Signature.{Signature}
use Rattle.circus_record.specs.Naming.{Names}
use Rattle.circus_node.specs.Alike.{declared_of, turn_of}
use Rattle.circus_schedule.specs.declared.line.Line.{Line}
use Rattle.circus_world.specs.declared.cause.LineCause.{LineCause}
use Rattle.circus_world.specs.WorldState.{WorldState}
use Rattle.circus_world.specs.Legal.{refusal}
use Rattle.circus_world.specs.Course.{Stepped, step_line}
use Rattle.circus_world.specs.Alike.{world_as, step_as}
use Rattle.circus_world.proofs.WorldsAlike.{refusal_as, world_stepped_as}
use Rattle.circus_settle.proofs.Alike.{rest_as}
use Rattle.circus_report.specs.Run.{beginning, sent_from}
use Rattle.circus_commands.specs.declared.status.Status.TheVariants.{Done}
use Rattle.circus_commands.specs.Ending.{Ending}
use Rattle.circus_simulation.specs.Booted.{after_step}
use Rattle.circus_program.specs.Replay.{cause_text, refuse_line, behind, replay_lines, replayed_whole}

module _ {M : Type 0} (declared : M → Signature) (turn : M → List ValueTree → ℕ → List ValueTree → List Outcome → NextTurn) (first : M → List ValueTree) where
  abbrev seen : WorldState M → WorldState Behaviour
  seen w = world_as declared turn first w

  -- ---- lines

  -- the same comes after a step
  pub after_as : (names : Names) (next : WorldState M → Ending) (also : WorldState Behaviour → Ending) → ((w : WorldState M) → next w ≡ also (seen w))
      → (s : Stepped M) → after_step names next s ≡ after_step names also (step_as declared turn first s)
  after_as names next also same (Ok w) = same w
  after_as names next also same (Err nodes) = refl

  replayed_as : (names : Names) (number : ℕ) (lines : List Line) (w : WorldState M)
      → replay_lines declared turn names number lines w ≡ replay_lines declared_of turn_of names number lines (seen w)
  replayed_as names number [] w =
      let done : List ℕ → Ending = λ text. record { status = Done; text = text } in
      ap done (sym (rest_as declared turn first names w))
  replayed_as names number (line ∷ lines) w =
      let next : WorldState M → Ending = λ after. behind (sent_from (length w.sent) after) (replay_lines declared turn names (number + 1) lines after) in
      let also : WorldState Behaviour → Ending = λ after. behind (sent_from (length w.sent) after) (replay_lines declared_of turn_of names (number + 1) lines after) in
      let unless : Option LineCause → Ending → Ending = λ o e. option_map_or (λ cause. refuse_line number (cause_text names cause)) o e in
      ap (unless (refusal w line)) (
      after_as names next also (λ after. ap (behind (sent_from (length w.sent) after)) (replayed_as names (number + 1) lines after)) (step_line declared turn line w)
      ∙ ap (after_step names also) (world_stepped_as declared turn first line w))
      ∙ ap (λ o. unless o (after_step names also (step_line declared_of turn_of line (seen w)))) (sym (refusal_as declared turn first line w))

  pub whole_as : (names : Names) (lines : List Line) (w : WorldState M)
      → replayed_whole declared turn names lines w ≡ replayed_whole (λ (b : Behaviour). b.declared) (λ (b : Behaviour). b.turn) names lines (seen w)
  whole_as names lines w = ap (behind (beginning w)) (replayed_as names 1 lines w)
