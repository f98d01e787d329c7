-- What one line adds to a replay.
use Rattle.std.proofs.Common.{◌≡◌, ℕ, ◌+◌, List, ◌∷◌, length, Option, Some, None, Ok, Err, ap, ◌∙◌}
use Rattle.std.specs.Option.{option_map_or}
use Rattle.circus_value.specs.ValueTree.{ValueTree}
use Rattle.circus_value.specs.declared.outcome.Outcome.{Outcome}
use Rattle.circus_model.specs.NextTurn.{NextTurn}
use Rattle.circus_model.specs.declared.signature.Signature.{Signature}
use Rattle.circus_record.specs.Naming.{Names}
use Rattle.circus_schedule.specs.declared.line.Line.{Line}
use Rattle.circus_world.specs.declared.cause.LineCause.{LineCause}
use Rattle.circus_world.specs.WorldState.{WorldState}
use Rattle.circus_world.specs.Legal.{refusal}
use Rattle.circus_world.specs.Course.{Stepped, step_line}
use Rattle.circus_report.specs.Run.{sent_from}
use Rattle.circus_commands.specs.Ending.{Ending}
use Rattle.circus_commands.specs.Spent.{end_of_spent}
use Rattle.circus_simulation.specs.Booted.{after_step}
use Rattle.circus_program.specs.Replay.{cause_text, refuse_line, behind, replay_lines}

module _ {M : Type 0} (declared : M → Signature) (turn : M → List ValueTree → ℕ → List ValueTree → List Outcome → NextTurn) where
  -- what comes after it
  abbrev after_line : Names → ℕ → List Line → WorldState M → Stepped M → Ending
  after_line names number lines w s = after_step names (λ after. behind (sent_from (length w.sent) after) (replay_lines declared turn names (number + 1) lines after)) s

  replayed_legal : (names : Names) (number : ℕ) (line : Line) (lines : List Line) (w : WorldState M) → refusal w line ≡ None
      → replay_lines declared turn names number (line ∷ lines) w ≡ after_line names number lines w (step_line declared turn line w)
  replayed_legal names number line lines w legal =
      ap (λ (o : Option LineCause). option_map_or (λ cause. refuse_line number (cause_text names cause)) o (after_line names number lines w (step_line declared turn line w))) legal

  pub replayed_stepped : (names : Names) (number : ℕ) (line : Line) (lines : List Line) (w next : WorldState M) → refusal w line ≡ None → step_line declared turn line w ≡ Ok next
      → replay_lines declared turn names number (line ∷ lines) w ≡ behind (sent_from (length w.sent) next) (replay_lines declared turn names (number + 1) lines next)
  replayed_stepped names number line lines w next legal is = replayed_legal names number line lines w legal ∙ ap (after_line names number lines w) is

  pub replayed_spent : (names : Names) (number : ℕ) (line : Line) (lines : List Line) (w : WorldState M) (nodes : ℕ × ℕ) → refusal w line ≡ None → step_line declared turn line w ≡ Err nodes
      → replay_lines declared turn names number (line ∷ lines) w ≡ end_of_spent names nodes
  replayed_spent names number line lines w nodes legal is = replayed_legal names number line lines w legal ∙ ap (after_line names number lines w) is

  pub replayed_refused : (names : Names) (number : ℕ) (line : Line) (lines : List Line) (w : WorldState M) (cause : LineCause) → refusal w line ≡ Some cause
      → replay_lines declared turn names number (line ∷ lines) w ≡ refuse_line number (cause_text names cause)
  replayed_refused names number line lines w cause is =
      ap (λ (o : Option LineCause). option_map_or (λ cause. refuse_line number (cause_text names cause)) o (after_line names number lines w (step_line declared turn line w))) is
