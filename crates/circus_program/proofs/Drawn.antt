-- What a picture comes to: the same as the replay of its lines, but for what is written.
use Rattle.std.proofs.Common.{◌≡◌, ℕ, ◌+◌, Option, Some, None, List, [], ◌∷◌, ◌++◌, append_assoc, length, Ok, Err, refl, sym, ap, ◌∙◌}
use Rattle.std.specs.Option.{option_map_or}
use Rattle.circus_value.specs.ValueTree.{ValueTree}
use Rattle.circus_value.specs.declared.outcome.Outcome.{Outcome}
use Rattle.circus_model.specs.NextTurn.{NextTurn}
use Rattle.circus_model.specs.Behaviour.{Behaviour}
use Rattle.circus_model.specs.declared.signature.Signature.{Signature}
use Rattle.circus_record.specs.Naming.{Names}
use Rattle.circus_node.specs.Alike.{declared_of, turn_of}
use Rattle.circus_schedule.specs.declared.line.Line.{Line}
use Rattle.circus_world.specs.declared.cause.LineCause.{LineCause}
use Rattle.circus_world.specs.WorldState.{WorldState}
use Rattle.circus_world.specs.Legal.{refusal}
use Rattle.circus_world.specs.Course.{Stepped, step_line}
use Rattle.circus_world.specs.Lines.{Lead}
use Rattle.circus_report.specs.Run.{beginning, sent_from}
use Rattle.circus_picture.specs.Picture.{procedures_in, picture_text}
use Rattle.circus_config.specs.declared.plan.Plan.{Plan}
use Rattle.circus_commands.specs.declared.status.Status.TheVariants.{Done}
use Rattle.circus_commands.specs.Ending.{Ending}
use Rattle.circus_commands.specs.Spent.{end_of_spent}
use Rattle.circus_simulation.specs.Booted.{boot_world, names_in, after_step}
use Rattle.circus_program.specs.Replay.{cause_text, refuse_line, behind, replay_lines, replayed_whole, follow_lines, picture_lines, replay_of, picture_of}
use Rattle.circus_program.specs.Worlds.{AreLed}

-- unless a line may not be stepped
abbrev unless : Names → ℕ → Option LineCause → Ending → Ending
unless names number o next = option_map_or (λ cause. refuse_line number (cause_text names cause)) o next

-- ---- lines

module _ {M : Type 0} (declared : M → Signature) (turn : M → List ValueTree → ℕ → List ValueTree → List Outcome → NextTurn) where
  -- what comes after a line
  abbrev after : Names → (WorldState M → Ending) → ℕ → List Line → Stepped M → Ending
  after names end number lines s = after_step names (follow_lines declared turn names end (number + 1) lines) s

  followed_legal : (names : Names) (end : WorldState M → Ending) (number : ℕ) (line : Line) (lines : List Line) (w : WorldState M) → refusal w line ≡ None
      → follow_lines declared turn names end number (line ∷ lines) w ≡ after names end number lines (step_line declared turn line w)
  followed_legal names end number line lines w legal = ap (λ o. unless names number o (after names end number lines (step_line declared turn line w))) legal

  pub followed_stepped : (names : Names) (end : WorldState M → Ending) (number : ℕ) (line : Line) (lines : List Line) (w next : WorldState M) → refusal w line ≡ None → step_line declared turn line w ≡ Ok next
      → follow_lines declared turn names end number (line ∷ lines) w ≡ follow_lines declared turn names end (number + 1) lines next
  followed_stepped names end number line lines w next legal is = followed_legal names end number line lines w legal ∙ ap (after names end number lines) is

  pub followed_spent : (names : Names) (end : WorldState M → Ending) (number : ℕ) (line : Line) (lines : List Line) (w : WorldState M) (nodes : ℕ × ℕ) → refusal w line ≡ None → step_line declared turn line w ≡ Err nodes
      → follow_lines declared turn names end number (line ∷ lines) w ≡ end_of_spent names nodes
  followed_spent names end number line lines w nodes legal is = followed_legal names end number line lines w legal ∙ ap (after names end number lines) is

  pub followed_refused : (names : Names) (end : WorldState M → Ending) (number : ℕ) (line : Line) (lines : List Line) (w : WorldState M) (cause : LineCause) → refusal w line ≡ Some cause
      → follow_lines declared turn names end number (line ∷ lines) w ≡ refuse_line number (cause_text names cause)
  followed_refused names end number line lines w cause is = ap (λ o. unless names number o (after names end number lines (step_line declared turn line w))) is

  -- lines that lead to a world come to what comes of it
  pub followed_led : (names : Names) (end : WorldState M → Ending) (number : ℕ) (lines : List Line) (w last : WorldState M) → Lead declared turn lines w last
      → follow_lines declared turn names end number lines w ≡ end last
  followed_led names end number [] w last same = ap end (sym same)
  followed_led names end number (line ∷ lines) w last (next, leads, lead) =
      followed_stepped names end number line lines w next leads.legal leads.stepped_is ∙ followed_led names end (number + 1) lines next last lead

-- ---- beside a replay

-- the other end has the same status; where it isn't done, it stands at the end of the first
record IsCut (one other : Ending) : Type 0 where
  status_is : other.status ≡ one.status
  rest : (other.status ≡ Done → ⊥) → (sent : List ℕ) × (one.text ≡ sent ++ other.text)

-- of one end
cut_same : (e : Ending) → IsCut e e
cut_same e = record { status_is = refl; rest = λ none. ([], refl) }

-- this is written in front
cut_behind : (text : List ℕ) (one other : Ending) → IsCut one other → IsCut (behind text one) other
cut_behind text one other cut =
    record {
      status_is = cut.status_is;
      rest = λ none. let (sent, is) = cut.rest none in (text ++ sent, ap (λ l. text ++ l) is ∙ sym (append_assoc text sent other.text));
    }

module _ {M : Type 0} (declared : M → Signature) (turn : M → List ValueTree → ℕ → List ValueTree → List Outcome → NextTurn) (names : Names) (end : WorldState M → Ending) (done : (w : WorldState M) → (end w).status ≡ Done) where
  -- what a replay writes after a line
  abbrev replayed_after : ℕ → ℕ → List Line → Stepped M → Ending
  replayed_after count number lines s = after_step names (λ next. behind (sent_from count next) (replay_lines declared turn names (number + 1) lines next)) s

  cut_step : (count number : ℕ) (lines : List Line) → ((next : WorldState M) → IsCut (replay_lines declared turn names (number + 1) lines next) (follow_lines declared turn names end (number + 1) lines next))
      → (s : Stepped M) → IsCut (replayed_after count number lines s) (after declared turn names end number lines s)
  cut_step count number lines each (Ok next) = cut_behind (sent_from count next) (replay_lines declared turn names (number + 1) lines next) _ (each next)
  cut_step count number lines each (Err nodes) = cut_same (end_of_spent names nodes)

  cut_cause : (number : ℕ) (one other : Ending) → IsCut one other → (o : Option LineCause) → IsCut (unless names number o one) (unless names number o other)
  cut_cause number one other cut (Some cause) = cut_same (refuse_line number (cause_text names cause))
  cut_cause number one other cut None = cut

  cut_lines : (number : ℕ) (lines : List Line) (w : WorldState M) → IsCut (replay_lines declared turn names number lines w) (follow_lines declared turn names end number lines w)
  cut_lines number [] w = record { status_is = done w; rest = λ none. absurd (none (done w)) }
  cut_lines number (line ∷ lines) w =
      cut_cause number (replayed_after (length w.sent) number lines (step_line declared turn line w)) (after declared turn names end number lines (step_line declared turn line w))
      (cut_step (length w.sent) number lines (λ next. cut_lines (number + 1) lines next) (step_line declared turn line w)) (refusal w line)

  pub followed_status : (number : ℕ) (lines : List Line) (w : WorldState M) → (follow_lines declared turn names end number lines w).status ≡ (replay_lines declared turn names number lines w).status
  followed_status number lines w = (cut_lines number lines w).status_is

-- ---- of a plan

-- the picture of lines from what a plan came to at boot
abbrev pub drawn_from : Plan → List Line → Stepped Behaviour → Ending
drawn_from plan lines s = after_step (names_in plan) (picture_lines declared_of turn_of (names_in plan) (procedures_in plan) lines) s

cut_plan : (plan : Plan) (lines : List Line) → IsCut (replay_of plan lines) (picture_of plan lines)
cut_plan plan lines = by_boot (boot_world plan)
  where
    end : WorldState Behaviour → Ending
    end last = record { status = Done; text = picture_text (names_in plan) (procedures_in plan) lines last }

    by_boot : (s : Stepped Behaviour) → IsCut (after_step (names_in plan) (replayed_whole declared_of turn_of (names_in plan) lines) s) (drawn_from plan lines s)
    by_boot (Ok w) = cut_behind (beginning w) _ _ (cut_lines declared_of turn_of (names_in plan) end (λ last. refl) 1 lines w)
    by_boot (Err nodes) = cut_same (end_of_spent (names_in plan) nodes)

pub picture_status : (plan : Plan) (lines : List Line) → (picture_of plan lines).status ≡ (replay_of plan lines).status
picture_status plan lines = (cut_plan plan lines).status_is

pub picture_cut : (plan : Plan) (lines : List Line) → ((picture_of plan lines).status ≡ Done → ⊥) → (sent : List ℕ) × ((replay_of plan lines).text ≡ sent ++ (picture_of plan lines).text)
picture_cut plan lines = (cut_plan plan lines).rest

-- lines that lead to a world
pub led_pictured : (plan : Plan) (lines : List Line) (last : WorldState Behaviour) → AreLed plan lines last
    → picture_of plan lines ≡ record { status = Done; text = picture_text (names_in plan) (procedures_in plan) lines last }
led_pictured plan lines last led =
    let end : WorldState Behaviour → Ending = λ w. record { status = Done; text = picture_text (names_in plan) (procedures_in plan) lines w } in
    ap (drawn_from plan lines) led.booted_is ∙ followed_led declared_of turn_of (names_in plan) end 1 lines led.begun last led.lead
