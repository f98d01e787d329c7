-- How replays end.
use Rattle.std.proofs.Common.{◌≡◌, ℕ, ◌+◌, ◌⊎◌, inl, inr, Option, Some, None, List, [], ◌∷◌, ◌++◌, codes, refl, sym, ap, subst, ◌∙◌, Ok, Err}
use Rattle.std.specs.Prelude.{IsTrue}
use Rattle.circus_model.specs.Behaviour.{Behaviour}
use Rattle.circus_record.specs.Naming.{Names, names_of}
use Rattle.circus_idl.specs.declared.interface.Procedure.{Procedure}
use Rattle.circus_picture.specs.Picture.{picture_text}
use Rattle.circus_node.specs.Alike.{declared_of, turn_of}
use Rattle.circus_schedule.specs.declared.line.Line.{Line}
use Rattle.circus_schedule.specs.declared.schedule_fault.ScheduleFault.{ScheduleFault}
use Rattle.circus_schedule.specs.declared.schedule_fault.ScheduleFault.TheVariants as schedule_fault
use Rattle.circus_schedule.specs.Meaning.{numbers_of}
use Rattle.circus_schedule.specs.Answer.{IsAnswer}
use Rattle.circus_world.specs.WorldState.{WorldState}
use Rattle.circus_world.specs.Legal.{refusal}
use Rattle.circus_world.specs.Course.{Stepped, step_line}
use Rattle.circus_commands.specs.declared.status.Status.{Status}
use Rattle.circus_commands.specs.declared.status.Status.TheVariants.{Done, BadSchedule, Spent}
use Rattle.circus_commands.specs.Status.{is_end}
use Rattle.circus_commands.specs.Ending.{Ending}
use Rattle.circus_config.specs.declared.plan.Plan.{Plan}
use Rattle.circus_simulation.specs.Booted.{boot_world, names_in, after_step}
use Rattle.circus_program.specs.declared.shown.Shown.{Shown}
use Rattle.circus_program.specs.declared.shown.Shown.TheVariants.{Report, Picture}
use Rattle.circus_program.specs.Replay.{refuse_line, replay_lines, replayed_whole, replay_of, shown_of, IsEndOfReplay}
use Rattle.circus_program.specs.Last.{HasRefused, HasSpent}
use Rattle.circus_program.specs.Seen.Ready.{end_by}
use Rattle.circus_program.proofs.OneLine.{replayed_stepped, replayed_spent, replayed_refused}
use Rattle.circus_program.proofs.Drawn.{followed_status, picture_status}

abbrev step : Line → WorldState Behaviour → Stepped Behaviour
step line w = step_line declared_of turn_of line w

-- a replay of lines from what a plan came to at boot
abbrev pub from_boot : Plan → List Line → Stepped Behaviour → Ending
from_boot plan lines s = after_step (names_in plan) (replayed_whole declared_of turn_of (names_in plan) lines) s

abbrev lines_end : Names → ℕ → List Line → WorldState Behaviour → Ending
lines_end names number lines w = replay_lines declared_of turn_of names number lines w

-- ---- lines

-- it is done, a line is refused, or a node has no number left
abbrev pub IsStatusOf : List Line → WorldState Behaviour → Status → Type 0
IsStatusOf lines w status = (status ≡ Done) ⊎ (((status ≡ BadSchedule) × HasRefused lines w) ⊎ ((status ≡ Spent) × HasSpent lines w))

-- a line was stepped before
later : (names : Names) (number : ℕ) (line : Line) (lines : List Line) (w next : WorldState Behaviour) → refusal w line ≡ None → step line w ≡ Ok next
    → IsStatusOf lines next (lines_end names (number + 1) lines next).status → IsStatusOf (line ∷ lines) w (lines_end names number (line ∷ lines) w).status
later names number line lines w next legal is behind = by_end behind
  where
    stepped_status : (lines_end names number (line ∷ lines) w).status ≡ (lines_end names (number + 1) lines next).status
    stepped_status = ap (λ (e : Ending). e.status) (replayed_stepped declared_of turn_of names number line lines w next legal is)

    by_end : IsStatusOf lines next (lines_end names (number + 1) lines next).status → IsStatusOf (line ∷ lines) w (lines_end names number (line ∷ lines) w).status
    by_end (inl done) = inl (stepped_status ∙ done)
    by_end (inr (inl (bad, has))) = inr (inl (stepped_status ∙ bad, inr (legal, next, is, has)))
    by_end (inr (inr (spent, has))) = inr (inr (stepped_status ∙ spent, (legal, inr (next, is, has))))

lines_status : (names : Names) (number : ℕ) (lines : List Line) (w : WorldState Behaviour) → IsStatusOf lines w (lines_end names number lines w).status
lines_status names number [] w = inl refl
lines_status names number (line ∷ lines) w =
    elim (refusal w line) as (λ o. refusal w line ≡ o → IsStatusOf (line ∷ lines) w (lines_end names number (line ∷ lines) w).status) [
      | Some cause ↦ λ is. inr (inl (ap (λ (e : Ending). e.status) (replayed_refused declared_of turn_of names number line lines w cause is), inl (cause, is)))
      | None ↦ λ legal. elim (step line w) as (λ s. step line w ≡ s → IsStatusOf (line ∷ lines) w (lines_end names number (line ∷ lines) w).status) [
        | Ok next ↦ λ is. later names number line lines w next legal is (lines_status names (number + 1) lines next)
        | Err nodes ↦ λ is. inr (inr (ap (λ (e : Ending). e.status) (replayed_spent declared_of turn_of names number line lines w nodes legal is), (legal, inl (nodes, is))))
      ] refl
    ] refl

lines_refused : (names : Names) (number : ℕ) (lines : List Line) (w : WorldState Behaviour) → HasRefused lines w → (lines_end names number lines w).status ≡ BadSchedule
lines_refused names number [] w has = absurd has
lines_refused names number (line ∷ lines) w (inl (cause, is)) = ap (λ (e : Ending). e.status) (replayed_refused declared_of turn_of names number line lines w cause is)
lines_refused names number (line ∷ lines) w (inr (legal, next, is, has)) =
    ap (λ (e : Ending). e.status) (replayed_stepped declared_of turn_of names number line lines w next legal is) ∙ lines_refused names (number + 1) lines next has

lines_spent : (names : Names) (number : ℕ) (lines : List Line) (w : WorldState Behaviour) → HasSpent lines w → (lines_end names number lines w).status ≡ Spent
lines_spent names number [] w has = absurd has
lines_spent names number (line ∷ lines) w (legal, inl (nodes, is)) = ap (λ (e : Ending). e.status) (replayed_spent declared_of turn_of names number line lines w nodes legal is)
lines_spent names number (line ∷ lines) w (legal, inr (next, is, has)) =
    ap (λ (e : Ending). e.status) (replayed_stepped declared_of turn_of names number line lines w next legal is) ∙ lines_spent names (number + 1) lines next has

-- a replay ends as one that is due may
lines_are_end : (names : Names) (number : ℕ) (lines : List Line) (w : WorldState Behaviour) → IsTrue (is_end (lines_end names number lines w).status)
lines_are_end names number lines w = by_status (lines_status names number lines w)
  where
    by_status : IsStatusOf lines w (lines_end names number lines w).status → IsTrue (is_end (lines_end names number lines w).status)
    by_status (inl done) = ap is_end done
    by_status (inr (inl (bad, has))) = ap is_end bad
    by_status (inr (inr (spent, has))) = ap is_end spent

-- so does what is drawn
pub end_by_is_end : (procedures : Option (List (List Procedure))) (names : Names) (lines : List Line) (w : WorldState Behaviour) → IsTrue (is_end (end_by procedures names lines w).status)
end_by_is_end None names lines w = lines_are_end names 1 lines w
end_by_is_end (Some procedures) names lines w =
    let end : WorldState Behaviour → Ending = λ last. record { status = Done; text = picture_text names procedures lines last } in
    subst (λ s. IsTrue (is_end s)) (sym (followed_status declared_of turn_of names end (λ last. refl) 1 lines w)) (lines_are_end names 1 lines w)

-- ---- schedules

-- a line of a schedule is refused
abbrev pub Refuses : Plan → List ℕ → Type 0
Refuses plan schedule =
    ((fault : ScheduleFault) × IsAnswer (numbers_of plan.deployment.nodes) schedule (Err fault))
    ⊎ ((lines : List Line) × (w : WorldState Behaviour) × IsAnswer (numbers_of plan.deployment.nodes) schedule (Ok lines) × (boot_world plan ≡ Ok w) × HasRefused lines w)

-- a node has no number left for another one, at boot or in the step of a line
abbrev pub Spends : Plan → List Line → Type 0
Spends plan lines = ((nodes : ℕ × ℕ) × (boot_world plan ≡ Err nodes)) ⊎ ((w : WorldState Behaviour) × (boot_world plan ≡ Ok w) × HasSpent lines w)

abbrev pub IsStatusOfReplay : Plan → List ℕ → Status → Type 0
IsStatusOfReplay plan schedule status =
    (status ≡ Done)
    ⊎ (((status ≡ BadSchedule) × Refuses plan schedule)
    ⊎ ((status ≡ Spent) × ((lines : List Line) × IsAnswer (numbers_of plan.deployment.nodes) schedule (Ok lines) × Spends plan lines)))

behind_boot : (plan : Plan) (schedule : List ℕ) (lines : List Line) (w : WorldState Behaviour) (status : Status) → IsAnswer (numbers_of plan.deployment.nodes) schedule (Ok lines)
    → boot_world plan ≡ Ok w → IsStatusOf lines w status → IsStatusOfReplay plan schedule status
behind_boot plan schedule lines w status read is (inl done) = inl done
behind_boot plan schedule lines w status read is (inr (inl (bad, has))) = inr (inl (bad, inr (lines, w, read, is, has)))
behind_boot plan schedule lines w status read is (inr (inr (spent, has))) = inr (inr (spent, (lines, read, inr (w, is, has))))

booted_status : (plan : Plan) (schedule : List ℕ) (lines : List Line) → IsAnswer (numbers_of plan.deployment.nodes) schedule (Ok lines) → IsStatusOfReplay plan schedule (replay_of plan lines).status
booted_status plan schedule lines read =
    elim (boot_world plan) as (λ s. boot_world plan ≡ s → IsStatusOfReplay plan schedule (from_boot plan lines s).status) [
      | Ok w ↦ λ is. behind_boot plan schedule lines w _ read is (lines_status (names_of plan.deployment.nodes plan.names) 1 lines w)
      | Err nodes ↦ λ is. inr (inr (refl, (lines, read, inl (nodes, is))))
    ] refl

-- whatever is shown, the status is that of the replay
pub shown_status : (shown : Shown) (plan : Plan) (lines : List Line) → (shown_of shown plan lines).status ≡ (replay_of plan lines).status
shown_status Report plan lines = refl
shown_status Picture plan lines = picture_status plan lines

pub replay_status : (shown : Shown) (plan : Plan) (schedule : List ℕ) (ending : Ending) → IsEndOfReplay shown plan schedule ending → IsStatusOfReplay plan schedule ending.status
replay_status shown plan schedule ending (Ok lines, read, is) =
    subst (IsStatusOfReplay plan schedule) (sym (ap (λ (e : Ending). e.status) is ∙ shown_status shown plan lines)) (booted_status plan schedule lines read)
replay_status shown plan schedule ending (Err (schedule_fault.BadLine number), read, is) = inr (inl (ap (λ (e : Ending). e.status) is, inl (schedule_fault.BadLine number, read)))
replay_status shown plan schedule ending (Err (schedule_fault.UnknownNode number name), read, is) = inr (inl (ap (λ (e : Ending). e.status) is, inl (schedule_fault.UnknownNode number name, read)))
replay_status shown plan schedule ending (Err (schedule_fault.TooManyLines number), read, is) = inr (inl (ap (λ (e : Ending). e.status) is, inl (schedule_fault.TooManyLines number, read)))
replay_status shown plan schedule ending (Err schedule_fault.NoMemory, read, is) = absurd is

-- an end of this status
pub record Ends (shown : Shown) (plan : Plan) (schedule : List ℕ) (status : Status) : Type 0 where
  pub ending : Ending
  pub end : IsEndOfReplay shown plan schedule ending
  pub status_is : ending.status ≡ status

pub ends_refused : (shown : Shown) (plan : Plan) (schedule : List ℕ) → Refuses plan schedule → Ends shown plan schedule BadSchedule
ends_refused shown plan schedule (inl (schedule_fault.BadLine number, read)) =
    record { ending = refuse_line number (codes "bad line"); end = (Err (schedule_fault.BadLine number), read, refl); status_is = refl }
ends_refused shown plan schedule (inl (schedule_fault.UnknownNode number name, read)) =
    record { ending = refuse_line number (codes "unknown node " ++ name); end = (Err (schedule_fault.UnknownNode number name), read, refl); status_is = refl }
ends_refused shown plan schedule (inl (schedule_fault.TooManyLines number, read)) =
    record { ending = refuse_line number (codes "too many lines"); end = (Err (schedule_fault.TooManyLines number), read, refl); status_is = refl }
ends_refused shown plan schedule (inl (schedule_fault.NoMemory, read)) = absurd read.faulty
ends_refused shown plan schedule (inr (lines, w, read, is, has)) =
    record {
      ending = shown_of shown plan lines;
      end = (Ok lines, read, refl);
      status_is = shown_status shown plan lines ∙ ap (λ s. (from_boot plan lines s).status) is ∙ lines_refused (names_of plan.deployment.nodes plan.names) 1 lines w has;
    }

pub ends_spent : (shown : Shown) (plan : Plan) (schedule : List ℕ) (lines : List Line) → IsAnswer (numbers_of plan.deployment.nodes) schedule (Ok lines) → Spends plan lines → Ends shown plan schedule Spent
ends_spent shown plan schedule lines read spends =
    record { ending = shown_of shown plan lines; end = (Ok lines, read, refl); status_is = shown_status shown plan lines ∙ by_end spends }
  where
    by_end : Spends plan lines → (replay_of plan lines).status ≡ Spent
    by_end (inl (nodes, is)) = ap (λ s. (from_boot plan lines s).status) is
    by_end (inr (w, is, has)) = ap (λ s. (from_boot plan lines s).status) is ∙ lines_spent (names_of plan.deployment.nodes plan.names) 1 lines w has
