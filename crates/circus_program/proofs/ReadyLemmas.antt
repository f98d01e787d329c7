-- What comes first of a replay.
use Rattle.std.proofs.Common.{◌≡◌, ℕ, ◌≤◌, ◌⊎◌, inl, inr, List, length, Result, Ok, Err, IfOk, IfErr, sym, ap, subst, ◌∙◌, arith}
use Rattle.std.proofs.lemmas.Slice.Zip.{AllZip-long}
use Rattle.circus_schedule.specs.declared.line.Line.{Line}
use Rattle.circus_schedule.specs.declared.schedule_fault.ScheduleFault.{ScheduleFault}
use Rattle.circus_schedule.specs.declared.schedule_fault.ScheduleFault.TheVariants.{NoMemory}
use Rattle.circus_schedule.specs.TextLines.{lines_of}
use Rattle.circus_schedule.specs.Meaning.{Numbers, numbers_of, IsReadAs}
use Rattle.circus_schedule.specs.Answer.{most_lines, IsAnswer}
use Rattle.circus_config.specs.declared.plan.Plan.{Plan}
use Rattle.circus_commands.specs.Ending.{Ending}
use Rattle.circus_model.specs.Behaviour.{Behaviour}
use Rattle.circus_world.specs.WorldState.{WorldState}
use Rattle.circus_record.specs.Naming.{names_of}
use Rattle.circus_simulation.specs.Booted.{boot_world, names_in}
use Rattle.circus_simulation.specs.Seen.Simulated.{world_of, IsOfPlan}
use Rattle.circus_program.specs.declared.ready.Ready.{Ready}
use Rattle.circus_program.specs.declared.shown.Shown.{Shown}
use Rattle.circus_program.specs.declared.shown.Shown.TheVariants.{Report, Picture}
use Rattle.circus_program.specs.Replay.{shown_of, IsReplayOf, IsEndOfReplay}
use Rattle.circus_program.specs.Seen.Ready.{procedures_shown, end_by, end_of_ready}
use Rattle.circus_program.proofs.ReplayEnds.{from_boot}
use Rattle.circus_program.proofs.Drawn.{drawn_from}

-- what is read without a fault is an answer
pub read-answers : (numbers : Numbers) (text : List ℕ) (read : Result (List Line) ScheduleFault) (lines : List Line) → read ≡ Ok lines → (read ≡ Err NoMemory) ⊎ IsAnswer numbers text read → IsAnswer numbers text (Ok lines)
read-answers numbers text read lines is (inl none) = absurd (let clash : ◌≡◌ {A = Result (List Line) ScheduleFault} (Ok lines) (Err NoMemory) = sym is ∙ none in cc)
read-answers numbers text read lines is (inr answer) = subst (λ (r : Result (List Line) ScheduleFault). IsAnswer numbers text r) is answer

-- its lines are few
pub read-few : (numbers : Numbers) (text : List ℕ) (lines : List Line) → IsAnswer numbers text (Ok lines) → length lines ≤ most_lines
read-few numbers text lines answer = omega (arith, answer.few, AllZip-long (IsReadAs numbers) (lines_of text) lines answer.each)

-- what comes of a fault comes of the schedule
pub end-of_fault : (shown : Shown) (plan : Plan) (schedule : List ℕ) (fault : ScheduleFault) (ending : Ending)
    → (◌≡◌ {A = Result (List Line) ScheduleFault} (Err fault) (Err NoMemory)) ⊎ IsAnswer (numbers_of plan.deployment.nodes) schedule (Err fault) → IsReplayOf shown plan (Err fault) ending → IsEndOfReplay shown plan schedule ending
end-of_fault shown plan schedule fault ending (inl none) is = let same : fault ≡ NoMemory = cc in absurd (subst (λ (f : ScheduleFault). IsReplayOf shown plan (Err f) ending) same is)
end-of_fault shown plan schedule fault ending (inr answer) is = (Err fault, answer, is)

-- what comes of these lines comes of the schedule
pub end-of_lines : {A E F : Type 0} (shown : Shown) (plan : Plan) (schedule : List ℕ) (lines : List Line) (end : A → Ending) (r : Result (Result A E) F) → IsAnswer (numbers_of plan.deployment.nodes) schedule (Ok lines)
    → IfOk r (λ first. IfOk first (λ a. end a ≡ shown_of shown plan lines)) → IfOk r (λ first. IfOk first (λ a. IsEndOfReplay shown plan schedule (end a)))
end-of_lines shown plan schedule lines end (Ok (Ok a)) answer is = (Ok lines, answer, is)
end-of_lines shown plan schedule lines end (Ok (Err e)) answer is = tt
end-of_lines shown plan schedule lines end (Err f) answer is = tt

pub ended-of_lines : {A E F : Type 0} (shown : Shown) (plan : Plan) (schedule : List ℕ) (lines : List Line) (end : E → Ending) (r : Result (Result A E) F) → IsAnswer (numbers_of plan.deployment.nodes) schedule (Ok lines)
    → IfOk r (λ first. IfErr first (λ e. end e ≡ shown_of shown plan lines)) → IfOk r (λ first. IfErr first (λ e. IsEndOfReplay shown plan schedule (end e)))
ended-of_lines shown plan schedule lines end (Ok (Ok a)) answer is = tt
ended-of_lines shown plan schedule lines end (Ok (Err e)) answer is = (Ok lines, answer, is)
ended-of_lines shown plan schedule lines end (Err f) answer is = tt

-- a world that has booted shows what its plan does
shown_by : (shown : Shown) (plan : Plan) (lines : List Line) (w : WorldState Behaviour) → boot_world plan ≡ Ok w → end_by (procedures_shown shown plan) (names_in plan) lines w ≡ shown_of shown plan lines
shown_by Report plan lines w is = ap (from_boot plan lines) (sym is)
shown_by Picture plan lines w is = ap (drawn_from plan lines) (sym is)

pub ready_shows : (shown : Shown) (plan : Plan) (r : Ready) → IsOfPlan plan r.simulated → boot_world plan ≡ Ok (world_of r.simulated.world) → r.procedures ≡ procedures_shown shown plan → end_of_ready r ≡ shown_of shown plan r.lines
ready_shows shown plan r of is drawn =
    (λ i. end_by (drawn i) (names_of (of.hosts i) (of.names i)) r.lines (world_of r.simulated.world)) ∙ shown_by shown plan r.lines (world_of r.simulated.world) is
