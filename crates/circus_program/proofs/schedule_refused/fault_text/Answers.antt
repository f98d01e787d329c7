use Rattle.std.proofs.Common.{◌≡◌, ℕ, List, ◌++◌, codes, Result, Ok, Err, IfOk, ap, sym, subst}
use Rattle.std.specs.Fmt.{decimal}
use Rattle.circus_record.specs.Line.{line}
use Rattle.circus_schedule.specs.declared.schedule_fault.ScheduleFault.{ScheduleFault}
use Rattle.circus_config.specs.declared.plan.Plan.{Plan}
use Rattle.circus_commands.specs.declared.status.Status.TheVariants.{BadSchedule}
use Rattle.circus_commands.specs.Ending.{Ending}
use Rattle.circus_program.specs.declared.shown.Shown.{Shown}
use Rattle.circus_program.specs.Replay.{refuse_line, IsReplayOf}
use Rattle.circus_program.proofs.schedule_refused.fault_text.Goals as goal

-- the text is that of the line
said : {E : Type 0} (r : Result (List ℕ) E) (number : ℕ) (cause : List ℕ) → IfOk r (λ text. text ≡ line (codes "schedule line " ++ decimal number ++ codes ": " ++ cause))
    → IfOk r (λ text. ◌≡◌ {A = Ending} (record { status = BadSchedule; text = text }) (refuse_line number cause))
said (Ok text) number cause is = let end : List ℕ → Ending = λ t. record { status = BadSchedule; text = t } in ap end is
said (Err e) number cause is = tt

-- of this fault
of_fault : {E : Type 0} (r : Result (List ℕ) E) (shown : Shown) (plan : Plan) (fault same : ScheduleFault) → fault ≡ same → IfOk r (λ text. IsReplayOf shown plan (Err same) (record { status = BadSchedule; text = text }))
    → IfOk r (λ text. IsReplayOf shown plan (Err fault) (record { status = BadSchedule; text = text }))
of_fault r shown plan fault same is holds = subst (λ (f : ScheduleFault). IfOk r (λ text. IsReplayOf shown plan (Err f) (record { status = BadSchedule; text = text }))) (sym is) holds

pub returns-in-UnknownNode : goal.returns-in-UnknownNode
returns-in-UnknownNode c =
    λ shown plan. of_fault c.unknown_text.result shown plan c.args.fault.now _ c.in-UnknownNode.is (said c.unknown_text.result c.in-UnknownNode.number (codes "unknown node " ++ c.in-UnknownNode.name) c.unknown_text.ensures)

pub returns-in-TooManyLines : goal.returns-in-TooManyLines
returns-in-TooManyLines c =
    λ shown plan. of_fault c.line_text-in-TooManyLines.result shown plan c.args.fault.now _ c.in-TooManyLines.is (said c.line_text-in-TooManyLines.result c.in-TooManyLines.number (codes "too many lines") c.line_text-in-TooManyLines.ensures)
