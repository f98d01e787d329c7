-- What a replay that may begin comes to.
use Rattle.std.specs.Prelude.{◌≤◌, All, length, List, Option, Some, None}
use Rattle.circus_model.specs.Behaviour.{Behaviour}
use Rattle.circus_record.specs.Naming.{Names, names_of}
use Rattle.circus_idl.specs.declared.interface.Procedure.{Procedure}
use Rattle.circus_schedule.specs.declared.line.Line.{Line}
use Rattle.circus_schedule.specs.Answer.{most_lines}
use Rattle.circus_schedule.specs.Meaning.{NamesBelow}
use Rattle.circus_world.specs.WorldState.{WorldState}
use Rattle.circus_picture.specs.Picture.{procedures_in}
use Rattle.circus_config.specs.declared.plan.Plan.{Plan}
use Rattle.circus_commands.specs.Ending.{Ending}
use Rattle.circus_simulation.specs.Seen.Simulated.{world_of, IsFresh}
use Rattle.circus_program.specs.declared.shown.Shown.{Shown}
use Rattle.circus_program.specs.declared.shown.Shown.TheVariants.{Report, Picture}
use Rattle.circus_program.specs.declared.ready.Ready.{Ready}
use Rattle.circus_program.specs.Replay.{replayed_whole, picture_lines}

-- the procedures by which the lines are drawn, where a picture is shown
abbrev pub procedures_shown : Shown → Plan → Option (List (List Procedure))
procedures_shown Report plan = None
procedures_shown Picture plan = Some (procedures_in plan)

-- the end that lines come to, by these procedures where they are drawn
abbrev pub end_by : Option (List (List Procedure)) → Names → List Line → WorldState Behaviour → Ending
end_by None names lines w = replayed_whole (λ (b : Behaviour). b.declared) (λ (b : Behaviour). b.turn) names lines w
end_by (Some procedures) names lines w = picture_lines (λ (b : Behaviour). b.declared) (λ (b : Behaviour). b.turn) names procedures lines w

-- the end that its lines come to
abbrev pub end_of_ready : Ready → Ending
end_of_ready r = end_by r.procedures (names_of r.simulated.hosts r.simulated.names) r.lines (world_of r.simulated.world)

-- its world has just booted, and its lines name nodes of it
pub record IsReady (r : Ready) : Type 0 where
  pub fresh : IsFresh r.simulated
  pub below : All (NamesBelow (length r.simulated.hosts)) r.lines
  pub few : length r.lines ≤ most_lines
