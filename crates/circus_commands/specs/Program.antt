-- What is written of a program: its history when nothing is replicated, its stubs, or why it is refused.
use Rattle.std.specs.Prelude.{ℕ, ◌≡◌, ◌⊎◌, List, [], ◌++◌, codes}
use Rattle.std.specs.List.{flat_map}
use Rattle.circus_model.specs.declared.history.Run.{Run}
use Rattle.circus_model.specs.Execution.{history_of}
use Rattle.circus_record.specs.Line.{line}
use Rattle.circus_record.specs.Naming.{names_of}
use Rattle.circus_commands.specs.HistoryLines.{history_text}
use Rattle.circus_stub.specs.StubsText.{stubs_text}
use Rattle.circus_config.specs.declared.plan.Plan.{Plan}
use Rattle.circus_plan_modules.specs.Loaded.{behaviours_in}
use Rattle.circus_config.specs.Program.{IsProgramOf}
use Rattle.circus_commands.specs.declared.status.Status.TheVariants.{Done}
use Rattle.circus_commands.specs.Ending.{Ending}
use Rattle.circus_commands.specs.Refusal.{IsEndOfRefused}

-- what each module performs when nothing is replicated
abbrev pub history_in : Plan → List (List Run)
history_in plan = history_of (behaviours_in plan)

-- the lines of that history
abbrev pub history_lines : Plan → List ℕ
history_lines plan = history_text (names_of [] plan.names) (history_in plan)

-- the stubs of each interface, in order
abbrev pub stubs_lines : Plan → List ℕ
stubs_lines plan = line (codes "circus stubs 1") ++ flat_map stubs_text plan.checked.interfaces

-- the end of a command that writes this of a program
abbrev pub IsEndOfProgram : (Plan → List ℕ) → List ℕ → Ending → Type 0
IsEndOfProgram lines bytes ending =
    ((plan : Plan) × IsProgramOf bytes plan × (ending ≡ record { status = Done; text = lines plan })) ⊎ IsEndOfRefused bytes ending
