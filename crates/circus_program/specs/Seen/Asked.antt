-- What a form asks for, as the code says it, as plain data.
use Rattle.std.specs.Prelude.{List, ℕ}
use Rattle.circus_config.specs.declared.plan.Plan.{Plan}
use Rattle.circus_commands.specs.declared.one_file.OneFile.{OneFile}
use Rattle.circus_commands.specs.declared.one_file.OneFile.TheVariants.{Stubs, Run, Place}
use Rattle.circus_program.specs.Form.{CommandForm, stubs, run, node, sample, draw, settle, place, second_form}
use Rattle.circus_program.specs.Answer.{Due, IsDueOfEnd, IsDueOfProgram, IsDueOfSample, IsDueOfLines, IsDueOfSettle, IsDueOfNode}
use Rattle.circus_program.specs.declared.answer.Task.{Task}
use Rattle.circus_program.specs.declared.answer.Task.TheVariants.{Sample, Lines, Settle, Node}
use Rattle.circus_program.specs.declared.answer.Command.{Command}
use Rattle.circus_program.specs.declared.answer.Command.TheVariants.{End, OfPlan}
use Rattle.circus_program.specs.declared.answer.Asked.{Asked}
use Rattle.circus_program.specs.declared.answer.Asked.TheVariants.{OneFile as OfFile, TwoFiles}

-- what is due of a plan
abbrev pub IsDueOfTask : Task → Plan → Due → Type 0
IsDueOfTask (Sample seed steps) = IsDueOfSample seed steps
IsDueOfTask (Lines seed steps) = IsDueOfLines seed steps
IsDueOfTask (Settle deliveries) = IsDueOfSettle deliveries
IsDueOfTask (Node name turns) = IsDueOfNode name.now turns

-- what is due of the bytes of a file
abbrev pub IsDueOfCommand : Command → List ℕ → Due → Type 0
IsDueOfCommand (End command) = IsDueOfEnd command
IsDueOfCommand (OfPlan task) = IsDueOfProgram (IsDueOfTask task)

-- the form of a command that comes to the end of a file
abbrev pub end_form : OneFile → List ℕ → CommandForm
end_form Stubs file = stubs file
end_form Run file = run file
end_form Place file = place file

-- the form of a command with its file
abbrev pub file_form : Command → List ℕ → CommandForm
file_form (End command) file = end_form command file
file_form (OfPlan (Sample seed steps)) file = sample file seed steps
file_form (OfPlan (Lines seed steps)) file = draw file seed steps
file_form (OfPlan (Settle deliveries)) file = settle file deliveries
file_form (OfPlan (Node name turns)) file = node file name.now turns

-- the form with its files
abbrev pub asked_form : Asked → CommandForm
asked_form (OfFile command file) = file_form command file.now
asked_form (TwoFiles second program file) = second_form second program.now file.now
