-- What the commands of one file come to.
use Rattle.std.specs.Prelude.{ℕ, List}
use Rattle.circus_commands.specs.declared.one_file.OneFile.{OneFile}
use Rattle.circus_commands.specs.declared.one_file.OneFile.TheVariants.{Stubs, Run, Place}
use Rattle.circus_commands.specs.Ending.{Ending}
use Rattle.circus_commands.specs.Program.{history_lines, stubs_lines, IsEndOfProgram}
use Rattle.circus_commands.specs.Placed.{IsEndOfPlacing}

-- the bytes of the command's file come to this end
abbrev pub IsEndOf : OneFile → List ℕ → Ending → Type 0
IsEndOf Stubs bytes ending = IsEndOfProgram stubs_lines bytes ending
IsEndOf Run bytes ending = IsEndOfProgram history_lines bytes ending
IsEndOf Place bytes ending = IsEndOfPlacing bytes ending
