-- How a call of the command ends.
use Rattle.std.specs.Prelude.{ℕ, Bool, true, false}
use Rattle.circus_commands.specs.declared.status.Status.{Status}
use Rattle.circus_commands.specs.declared.status.Status.TheVariants.{Done, BadCommandLine, BadProgram, BadSchedule, ShelfFault, SinkFault, LinkFault, NoMemory, Spent, Unsettled, BadPlacing, NoPlacement, BadRecord}

-- the number that the program ends with
abbrev pub code_of : Status → ℕ
code_of Done = 0
code_of BadCommandLine = 1
code_of BadProgram = 2
code_of BadSchedule = 3
code_of ShelfFault = 4
code_of SinkFault = 5
code_of LinkFault = 6
code_of NoMemory = 7
code_of Spent = 8
code_of Unsettled = 10
code_of BadPlacing = 11
code_of NoPlacement = 12
code_of BadRecord = 13

-- the call came to an end that is due
abbrev pub is_end : Status → Bool
is_end Done = true
is_end BadCommandLine = true
is_end BadProgram = true
is_end BadSchedule = true
is_end ShelfFault = false
is_end SinkFault = false
is_end LinkFault = true
is_end NoMemory = false
is_end Spent = true
is_end Unsettled = true
is_end BadPlacing = true
is_end NoPlacement = true
is_end BadRecord = true
