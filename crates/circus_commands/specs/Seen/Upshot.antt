-- What a command of one file comes to, as plain data.
use Rattle.std.specs.Prelude.{[], All, IsAscii, IsTrue}
use Rattle.circus_record.specs.Naming.{names_of}
use Rattle.circus_commands.specs.declared.status.Status.TheVariants.{Done}
use Rattle.circus_commands.specs.declared.upshot.Performance.{Performance}
use Rattle.circus_commands.specs.declared.upshot.Upshot.{Upshot}
use Rattle.circus_commands.specs.declared.upshot.Upshot.TheVariants.{Text, History}
use Rattle.circus_commands.specs.Ending.{Ending}
use Rattle.circus_commands.specs.HistoryLines.{history_text}
use Rattle.circus_commands.specs.Seen.Ending.{ending_of}
use Rattle.circus_commands.specs.Status.{is_end}

-- the end of the command that writes what a program performs
abbrev pub end_of_performance : Performance → Ending
end_of_performance p = record { status = Done; text = history_text (names_of [] p.names) p.history }

-- the end of a command
abbrev pub end_of_upshot : Upshot → Ending
end_of_upshot (Text ending) = ending_of ending
end_of_upshot (History performance) = end_of_performance performance

-- a text has the status of an end, and the names of a history's modules are ASCII
abbrev pub CanBeWritten : Upshot → Type 0
CanBeWritten (Text ending) = IsTrue (is_end ending.status)
CanBeWritten (History performance) = All IsAscii performance.names
