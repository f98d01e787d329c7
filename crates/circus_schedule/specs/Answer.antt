-- What a schedule is read as: its lines, or its first fault.
use Rattle.std.specs.Prelude.{ℕ, ◌≡◌, ◌+◌, ◌<◌, ◌≤◌, List, ◌∷◌, ◌++◌, length, Some, Result, Ok, Err}
use Rattle.std.specs.List.{AllZip}
use Rattle.circus_schedule.specs.WrittenLine.{WrittenLine, Spells, SpellsNothing}
use Rattle.circus_schedule.specs.TextLines.{lines_of}
use Rattle.circus_schedule.specs.Meaning.{Numbers, names_in, first_unknown, IsReadAs}
use Rattle.circus_schedule.specs.declared.line.Line.{Line}
use Rattle.circus_schedule.specs.declared.schedule_fault.ScheduleFault.{ScheduleFault}
use Rattle.circus_schedule.specs.declared.schedule_fault.ScheduleFault.TheVariants.{BadLine, UnknownNode, TooManyLines, NoMemory}

-- a schedule has at most so many lines
abbrev pub most_lines : ℕ
most_lines = 200000

-- the line of this number has this fault; whatever stands in a line too many, that it is too many is its fault
abbrev pub HasFault : Numbers → ℕ → List ℕ → ScheduleFault → Type 0
HasFault numbers number text (BadLine line) = (line ≡ number) × (number ≤ most_lines) × SpellsNothing text
HasFault numbers number text (UnknownNode line name) =
    (line ≡ number) × (number ≤ most_lines)
    × ((written : WrittenLine) × Spells text written × (first_unknown numbers (names_in written) ≡ Some name))
HasFault numbers number text (TooManyLines line) = (line ≡ number) × (most_lines < number)
HasFault numbers number text NoMemory = ⊥

-- the lines of a text are read as these, and aren't too many
pub record AreReadAs (numbers : Numbers) (texts : List (List ℕ)) (lines : List Line) : Type 0 where
  pub each : AllZip (IsReadAs numbers) texts lines
  pub few : length texts ≤ most_lines

-- a line has this fault, and those before it have none; the first line has number 1
pub record IsFirstFault (numbers : Numbers) (texts : List (List ℕ)) (fault : ScheduleFault) : Type 0 where
  pub before : List (List ℕ)
  pub lines : List Line
  pub text : List ℕ
  pub after : List (List ℕ)
  pub divided : texts ≡ before ++ text ∷ after
  pub good : AreReadAs numbers before lines
  pub faulty : HasFault numbers (length before + 1) text fault

-- what a text comes to as a schedule
abbrev pub IsAnswer : Numbers → List ℕ → Result (List Line) ScheduleFault → Type 0
IsAnswer numbers text (Ok lines) = AreReadAs numbers (lines_of text) lines
IsAnswer numbers text (Err fault) = IsFirstFault numbers (lines_of text) fault
