-- How a schedule is written.
use Rattle.std.specs.Prelude.{ℕ, ◌≡◌, ◌<◌, ◌≤◌, ◌^◌, ◌⊎◌, List, [], ◌∷◌, ◌++◌, length, map, Some, slice_get}
use Rattle.std.specs.List.{AllByRecursion, AllZip}
use Rattle.circus_collate.specs.declared.deployment.Host.{Host}
use Rattle.circus_schedule.specs.WrittenLine.{WrittenLine, deliver, tick, crash, down, join, text_of, IsWritten}
use Rattle.circus_schedule.specs.TextLines.{newline}
use Rattle.circus_schedule.specs.Meaning.{Numbers, line_of}
use Rattle.circus_schedule.specs.Answer.{most_lines}
use Rattle.circus_schedule.specs.declared.line.Line.{Line}
use Rattle.circus_schedule.specs.declared.line.Line.TheVariants.{Deliver, Tick, Crash, Down, Join}

-- lines, each with its newline
abbrev pub schedule_text : List WrittenLine → List ℕ
schedule_text [] = []
schedule_text (line ∷ lines) = text_of line ++ newline ∷ schedule_text lines

-- the text is what is written so; the last newline may be missing
pub record IsWrittenAs (text : List ℕ) (written : List WrittenLine) : Type 0 where
  pub spelled : (text ≡ schedule_text written) ⊎ (text ++ newline ∷ [] ≡ schedule_text written)
  pub each : AllByRecursion IsWritten written
  pub few : length written ≤ most_lines

-- what is written stands for these lines
abbrev pub StandFor : Numbers → List WrittenLine → List Line → Type 0
StandFor numbers written lines = AllZip (λ each line. line_of numbers each ≡ Some line) written lines

-- ---- lines with numbers of nodes, by what nodes are called

abbrev pub line_written : (ℕ → List ℕ) → Line → WrittenLine
line_written called (Deliver number) = deliver number
line_written called (Tick node) = tick (called node)
line_written called (Crash node) = crash (called node)
line_written called (Down node told) = down (called node) (called told)
line_written called (Join node) = join (called node)

abbrev pub lines_text : (ℕ → List ℕ) → List Line → List ℕ
lines_text called lines = schedule_text (map (line_written called) lines)

-- nodes are called by their names
abbrev pub AreCalled : List Host → (ℕ → List ℕ) → Type 0
AreCalled nodes called = (number : ℕ) (node : Host) → slice_get nodes number ≡ Some node → called number ≡ node.name

-- a datagram has a number that a line may have
abbrev pub IsShort : Line → Type 0
IsShort (Deliver number) = number < 2 ^ 64
IsShort (Tick node) = Unit {0}
IsShort (Crash node) = Unit {0}
IsShort (Down node told) = Unit {0}
IsShort (Join node) = Unit {0}
