-- How the lines of a sample are drawn.
use Rattle.std.specs.Prelude.{ℕ, ◌≡◌, ◌<◌, ◌+◌, ◌-◌, ◌*◌, ◌/◌, ◌%◌, ◌^◌, ◌||◌, ◌==◌, nat_le, min, Option, Some, None, if◌then◌else◌}
use Rattle.circus_schedule.specs.declared.line.Line.{Line}
use Rattle.circus_schedule.specs.declared.line.Line.TheVariants.{Deliver, Tick, Crash, Down, Join}
use Rattle.circus_schedule.specs.declared.sample.Facts.{Facts}

-- the word behind a word
abbrev pub word_behind : ℕ → ℕ
word_behind word = (word * 6364136223846793005 + 1442695040888963407) % 2 ^ 64

-- a tick, or a delivery of one of the last 32 datagrams
abbrev pub step_drawn : ℕ → ℕ → ℕ → ℕ → Line
step_drawn a b sent nodes = if nat_le a 7 || sent == 0 then Tick (b % nodes) else Deliver (sent - 1 - b % min sent 32)

-- a join of the spare, where there is one and a is 0, and else a step
abbrev pub draw_line : ℕ → ℕ → ℕ → ℕ → Option ℕ → Line
draw_line a b sent nodes (Some spare) = if a == 0 then Join spare else step_drawn a b sent nodes
draw_line a b sent nodes None = step_drawn a b sent nodes

-- the line that a word draws: a is the 6 bits of the word above its lowest 33, b the bits above these
abbrev pub line_drawn : ℕ → Facts → Line
line_drawn word facts = draw_line (word / 2 ^ 33 % 64) (word / 2 ^ 33 / 64) facts.sent facts.nodes facts.spare

-- the line can be asked for: it delivers what was sent, ticks a node that there is, or joins the spare
abbrev pub IsPossible : Facts → Line → Type 0
IsPossible facts (Deliver number) = number < facts.sent
IsPossible facts (Tick node) = node < facts.nodes
IsPossible facts (Crash node) = ⊥
IsPossible facts (Down node told) = ⊥
IsPossible facts (Join node) = facts.spare ≡ Some node
