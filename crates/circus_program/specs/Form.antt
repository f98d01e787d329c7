-- The forms of a command line, and the words that spell each.
use Rattle.std.specs.Prelude.{ℕ, ◌≡◌, ◌≢◌, ◌<◌, ◌≤◌, ◌^◌, List, [], ◌∷◌, codes}
use Rattle.std.specs.Fmt.{decimal}
use Rattle.circus_schedule.specs.Answer.{most_lines}
use Rattle.circus_program.specs.declared.shown.Shown.{Shown}
use Rattle.circus_program.specs.declared.shown.Shown.TheVariants.{Report, Picture}
use Rattle.circus_program.specs.declared.second.Second.{Second}
use Rattle.circus_program.specs.declared.second.Second.TheVariants.{Schedule, NodeRecord}

-- the words of a command line; files and names are byte lists
pub data CommandForm : Type 0 where
  -- program
  stubs : List ℕ → CommandForm
  -- program
  run : List ℕ → CommandForm
  -- program, schedule
  replay : List ℕ → List ℕ → CommandForm
  -- program, schedule
  picture : List ℕ → List ℕ → CommandForm
  -- program, node's name, takes
  node : List ℕ → List ℕ → ℕ → CommandForm
  -- program, seed, steps
  sample : List ℕ → ℕ → ℕ → CommandForm
  -- program, seed, steps; asked for by the word lines
  draw : List ℕ → ℕ → ℕ → CommandForm
  -- program, deliveries
  settle : List ℕ → ℕ → CommandForm
  -- placing
  place : List ℕ → CommandForm
  -- program, record
  audit : List ℕ → List ℕ → CommandForm

-- what is written on the command line
abbrev pub words_of : CommandForm → List (List ℕ)
words_of (stubs program) = codes "stubs" ∷ program ∷ []
words_of (run program) = codes "run" ∷ program ∷ []
words_of (replay program schedule) = codes "replay" ∷ program ∷ schedule ∷ []
words_of (picture program schedule) = codes "picture" ∷ program ∷ schedule ∷ []
words_of (node program name turns) = codes "node" ∷ program ∷ name ∷ decimal turns ∷ []
words_of (sample program seed steps) = codes "sample" ∷ program ∷ decimal seed ∷ decimal steps ∷ []
words_of (draw program seed steps) = codes "lines" ∷ program ∷ decimal seed ∷ decimal steps ∷ []
words_of (settle program deliveries) = codes "settle" ∷ program ∷ decimal deliveries ∷ []
words_of (place placing) = codes "place" ∷ placing ∷ []
words_of (audit program «record») = codes "audit" ∷ program ∷ «record» ∷ []

-- a node takes at most so many datagrams
abbrev pub most_turns : ℕ
most_turns = 100000

-- at most so many steps are drawn, each of which is a line of a schedule
abbrev pub most_steps : ℕ
most_steps = most_lines

-- at most so many datagrams are delivered to settle a program
abbrev pub most_deliveries : ℕ
most_deliveries = 1000000

-- files have names, and numbers are in their ranges
abbrev pub IsInRange : CommandForm → Type 0
IsInRange (stubs program) = program ≢ []
IsInRange (run program) = program ≢ []
IsInRange (replay program schedule) = (program ≢ []) × (schedule ≢ [])
IsInRange (picture program schedule) = (program ≢ []) × (schedule ≢ [])
IsInRange (node program name turns) = (program ≢ []) × (turns ≤ most_turns)
IsInRange (sample program seed steps) = (program ≢ []) × (seed < 2 ^ 64) × (steps ≤ most_steps)
IsInRange (draw program seed steps) = (program ≢ []) × (seed < 2 ^ 64) × (steps ≤ most_steps)
IsInRange (settle program deliveries) = (program ≢ []) × (deliveries ≤ most_deliveries)
IsInRange (place placing) = placing ≢ []
IsInRange (audit program «record») = (program ≢ []) × («record» ≢ [])

-- the words are of this form
pub record IsOfForm (words : List (List ℕ)) (form : CommandForm) : Type 0 where
  pub spelled : words ≡ words_of form
  pub in_range : IsInRange form

-- the words are of no form
abbrev pub IsOfNoForm : List (List ℕ) → Type 0
IsOfNoForm words = (form : CommandForm) → IsOfForm words form → ⊥

-- the files that a form names, in the order in which they are fetched
abbrev pub files_of : CommandForm → List (List ℕ)
files_of (stubs program) = program ∷ []
files_of (run program) = program ∷ []
files_of (replay program schedule) = program ∷ schedule ∷ []
files_of (picture program schedule) = program ∷ schedule ∷ []
files_of (node program name turns) = program ∷ []
files_of (sample program seed steps) = program ∷ []
files_of (draw program seed steps) = program ∷ []
files_of (settle program deliveries) = program ∷ []
files_of (place placing) = placing ∷ []
files_of (audit program «record») = program ∷ «record» ∷ []

-- to show what the lines of a schedule come to: program, schedule
abbrev pub shown_form : Shown → List ℕ → List ℕ → CommandForm
shown_form Report program schedule = replay program schedule
shown_form Picture program schedule = picture program schedule

-- of a program and its second file: a schedule of which this is shown, or a record
abbrev pub second_form : Second → List ℕ → List ℕ → CommandForm
second_form (Schedule shown) program file = shown_form shown program file
second_form NodeRecord program file = audit program file
