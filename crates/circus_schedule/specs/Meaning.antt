-- What a line of a schedule stands for, by the numbers of nodes.
use Rattle.std.specs.Prelude.{ℕ, ◌≡◌, ◌<◌, List, [], ◌∷◌, Option, Some, option_map, option_and_then, is_none, find, bytes_eq}
use Rattle.std.specs.List.{position_from}
use Rattle.circus_collate.specs.declared.deployment.Host.{Host}
use Rattle.circus_schedule.specs.WrittenLine.{WrittenLine, deliver, tick, crash, down, join, Spells}
use Rattle.circus_schedule.specs.declared.line.Line.{Line}
use Rattle.circus_schedule.specs.declared.line.Line.TheVariants.{Deliver, Tick, Crash, Down, Join}

-- the number of the node of a name, where there is one
abbrev pub Numbers : Type 0
Numbers = List ℕ → Option ℕ

-- nodes are numbered from 0, in their order
abbrev pub numbers_of : List Host → Numbers
numbers_of nodes name = position_from (λ (node : Host). bytes_eq node.name name) 0 nodes

-- the names that stand for nodes, from the left
abbrev pub names_in : WrittenLine → List (List ℕ)
names_in (deliver number) = []
names_in (tick node) = node ∷ []
names_in (crash node) = node ∷ []
names_in (down node told) = node ∷ told ∷ []
names_in (join node) = node ∷ []

-- the first name that no node has
abbrev pub first_unknown : Numbers → List (List ℕ) → Option (List ℕ)
first_unknown numbers names = find (λ name. is_none (numbers name)) names

-- the line with numbers for names, where each is known
abbrev pub line_of : Numbers → WrittenLine → Option Line
line_of numbers (deliver number) = Some (Deliver number)
line_of numbers (tick node) = option_map Tick (numbers node)
line_of numbers (crash node) = option_map Crash (numbers node)
line_of numbers (down node told) = option_and_then (λ a. option_map (Down a) (numbers told)) (numbers node)
line_of numbers (join node) = option_map Join (numbers node)

-- the text is that of a line which stands for this one
abbrev pub IsReadAs : Numbers → List ℕ → Line → Type 0
IsReadAs numbers text line = (written : WrittenLine) × Spells text written × (line_of numbers written ≡ Some line)

-- the line asks for nodes below this number alone
abbrev pub NamesBelow : ℕ → Line → Type 0
NamesBelow count (Deliver number) = Unit {0}
NamesBelow count (Tick node) = node < count
NamesBelow count (Crash node) = node < count
NamesBelow count (Down node told) = (node < count) × (told < count)
NamesBelow count (Join node) = node < count
