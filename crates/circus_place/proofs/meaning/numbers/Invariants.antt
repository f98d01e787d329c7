use Rattle.std.proofs.Common.{◌≡◌, ◌++◌, drop, map}
use Rattle.circus_fault.specs.Seen.Tables.{known_of}
use Rattle.circus_place.specs.Seen.Cut.{name_cut}
use Rattle.circus_place.proofs.meaning.numbers.Given as goal

-- the numbers so far, and those of what is left
abbrev pub invariant-loop-name : goal.invariant-loop-name
invariant-loop-name l = l.numbers ++ map (name_cut (known_of l.machines)) (drop l.name-index l.names) ≡ map (name_cut (known_of l.machines)) l.names
