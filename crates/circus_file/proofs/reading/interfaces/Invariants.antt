use Rattle.std.proofs.Common.{◌≡◌, length, map}
use Rattle.circus_syntax.specs.InterfaceTree.{interface_of}
use Rattle.circus_syntax.specs.Placed.{is_name}
use Rattle.circus_syntax.specs.Reading.{interface}
use Rattle.circus_syntax.specs.Spelling.{most_levels}
use Rattle.circus_syntax.proofs.Loops.{goes_on}
use Rattle.circus_file.specs.ProgramReading.{interfaces}
use Rattle.circus_file.proofs.reading.interfaces.Given as goal

-- the interfaces so far and those that follow are the interfaces
abbrev pub invariant-loop-interfaces : goal.invariant-loop-interfaces
invariant-loop-interfaces l = interfaces most_levels l.fn.reader ≡ goes_on is_name (interface most_levels) (map interface_of l.interfaces) l.reader

abbrev pub decreases-loop-interfaces : goal.decreases-loop-interfaces
decreases-loop-interfaces l = length l.reader.rest
