use Rattle.std.proofs.Common.{◌∷◌, length, take, map}
use Rattle.circus_header.specs.Field.{word, long}
use Rattle.circus_header.specs.Seen.Written.{Written}
use Rattle.circus_header.proofs.writing.push_clock.Given as goal

abbrev pub invariant-loop-count : goal.invariant-loop-count
invariant-loop-count l = Written l.fn.out (word (length l.clock) ∷ map long (take l.count-index l.clock)) l.out
