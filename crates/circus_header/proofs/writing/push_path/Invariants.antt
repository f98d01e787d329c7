use Rattle.std.proofs.Common.{◌∷◌, length, take, map}
use Rattle.circus_header.specs.Field.{word}
use Rattle.circus_header.specs.Seen.Written.{Written}
use Rattle.circus_header.proofs.writing.push_path.Given as goal

abbrev pub invariant-loop-number : goal.invariant-loop-number
invariant-loop-number l = Written l.fn.out (word (length l.path) ∷ map word (take l.number-index l.path)) l.out
