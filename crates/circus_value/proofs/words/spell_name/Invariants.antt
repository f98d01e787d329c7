use Rattle.std.proofs.Common.{◌≡◌, ◌++◌, drop}
use Rattle.circus_value.specs.Seen.ShapeWords.{name_words}
use Rattle.circus_value.proofs.words.spell_name.Given as goal

-- the words of the bytes that are left are missing
abbrev pub invariant-loop-byte : goal.invariant-loop-byte
invariant-loop-byte l = l.words.items ++ name_words (drop l.byte-index l.name) ≡ l.fn.words.items ++ name_words l.name
