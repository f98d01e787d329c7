use Rattle.std.proofs.Common.{◌≡◌, ◌++◌, drop}
use Rattle.circus_value.specs.Seen.ShapeWords.{label_words}
use Rattle.circus_value.proofs.words.spell_labels.Given as goal

-- the words of the labels that are left are missing
abbrev pub invariant-loop-label : goal.invariant-loop-label
invariant-loop-label l = l.words.items ++ label_words (drop l.label-index l.label-items) ≡ l.fn.words.items ++ label_words l.labels
