use Rattle.std.proofs.Common.{◌≡◌, ◌++◌, drop}
use Rattle.circus_idl.specs.Lexemes.{lexemes_behind_spaces}
use Rattle.circus_idl.specs.Shown.{later_labels}
use Rattle.circus_idl.proofs.writer.Writer.labels.Given as goal

-- the labels that are left follow what is written
abbrev pub invariant-loop-label : goal.invariant-loop-label
invariant-loop-label l = l.self ++ lexemes_behind_spaces (later_labels (drop l.label-index l.others)) ≡ l.initial.self ++ lexemes_behind_spaces (later_labels l.others)
