use Rattle.std.proofs.Common.{◌≡◌, ◌++◌, drop}
use Rattle.circus_idl.specs.Lexemes.{lexemes_behind_spaces}
use Rattle.circus_idl.proofs.ShownFrom.{names_from}
use Rattle.circus_idl.proofs.writer.Writer.error_names.Given as goal

-- the names that are left follow what is written
abbrev pub invariant-loop-place : goal.invariant-loop-place
invariant-loop-place l =
    l.self ++ lexemes_behind_spaces (names_from l.place l.errors.errors.now (drop l.place l.numbers)) ≡ l.initial.self ++ lexemes_behind_spaces (names_from 0 l.errors.errors.now l.numbers)
