use Rattle.std.proofs.Common.{◌≡◌, ◌++◌, drop}
use Rattle.std.specs.List.{flat_map}
use Rattle.circus_idl.specs.Lexemes.{lexemes_behind_spaces}
use Rattle.circus_idl.specs.Shown.{declared_error}
use Rattle.circus_idl.proofs.writer.Writer.errors.Given as goal

-- what is left follows what is written
abbrev pub invariant-loop-error : goal.invariant-loop-error
invariant-loop-error l = l.self ++ lexemes_behind_spaces (flat_map declared_error (drop l.error-index l.errors)) ≡ l.initial.self ++ lexemes_behind_spaces (flat_map declared_error l.errors)
