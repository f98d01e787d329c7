use Rattle.std.proofs.Common.{◌≡◌, ◌++◌, drop}
use Rattle.std.specs.List.{flat_map}
use Rattle.circus_idl.specs.Lexemes.{lexemes_behind_spaces}
use Rattle.circus_idl.specs.Shown.{declared_type}
use Rattle.circus_idl.proofs.writer.Writer.types.Given as goal

-- what is left follows what is written
abbrev pub invariant-loop-declared : goal.invariant-loop-declared
invariant-loop-declared l = l.self ++ lexemes_behind_spaces (flat_map declared_type (drop l.declared-index l.types)) ≡ l.initial.self ++ lexemes_behind_spaces (flat_map declared_type l.types)
