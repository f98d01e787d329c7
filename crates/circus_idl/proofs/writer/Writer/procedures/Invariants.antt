use Rattle.std.proofs.Common.{◌≡◌, ◌++◌, drop}
use Rattle.std.specs.List.{flat_map}
use Rattle.circus_idl.specs.Lexemes.{lexemes_behind_spaces}
use Rattle.circus_idl.specs.Shown.{declared_procedure}
use Rattle.circus_idl.proofs.writer.Writer.procedures.Given as goal

-- what is left follows what is written
abbrev pub invariant-loop-procedure : goal.invariant-loop-procedure
invariant-loop-procedure l =
    l.self ++ lexemes_behind_spaces (flat_map (declared_procedure l.errors.errors.now) (drop l.procedure-index l.procedures))
    ≡ l.initial.self ++ lexemes_behind_spaces (flat_map (declared_procedure l.errors.errors.now) l.procedures)
