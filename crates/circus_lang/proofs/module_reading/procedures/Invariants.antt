use Rattle.std.proofs.Common.{◌≡◌, length, map}
use Rattle.std.specs.Prelude.{codes}
use Rattle.circus_syntax.specs.Spelling.{most_levels}
use Rattle.circus_expression.specs.Standing.{show_as}
use Rattle.circus_statement.specs.StatementReading.{is_word}
use Rattle.circus_statement.proofs.Steps.{go_on}
use Rattle.circus_lang.specs.ModuleTree.{procedure_of}
use Rattle.circus_lang.specs.ModuleReading.{procedure, procedures}
use Rattle.circus_lang.specs.ModuleStanding.{procedure_stands_for}
use Rattle.circus_lang.proofs.module_reading.procedures.Given as goal

-- the procedures so far and those that follow are the procedures
abbrev pub invariant-loop-procedures : goal.invariant-loop-procedures
invariant-loop-procedures l = show_as (map procedure_stands_for) (procedures most_levels l.fn.reader) ≡ go_on procedure_stands_for (is_word (codes "PROCEDURE")) (procedure most_levels) (map procedure_of l.procedures) l.reader

abbrev pub decreases-loop-procedures : goal.decreases-loop-procedures
decreases-loop-procedures l = length l.reader.rest
