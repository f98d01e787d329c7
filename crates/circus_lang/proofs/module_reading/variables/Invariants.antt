use Rattle.std.proofs.Common.{◌≡◌, length, map}
use Rattle.std.specs.Prelude.{codes}
use Rattle.circus_syntax.specs.Spelling.{most_levels}
use Rattle.circus_syntax.proofs.Loops.{goes_on}
use Rattle.circus_statement.specs.StatementReading.{is_word}
use Rattle.circus_lang.specs.ModuleTree.{variable_of}
use Rattle.circus_lang.specs.ModuleReading.{variable, variables}
use Rattle.circus_lang.proofs.module_reading.variables.Given as goal

-- the variables so far and those that follow are the variables
abbrev pub invariant-loop-variables : goal.invariant-loop-variables
invariant-loop-variables l = variables most_levels l.fn.reader ≡ goes_on (is_word (codes "VAR")) (variable most_levels) (map variable_of l.variables) l.reader

abbrev pub decreases-loop-variables : goal.decreases-loop-variables
decreases-loop-variables l = length l.reader.rest
