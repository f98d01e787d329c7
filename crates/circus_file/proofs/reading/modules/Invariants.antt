use Rattle.std.proofs.Common.{◌≡◌, length, map}
use Rattle.circus_syntax.specs.Spelling.{most_levels}
use Rattle.circus_expression.specs.Standing.{show_as}
use Rattle.circus_statement.proofs.Steps.{go_on}
use Rattle.circus_lang.specs.ModuleTree.{module_of}
use Rattle.circus_lang.specs.ModuleReading.{begins_module, module_text}
use Rattle.circus_lang.specs.ModuleStanding.{module_stands_for}
use Rattle.circus_file.specs.ProgramReading.{modules}
use Rattle.circus_file.proofs.reading.modules.Given as goal

-- the modules so far and those that follow are the modules
abbrev pub invariant-loop-modules : goal.invariant-loop-modules
invariant-loop-modules l = show_as (map module_stands_for) (modules most_levels l.fn.reader) ≡ go_on module_stands_for begins_module (module_text most_levels) (map module_of l.modules) l.reader

abbrev pub decreases-loop-modules : goal.decreases-loop-modules
decreases-loop-modules l = length l.reader.rest
