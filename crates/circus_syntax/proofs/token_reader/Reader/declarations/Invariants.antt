use Rattle.std.proofs.Common.{◌≡◌, length, map}
use Rattle.circus_syntax.specs.InterfaceTree.{declared_of}
use Rattle.circus_syntax.specs.Placed.{is_name}
use Rattle.circus_syntax.specs.Reading.{one_declaration, declarations}
use Rattle.circus_syntax.specs.Spelling.{most_levels}
use Rattle.circus_syntax.proofs.Loops.{goes_on}
use Rattle.circus_syntax.proofs.token_reader.Reader.declarations.Given as goal

-- the declarations so far and those that follow are the declarations
abbrev pub invariant-loop-declared : goal.invariant-loop-declared
invariant-loop-declared l = declarations most_levels l.fn.self ≡ goes_on is_name (one_declaration most_levels) (map declared_of l.declared) l.self

abbrev pub decreases-loop-declared : goal.decreases-loop-declared
decreases-loop-declared l = length l.self.rest
