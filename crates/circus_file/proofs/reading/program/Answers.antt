use Rattle.std.proofs.Common.{map}
use Rattle.circus_syntax.specs.InterfaceTree.{interface_of}
use Rattle.circus_syntax.specs.Spelling.{most_levels}
use Rattle.circus_lang.specs.ModuleTree.{module_of}
use Rattle.circus_file.proofs.Steps.{program_is}
use Rattle.circus_file.proofs.reading.program.Goals as goal

pub returns : goal.returns
returns c =
    program_is most_levels c.args.reader.now c.heading-format.new.reader c.interfaces.new.reader c.modules.new.reader c.deployment.new.reader c.heading-format.result (map interface_of c.in_ok-interfaces.interfaces) (map module_of c.in_ok-modules.modules)
    c.in_ok-deployment.deployment c.heading-format.ensures c.in_ok-interfaces.ensures c.in_ok-modules.ensures c.in_ok-deployment.ensures
