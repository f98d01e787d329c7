use Rattle.std.proofs.Common.{map, arith, sym}
use Rattle.circus_lang.specs.ModuleTree.{module_of}
use Rattle.circus_check.proofs.Named.{good_is_earlier}
use Rattle.circus_check.proofs.surroundings.import_number.Goals as goal

-- a good import is an earlier module
pub overflow_cast-result : goal.overflow_cast-result
overflow_cast-result c =
    let below = (good_is_earlier (map module_of c.args.naming.now.modules.now) c.args.importing c.args.name.now c.in-Good.number (sym c.in-Good.ensures)).below in
    omega (arith, below, c.requires)
