use Rattle.std.proofs.Common.{◌≡◌, drop, map}
use Rattle.circus_fault.specs.Least.{least_from}
use Rattle.circus_resolve.specs.Causes.{rank}
use Rattle.circus_lang.specs.ModuleTree.{module_of}
use Rattle.circus_check.specs.Faults.{imports_faults}
use Rattle.circus_check.proofs.module.check_imports.Given as goal

abbrev pub invariant-loop-name : goal.invariant-loop-name
invariant-loop-name l =
    let modules = map module_of l.naming.modules.now in
    least_from rank l.best.fault (imports_faults modules l.number (drop l.name-index l.names)) ≡ least_from rank l.fn.best.fault (imports_faults modules l.number l.names)
