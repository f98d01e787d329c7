use Rattle.std.proofs.Common.{◌≡◌, ◌++◌, drop, map}
use Rattle.circus_lang.specs.ModuleTree.{module_of}
use Rattle.circus_check.specs.Meaning.{import_numbers}
use Rattle.circus_check.proofs.checking.import_numbers.Given as goal

abbrev pub invariant-loop-name : goal.invariant-loop-name
invariant-loop-name l =
    let modules = map module_of l.program.naming.now.modules.now in
    l.numbers ++ import_numbers modules l.own.number (drop l.name-index l.name-items) ≡ import_numbers modules l.own.number l.own.text.now.imports
