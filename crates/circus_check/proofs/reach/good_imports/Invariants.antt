use Rattle.std.proofs.Common.{◌≡◌, ◌++◌, drop, map}
use Rattle.circus_lang.specs.ModuleTree.{module_of}
use Rattle.circus_check.specs.Meaning.{import_numbers}
use Rattle.circus_check.proofs.reach.good_imports.Given as goal

abbrev pub invariant-loop-name : goal.invariant-loop-name
invariant-loop-name l =
    let modules = map module_of l.naming.modules.now in
    l.numbers ++ import_numbers modules l.importing (drop l.name-index l.imports) ≡ import_numbers modules l.importing l.imports
