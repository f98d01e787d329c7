-- A program file as a plain tree, and which one a written program stands for.
use Rattle.std.specs.Prelude.{map}
use Rattle.circus_syntax.specs.InterfaceTree.{interface_of}
use Rattle.circus_lang.specs.ModuleTree.{ModuleTree, module_of}
use Rattle.circus_lang.specs.ModuleStanding.{module_stands_for}
use Rattle.circus_file.specs.declared.program_text.ProgramText.{ProgramText}
use Rattle.circus_file.specs.WrittenProgram.{ProgramOf, WrittenProgram}

abbrev pub ProgramTree : Type 0
ProgramTree = ProgramOf ModuleTree

abbrev pub program_of : ProgramText → ProgramTree
program_of p = record { format = p.format; interfaces = map interface_of p.interfaces; modules = map module_of p.modules; deployment = p.deployment }

abbrev pub program_stands_for : WrittenProgram → ProgramTree
program_stands_for p = record { format = p.format; interfaces = p.interfaces; modules = map module_stands_for p.modules; deployment = p.deployment }
