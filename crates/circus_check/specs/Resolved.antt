-- Resolved modules, as they are in memory, as modules that were meant.
use Rattle.std.specs.Prelude.{map}
use Rattle.circus_check.specs.declared.checked.CheckedBody.{CheckedBody}
use Rattle.circus_check.specs.declared.checked.ResolvedModule.{ResolvedModule}
use Rattle.circus_check.specs.Meaning.{BodyMeant, ModuleMeant}

abbrev pub body_as : CheckedBody → BodyMeant
body_as b = record { locals = b.locals; statements = b.statements }

abbrev pub module_as : ResolvedModule → ModuleMeant
module_as m = record {
  name = m.name;
  root = m.root;
  interface = m.interface;
  imports = m.imports;
  variables = m.variables;
  bodies = map body_as m.bodies;
}
