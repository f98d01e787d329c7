-- What the modules of a checked program declare.
use Rattle.std.specs.Prelude.{ℕ, List, [], Option, Some, None, map, unwrap_or, slice_get}
use Rattle.circus_model.specs.declared.signature.Import.{Import}
use Rattle.circus_model.specs.declared.signature.ProcedureShape.{ProcedureShape}
use Rattle.circus_model.specs.declared.signature.Signature.{Signature}
use Rattle.circus_model.specs.Agree.{main_alone}
use Rattle.circus_idl.specs.declared.interface.Interface.{Interface}
use Rattle.circus_modules.specs.InterfaceSignatures.{shapes_in, procedures_of}
use Rattle.circus_check.specs.Meaning.{ModuleMeant}

abbrev pub procedures_if : Option Interface → List ProcedureShape
procedures_if None = []
procedures_if (Some i) = procedures_of i

-- the procedures of a module, by the number of its interface; a root has MAIN alone
abbrev pub procedures_offered : List Interface → Option ℕ → List ProcedureShape
procedures_offered interfaces None = main_alone
procedures_offered interfaces (Some n) = procedures_if (slice_get interfaces n)

-- the number of each module's interface
abbrev pub interface_numbers : List ModuleMeant → List (Option ℕ)
interface_numbers modules = map (λ m. m.interface) modules

-- a module that is imported, where modules implement interfaces of these numbers
abbrev pub import_of : List Interface → List (Option ℕ) → ℕ → Import
import_of interfaces numbers k = record { «module» = k; procedures = procedures_offered interfaces (unwrap_or (slice_get numbers k) None) }

-- a module whose states and values may have so many bytes
abbrev pub signature_of : ℕ → List Interface → List (Option ℕ) → ModuleMeant → Signature
signature_of limit interfaces numbers m = record {
  root = m.root;
  imports = map (import_of interfaces numbers) m.imports;
  variables = shapes_in m.variables;
  procedures = procedures_offered interfaces m.interface;
  limit = limit;
}
