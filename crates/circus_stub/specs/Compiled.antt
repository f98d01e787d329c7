-- What an interface is compiled to.
use Rattle.std.specs.Prelude.{◌≡◌, ℕ, ◌==◌, Option, Some, None, List, [], cond, find, map}
use Rattle.std.specs.Option.{option_map}
use Rattle.circus_value.specs.ShapeTree.{field_trees}
use Rattle.circus_idl.specs.declared.interface.Interface.{Interface}
use Rattle.circus_idl.specs.declared.interface.Procedure.{Procedure}
use Rattle.circus_idl.specs.declared.interface.DeclaredError.{DeclaredError}
use Rattle.circus_stub.specs.declared.stubs.Stubs.{Stubs}
use Rattle.circus_stub.specs.declared.stubs.ProcedureStub.{ProcedureStub}
use Rattle.circus_stub.specs.declared.stubs.ErrorStub.{ErrorStub}
use Rattle.circus_stub.specs.declared.operation.Operation.{Operation}
use Rattle.circus_stub.specs.Flat.{flat_fields}
use Rattle.circus_value.specs.Among.{is_among}
use Rattle.circus_model.specs.LanguageError.{is_language_error}

-- the operations of a procedure's arguments and results, and what it reports
abbrev pub procedure_stub : Procedure → ProcedureStub
procedure_stub p =
    record { number = p.number; arguments = flat_fields (field_trees p.arguments) 0; results = flat_fields (field_trees p.results) 0; reports = p.reports }

-- the operations of an error's values
abbrev pub error_stub : DeclaredError → ErrorStub
error_stub e = record { number = e.number; values = flat_fields (field_trees e.arguments) 0 }

-- the stubs of an interface, for messages of at most so many bytes
abbrev pub compile_stubs : Interface → ℕ → Stubs
compile_stubs i limit =
    record { limit = limit; procedures = map procedure_stub i.procedures; errors = map error_stub i.errors }

-- they are the stubs of some interface
abbrev pub AreCompiled : Stubs → Type 0
AreCompiled stubs = (i : Interface) × (stubs ≡ compile_stubs i stubs.limit)

-- the first of the stubs with a procedure's number
abbrev pub stub_of : Stubs → ℕ → Option ProcedureStub
stub_of stubs n = find (λ (p : ProcedureStub). p.number == n) stubs.procedures

-- the operations of the first of the stubs with an error's number
abbrev pub error_values : Stubs → ℕ → Option (List Operation)
error_values stubs n = option_map (λ (e : ErrorStub). e.values) (find (λ (e : ErrorStub). e.number == n) stubs.errors)

-- the operations of what a procedure raises under a number
abbrev pub raised_operations : Stubs → ProcedureStub → ℕ → Option (List Operation)
raised_operations stubs p n =
    cond (is_among p.reports n) (error_values stubs n) (cond (is_language_error n) (Some []) None)
