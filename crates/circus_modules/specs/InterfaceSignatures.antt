-- What an interface says of the modules that implement it, without names.
use Rattle.std.specs.Prelude.{ℕ, List, [], ◌∷◌, ◌++◌, map, find, option_to_list}
use Rattle.circus_value.specs.declared.shape.Shape.{Shape}
use Rattle.circus_value.specs.ShapeTree.{FieldTree}
use Rattle.circus_value.specs.ShapeOf.{shape_in}
use Rattle.circus_model.specs.declared.signature.ErrorShape.{ErrorShape}
use Rattle.circus_model.specs.declared.signature.ProcedureShape.{ProcedureShape}
use Rattle.circus_idl.specs.Shown.{has_number}
use Rattle.circus_idl.specs.declared.interface.DeclaredError.{DeclaredError}
use Rattle.circus_idl.specs.declared.interface.Procedure.{Procedure}
use Rattle.circus_idl.specs.declared.interface.Interface.{Interface}

-- the types of fields
abbrev pub shapes_in : List FieldTree → List Shape
shapes_in fields = map (λ f. shape_in f.shape) fields

-- an error
abbrev pub error_of : DeclaredError → ErrorShape
error_of e = record { number = e.number; arguments = shapes_in e.arguments }

-- the first error of a number, if there is one
abbrev pub error_numbered : List DeclaredError → ℕ → List ErrorShape
error_numbered declared n = map error_of (option_to_list (find (has_number n) declared))

-- the errors of these numbers, in the order of the numbers
abbrev pub errors_numbered : List DeclaredError → List ℕ → List ErrorShape
errors_numbered declared [] = []
errors_numbered declared (n ∷ ns) = error_numbered declared n ++ errors_numbered declared ns

-- a procedure, with the errors that it reports
abbrev pub procedure_of : List DeclaredError → Procedure → ProcedureShape
procedure_of declared p = record { number = p.number; arguments = shapes_in p.arguments; results = shapes_in p.results; errors = errors_numbered declared p.reports }

abbrev pub procedures_of : Interface → List ProcedureShape
procedures_of i = map (procedure_of i.errors) i.procedures
