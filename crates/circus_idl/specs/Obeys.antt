-- The rules that an interface obeys.
use Rattle.std.specs.Prelude.{◌≤◌, List, map, Contains}
use Rattle.std.specs.List.{AllByRecursion}
use Rattle.circus_type.specs.Limits.{greatest_word, most_parts, most_zero_bytes}
use Rattle.circus_type.specs.Distinct.{AreDistinct}
use Rattle.circus_type.specs.Together.{parts_of, zero_size_of}
use Rattle.circus_type.specs.Obeys.{IsName, ObeysWhole, ObeyFieldList}
use Rattle.circus_idl.specs.declared.interface.DeclaredError.{DeclaredError}
use Rattle.circus_idl.specs.declared.interface.Procedure.{Procedure}
use Rattle.circus_idl.specs.declared.interface.Interface.{Interface}
use Rattle.circus_idl.specs.Limits.{greatest_error, greatest_program}
use Rattle.circus_idl.specs.Whole.{declared_names, whole_types}

-- an error
pub record ObeysError (e : DeclaredError) : Type 0 where
  pub in_range : e.number ≤ greatest_error
  pub arguments : ObeyFieldList e.arguments

-- a procedure over these errors
pub record ObeysProcedure (errors : List DeclaredError) (p : Procedure) : Type 0 where
  pub in_range : p.number ≤ greatest_word
  pub arguments : ObeyFieldList p.arguments
  pub results : ObeyFieldList p.results
  pub small : zero_size_of p.arguments ≤ most_zero_bytes
  pub reports : AllByRecursion (λ n. Contains (map (λ (e : DeclaredError). e.number) errors) n) p.reports

-- an interface
pub record Obeys (i : Interface) : Type 0 where
  pub named : IsName i.name
  pub number : i.number ≤ greatest_program
  pub version : i.version ≤ greatest_word
  pub declared_named : AllByRecursion IsName (declared_names i)
  pub names : AreDistinct (declared_names i)
  pub types : AllByRecursion ObeysWhole (whole_types i)
  pub errors : AllByRecursion ObeysError i.errors
  pub error_numbers : AreDistinct (map (λ (e : DeclaredError). e.number) i.errors)
  pub procedures : AllByRecursion (ObeysProcedure i.errors) i.procedures
  pub procedure_numbers : AreDistinct (map (λ (p : Procedure). p.number) i.procedures)
  pub parts : parts_of (whole_types i) ≤ most_parts
