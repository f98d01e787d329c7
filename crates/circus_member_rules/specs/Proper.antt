-- Modules whose shapes and numbers are proper: what is spelled of them is read again.
use Rattle.std.specs.Prelude.{ℕ, ◌≡◌, ◌<◌, true, List, Contains}
use Rattle.circus_external.specs.Refusal.{are_proper}
use Rattle.circus_transfer.specs.Snapshot.{fields_of}
use Rattle.circus_model.specs.LanguageError.{number_of}
use Rattle.circus_model.specs.declared.language_error.LanguageError.TheVariants.{Range}
use Rattle.circus_model.specs.declared.signature.ErrorShape.{ErrorShape}
use Rattle.circus_model.specs.declared.signature.ProcedureShape.{ProcedureShape}
use Rattle.circus_model.specs.declared.signature.Signature.{Signature}
use Rattle.circus_model.specs.Behaviour.{Behaviour}
use Rattle.circus_model.specs.Agree.{IsAt}

pub record IsProperProcedure (p : ProcedureShape) : Type 0 where
  pub number : p.number < 65536
  pub arguments : are_proper (fields_of p.arguments) ≡ true
  pub results : are_proper (fields_of p.results) ≡ true
  pub errors : (e : ErrorShape) → Contains p.errors e → are_proper (fields_of e.arguments) ≡ true
  -- below those of the language
  pub numbers : (e : ErrorShape) → Contains p.errors e → e.number < number_of Range

pub record IsProperModule (s : Signature) : Type 0 where
  pub variables : are_proper (fields_of s.variables) ≡ true
  pub procedures : (p : ProcedureShape) → Contains s.procedures p → IsProperProcedure p

abbrev pub AreProper : List Behaviour → Type 0
AreProper program = (place : ℕ) (b : Behaviour) → IsAt program place b → IsProperModule b.declared
