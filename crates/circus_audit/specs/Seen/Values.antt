-- Values and outcomes, by what a module declares.
use Rattle.std.specs.Prelude.{ℕ, ◌==◌, cond, List, [], ◌∷◌, ◌++◌, codes, find, option_and_then, Option, Some, None}
use Rattle.circus_value.specs.declared.shape.Shape.{Shape}
use Rattle.circus_value.specs.ShapeOf.{tree_of}
use Rattle.circus_value.specs.ValueTree.{ValueTree}
use Rattle.circus_value.specs.declared.outcome.Outcome.{Outcome}
use Rattle.circus_value.specs.declared.outcome.Outcome.TheVariants.{Returned, Raised}
use Rattle.circus_model.specs.LanguageError.{is_language_error}
use Rattle.circus_model.specs.Lawful.{procedure_numbered, import_of}
use Rattle.circus_model.specs.declared.signature.ErrorShape.{ErrorShape}
use Rattle.circus_model.specs.declared.signature.Import.{Import}
use Rattle.circus_model.specs.declared.signature.ProcedureShape.{ProcedureShape}
use Rattle.circus_value_text.specs.Reading.{Read, and_then, seen_as, behind, between, behind_prefix, reading, one_more, comma, number_read}

-- a value behind a mark
abbrev pub value_behind : List ℕ → Shape → List ℕ → Read ValueTree
value_behind mark shape text = behind (behind_prefix mark text) (reading (tree_of shape))

-- one value for each shape, the first of them behind this, and the others behind a comma
abbrev pub shapes_read : List Shape → List ℕ → List ℕ → Read (List ValueTree)
shapes_read [] mark text = Some ([], text)
shapes_read (shape ∷ shapes) mark text = and_then (value_behind mark shape text) (λ t rest. one_more t (shapes_read shapes comma rest))

-- these values in front of the others
abbrev pub values_before : List ValueTree → Read (List ValueTree) → Read (List ValueTree)
values_before done r = seen_as (λ ts. done ++ ts) r

abbrev pub values_read : List Shape → List ℕ → Read (List ValueTree)
values_read shapes text = between (codes "[") (codes "]") (shapes_read shapes []) text

-- values behind a mark
abbrev pub values_behind : List ℕ → List Shape → List ℕ → Read (List ValueTree)
values_behind mark shapes text = behind (behind_prefix mark text) (values_read shapes)

-- ---- outcomes

-- the values of an error that is reported
abbrev pub reported_read : ℕ → List ℕ → Option ErrorShape → Read Outcome
reported_read number text (Some e) = seen_as (λ values. Raised number values) (values_read e.arguments text)
reported_read number text None = None

-- where an error of the language stands without values, what stands behind it
abbrev pub bare_error : ℕ → List ℕ → Option (List ℕ)
bare_error number text = cond (is_language_error number) (behind_prefix (codes "[]") text) None

abbrev pub error_numbered : List ErrorShape → ℕ → Option ErrorShape
error_numbered errors number = find (λ e. e.number == number) errors

abbrev pub error_if : List ErrorShape → ℕ → List ℕ → Option (List ℕ) → Read Outcome
error_if errors number text (Some rest) = Some (Raised number [], rest)
error_if errors number text None = reported_read number text (error_numbered errors number)

-- the values of the error with this number
abbrev pub error_read : List ErrorShape → ℕ → List ℕ → Read Outcome
error_read errors number text = error_if errors number text (bare_error number text)

abbrev pub raised_read : List ErrorShape → List ℕ → Read Outcome
raised_read errors text =
    and_then (number_read 65535 text) (λ number rest. behind (behind_prefix (codes " ") rest) (error_read errors number))

abbrev pub outcome_if : ProcedureShape → List ℕ → Option (List ℕ) → Read Outcome
outcome_if p text (Some inner) = seen_as (λ results. Returned results) (values_read p.results inner)
outcome_if p text None = behind (behind_prefix (codes "raised ") text) (raised_read p.errors)

-- how a procedure may end
abbrev pub outcome_read : ProcedureShape → List ℕ → Read Outcome
outcome_read p text = outcome_if p text (behind_prefix (codes "returned ") text)

-- an outcome behind a blank
abbrev pub outcome_behind : ProcedureShape → List ℕ → Read Outcome
outcome_behind p text = behind (behind_prefix (codes " ") text) (outcome_read p)

-- ---- procedures

-- what a procedure reads, if there is one
abbrev pub by_shape : {A : Type 0} → Option ProcedureShape → (ProcedureShape → Read A) → Read A
by_shape (Some p) f = f p
by_shape None f = None

abbrev pub import_numbered : List Import → ℕ → Option Import
import_numbered imports callee = import_of callee imports

-- the procedure of an import
abbrev pub procedure_of_import : List Import → ℕ → ℕ → Option ProcedureShape
procedure_of_import imports callee number = option_and_then (λ (i : Import). procedure_numbered number i.procedures) (import_of callee imports)
