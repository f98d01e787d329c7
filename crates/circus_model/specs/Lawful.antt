-- What every module keeps to: when a procedure may be started and resumed, and what its turns may be.
use Rattle.std.specs.Prelude.{ℕ, ◌≤◌, ◌<◌, Bool, false, ◌||◌, ◌==◌, List, [], ◌∷◌, ◌++◌, Option, find, IsTrue}
use Rattle.std.specs.Option.{option_map_or}
use Rattle.circus_value.specs.ValueTree.{ValueTree}
use Rattle.circus_value.specs.Fits.{all_fit}
use Rattle.circus_value.specs.ExternalSize.{size_of_values}
use Rattle.circus_model.specs.LanguageError.{is_language_error}
use Rattle.circus_value.specs.declared.outcome.Outcome.{Outcome}
use Rattle.circus_value.specs.declared.outcome.Outcome.TheVariants.{Returned, Raised}
use Rattle.circus_model.specs.declared.signature.Signature.{Signature}
use Rattle.circus_model.specs.declared.signature.Import.{Import}
use Rattle.circus_model.specs.declared.signature.ProcedureShape.{ProcedureShape}
use Rattle.circus_model.specs.declared.signature.ErrorShape.{ErrorShape}
use Rattle.circus_limits.specs.Limits.{most_asks, most_bytes}
use Rattle.circus_model.specs.NextTurn.{NextTurn, asks, ends}

-- the procedure with a number
abbrev pub procedure_numbered : ℕ → List ProcedureShape → Option ProcedureShape
procedure_numbered number procedures = find (λ p. p.number == number) procedures

-- the import of a module
abbrev pub import_of : ℕ → List Import → Option Import
import_of number imports = find (λ i. i.module == number) imports

-- the values fit the arguments of the procedure with this number
abbrev pub arguments_fit : List ProcedureShape → ℕ → List ValueTree → Bool
arguments_fit procedures number arguments =
    option_map_or (λ p. all_fit p.arguments arguments) (procedure_numbered number procedures) false

-- the error is reported with these values
abbrev pub is_reported : List ErrorShape → ℕ → List ValueTree → Bool
is_reported errors number values =
    option_map_or (λ e. all_fit e.arguments values) (find (λ e. e.number == number) errors) false

-- an error of the language is raised, which has no values
abbrev pub is_raised_by_language : ℕ → List ValueTree → Bool
is_raised_by_language number [] = is_language_error number
is_raised_by_language _ (_ ∷ _) = false

-- a procedure of this shape may end so
abbrev pub outcome_fits : ProcedureShape → Outcome → Bool
outcome_fits procedure (Returned results) = all_fit procedure.results results
outcome_fits procedure (Raised number values) =
    is_reported procedure.errors number values || is_raised_by_language number values

-- the results, or the error's values
abbrev pub values_of : Outcome → List ValueTree
values_of (Returned results) = results
values_of (Raised _ values) = values

-- the state is one that the module may have
pub record IsState (signature : Signature) (state : List ValueTree) : Type 0 where
  pub fits : IsTrue (all_fit signature.variables state)
  pub within : size_of_values state ≤ signature.limit

-- a procedure may be started so
pub record CanStart (signature : Signature) (state : List ValueTree) (procedure : ℕ) (arguments : List ValueTree) : Type 0 where
  pub from_state : IsState signature state
  pub fit : IsTrue (arguments_fit signature.procedures procedure arguments)
  pub within : size_of_values arguments ≤ most_bytes

-- an imported procedure may answer so
abbrev pub import_answers : List Import → ℕ → ℕ → Outcome → Bool
import_answers imports callee procedure outcome =
    option_map_or
    (λ i. option_map_or (λ p. outcome_fits p outcome) (procedure_numbered procedure i.procedures) false)
    (import_of callee imports)
    false

-- the reply fits the ask, if this turn is one
abbrev pub ReplyFits : List Import → NextTurn → Outcome → Type 0
ReplyFits imports (asks callee procedure _ _) reply = IsTrue (import_answers imports callee procedure reply)
ReplyFits imports (ends _ _) reply = ⊥

-- each reply fits the ask that the replies before it give; `turn` takes the replies so far
abbrev pub RepliesFit : List Import → (List Outcome → NextTurn) → List Outcome → List Outcome → Type 0
RepliesFit imports turn before [] = Unit {0}
RepliesFit imports turn before (reply ∷ replies) =
    ReplyFits imports (turn before) reply × RepliesFit imports turn (before ++ reply ∷ []) replies

-- an imported procedure takes these arguments
abbrev pub import_takes : List Import → ℕ → ℕ → List ValueTree → Bool
import_takes imports callee procedure arguments =
    option_map_or (λ i. arguments_fit i.procedures procedure arguments) (import_of callee imports) false

-- an ask goes to an import, with arguments that fit, within the limit, while asks are left
pub record IsLawfulAsk (signature : Signature) (replies callee procedure : ℕ) (arguments : List ValueTree) : Type 0 where
  pub few : replies < most_asks
  pub fit : IsTrue (import_takes signature.imports callee procedure arguments)
  pub within : size_of_values arguments ≤ signature.limit

-- an outcome is one that the procedure may have, within the limit
pub record IsLawfulEnd (signature : Signature) (procedure : ℕ) (outcome : Outcome) : Type 0 where
  pub fits : IsTrue (option_map_or (λ p. outcome_fits p outcome) (procedure_numbered procedure signature.procedures) false)
  pub within : size_of_values (values_of outcome) ≤ signature.limit

-- a turn of this procedure after so many replies
abbrev pub IsLawful : Signature → ℕ → ℕ → NextTurn → Type 0
IsLawful signature procedure replies (asks callee asked arguments state) =
    IsLawfulAsk signature replies callee asked arguments × IsState signature state
IsLawful signature procedure replies (ends outcome state) =
    IsLawfulEnd signature procedure outcome × IsState signature state
