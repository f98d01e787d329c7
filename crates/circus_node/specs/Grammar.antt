-- Messages by their grammar: the fields of a header, and behind them what values are spelled with.
use Rattle.std.specs.Prelude.{◌≡◌, ℕ, ◌≤◌, true, false, List, [], ◌++◌, Some}
use Rattle.circus_value.specs.ValueTree.{ValueTree}
use Rattle.circus_value.specs.Fits.{all_fit}
use Rattle.circus_value.specs.ExternalSize.{size_of_values}
use Rattle.circus_value.specs.declared.shape.Shape.{Shape}
use Rattle.circus_value.specs.declared.outcome.Outcome.{Outcome}
use Rattle.circus_external.specs.Spelling.{spelling_of_all}
use Rattle.circus_header.specs.Field.{bytes_of}
use Rattle.circus_header.specs.Reading.{Headers, IsOne, returns}
use Rattle.circus_header.specs.declared.answer.ReturnHeader.TheVariants as says
use Rattle.circus_model.specs.Lawful.{procedure_numbered, outcome_fits, values_of}
use Rattle.circus_model.specs.declared.signature.ProcedureShape.{ProcedureShape}
use Rattle.circus_member_rules.specs.Messages.{outcome_spelling}

-- bytes are the fields of a header, which are in their ranges, and then a body; none behind a header that has nothing behind it
pub record Heads {H : Type 0} (hs : Headers H) (bytes : List ℕ) (h : H) (body : List ℕ) : Type 0 where
  pub header : IsOne hs h
  pub whole : bytes ≡ bytes_of (hs.fields h) ++ body
  pub closed : hs.goes_on h ≡ false → body ≡ []

-- bytes spell one value for each shape, which fits it, and have at most so many bytes
pub record Spell (shapes : List Shape) (most : ℕ) (bytes : List ℕ) (values : List ValueTree) : Type 0 where
  pub fit : all_fit shapes values ≡ true
  pub spelled : bytes ≡ spelling_of_all values
  pub within : size_of_values values ≤ most

-- bytes spell arguments of the procedure with a number
pub record SpellArguments (procedures : List ProcedureShape) (number most : ℕ) (bytes : List ℕ) : Type 0 where
  pub procedure : ProcedureShape
  pub numbered : procedure_numbered number procedures ≡ Some procedure
  pub arguments : List ValueTree
  pub spelled : Spell procedure.arguments most bytes arguments

-- bytes spell an outcome that a procedure may have, whose values have at most so many bytes
pub record SpellOutcome (p : ProcedureShape) (most : ℕ) (bytes : List ℕ) (outcome : Outcome) : Type 0 where
  pub fits : outcome_fits p outcome ≡ true
  pub spelled : bytes ≡ outcome_spelling outcome
  pub within : size_of_values (values_of outcome) ≤ most

-- a message hands over a state, to which so many calls led
pub record HandsOver (variables : List Shape) (most : ℕ) (message : List ℕ) (state : List ValueTree) (count : ℕ) : Type 0 where
  pub body : List ℕ
  pub header : Heads returns message (says.Snapshot count) body
  pub spelled : Spell variables most body state
