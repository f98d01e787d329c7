-- The signs and words of operators, and which of them a production joins its operands by.
use Rattle.std.specs.Prelude.{Bool, List, [], ◌∷◌, Option, Some, None, codes, is_some, if◌then◌else◌}
use Rattle.circus_text.specs.Token.{Lexeme}
use Rattle.circus_syntax.specs.Placed.{Placed, word, sign, is_lexeme}
use Rattle.circus_expression.specs.declared.operator.Operator.{Operator}
use Rattle.circus_expression.specs.declared.operator.Operator.TheVariants as op
use Rattle.circus_expression.specs.declared.operator.Chain.{Chain}
use Rattle.circus_expression.specs.declared.operator.Chain.TheVariants as of

abbrev pub lexeme_of : Operator → Lexeme
lexeme_of op.Or = word (codes "OR")
lexeme_of op.And = word (codes "AND")
lexeme_of op.Equal = sign (codes "=")
lexeme_of op.Unequal = sign (codes "<>")
lexeme_of op.Less = sign (codes "<")
lexeme_of op.AtMost = sign (codes "<=")
lexeme_of op.Greater = sign (codes ">")
lexeme_of op.AtLeast = sign (codes ">=")
lexeme_of op.Plus = sign (codes "+")
lexeme_of op.Minus = sign (codes "-")
lexeme_of op.Join = sign (codes "&")
lexeme_of op.Times = sign (codes "*")
lexeme_of op.Div = word (codes "DIV")
lexeme_of op.Mod = word (codes "MOD")

-- the operators of a chain
abbrev pub operators : Chain → List Operator
operators of.Expression = op.Or ∷ []
operators of.Conjunct = op.And ∷ []
operators of.Sum = op.Plus ∷ op.Minus ∷ op.Join ∷ []
operators of.Term = op.Times ∷ op.Div ∷ op.Mod ∷ []

-- the operators of a comparison
abbrev pub comparisons : List Operator
comparisons = op.Equal ∷ op.Unequal ∷ op.Less ∷ op.AtMost ∷ op.Greater ∷ op.AtLeast ∷ []

-- which of these operators the token is
abbrev pub operator_in : List Operator → Placed → Option Operator
operator_in [] t = None
operator_in (o ∷ os) t = if is_lexeme (lexeme_of o) t then Some o else operator_in os t

abbrev pub is_operator : List Operator → Placed → Bool
is_operator os t = is_some (operator_in os t)

-- which of them the next token is
abbrev pub next_operator : List Operator → Option Placed → Option Operator
next_operator os None = None
next_operator os (Some t) = operator_in os t

-- the operator joins the operands of the chain
abbrev pub Joins : Chain → Operator → Type 0
Joins of.Expression op.Or = Unit {0}
Joins of.Conjunct op.And = Unit {0}
Joins of.Sum op.Plus = Unit {0}
Joins of.Sum op.Minus = Unit {0}
Joins of.Sum op.Join = Unit {0}
Joins of.Term op.Times = Unit {0}
Joins of.Term op.Div = Unit {0}
Joins of.Term op.Mod = Unit {0}
Joins _ _ = ⊥

-- the operator compares
abbrev pub Compares : Operator → Type 0
Compares op.Equal = Unit {0}
Compares op.Unequal = Unit {0}
Compares op.Less = Unit {0}
Compares op.AtMost = Unit {0}
Compares op.Greater = Unit {0}
Compares op.AtLeast = Unit {0}
Compares _ = ⊥
