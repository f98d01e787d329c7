-- What an expression is to a contract: a plain tree, each of whose expressions has its place.
use Rattle.std.specs.Prelude.{ℕ, Bool, List, [], ◌∷◌}
use Rattle.circus_syntax.specs.declared.named.Named.{Named}
use Rattle.circus_syntax.specs.declared.named.TypeName.{TypeName}
use Rattle.circus_expression.specs.declared.operator.Operator.{Operator}

mutual
  -- a place and what stands there
  pub data ExpressionTree : Type 0 where
    expression : ℕ → KindTree → ExpressionTree

  pub data KindTree : Type 0 where
    binary : Operator → ExpressionTree → ExpressionTree → KindTree
    negation : ExpressionTree → KindTree
    minus : ExpressionTree → KindTree
    is_arm : ExpressionTree → Named → KindTree
    number : ℕ → KindTree
    text : List ℕ → KindTree
    truth : Bool → KindTree
    length_of : ExpressionTree → KindTree
    label : TypeName → Named → KindTree
    arm : TypeName → Named → ExpressionTree → KindTree
    items : TypeName → ExpressionTrees → KindTree
    read : Named → SuffixTrees → KindTree

  -- expressions in order
  pub data ExpressionTrees : Type 0 where
    no_expressions : ExpressionTrees
    more_expressions : ExpressionTree → ExpressionTrees → ExpressionTrees

  -- fields and subscripts in order
  pub data SuffixTrees : Type 0 where
    no_suffixes : SuffixTrees
    more_fields : Named → SuffixTrees → SuffixTrees
    more_subscripts : ExpressionTree → SuffixTrees → SuffixTrees

-- a suffix by itself
pub data SuffixTree : Type 0 where
  field : Named → SuffixTree
  subscript : ExpressionTree → SuffixTree

-- a variable, or a part of one
pub record PlaceTree : Type 0 where
  pub name : Named
  pub suffixes : List SuffixTree

-- the expressions of a list
abbrev pub expression_trees : List ExpressionTree → ExpressionTrees
expression_trees [] = no_expressions
expression_trees (e ∷ es) = more_expressions e (expression_trees es)

-- the suffixes of a list
abbrev pub suffix_trees : List SuffixTree → SuffixTrees
suffix_trees [] = no_suffixes
suffix_trees (field n ∷ ss) = more_fields n (suffix_trees ss)
suffix_trees (subscript e ∷ ss) = more_subscripts e (suffix_trees ss)
