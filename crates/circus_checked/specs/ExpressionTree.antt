-- What a checked expression is to a contract: a plain tree.
use Rattle.std.specs.Prelude.{ℕ, Bool, List, [], ◌∷◌}
use Rattle.circus_checked.specs.declared.kinds.NumberKind.{NumberKind}
use Rattle.circus_checked.specs.declared.kinds.Order.{Order}
use Rattle.circus_checked.specs.declared.kinds.Calculation.{Calculation}
use Rattle.circus_checked.specs.declared.kinds.Form.{Form}

mutual
  pub data ExpressionTree : Type 0 where
    either : ExpressionTree → ExpressionTree → ExpressionTree
    both : ExpressionTree → ExpressionTree → ExpressionTree
    negation : ExpressionTree → ExpressionTree
    equal : ExpressionTree → ExpressionTree → ExpressionTree
    compare : Order → ExpressionTree → ExpressionTree → ExpressionTree
    calculate : Calculation → ExpressionTree → ExpressionTree → ExpressionTree
    minus : ExpressionTree → ExpressionTree
    join : ExpressionTree → ExpressionTree → ExpressionTree
    is_arm : ℕ → ExpressionTree → ExpressionTree
    number : ℕ → ExpressionTree
    text : List ℕ → ExpressionTree
    truth : Bool → ExpressionTree
    length_of : ExpressionTree → ExpressionTree
    label : ℕ → ExpressionTree
    arm : ℕ → ExpressionTree → ExpressionTree
    items : Form → ExpressionTrees → ExpressionTree
    convert : NumberKind → ExpressionTree → ExpressionTree
    read : ℕ → SuffixTrees → ExpressionTree

  -- expressions in order
  pub data ExpressionTrees : Type 0 where
    no_expressions : ExpressionTrees
    more_expressions : ExpressionTree → ExpressionTrees → ExpressionTrees

  -- suffixes in order: the field at a place, the arm with a number, an item
  pub data SuffixTrees : Type 0 where
    no_suffixes : SuffixTrees
    in_field : ℕ → SuffixTrees → SuffixTrees
    in_arm : ℕ → SuffixTrees → SuffixTrees
    in_item : ExpressionTree → SuffixTrees → SuffixTrees

-- a suffix by itself
pub data SuffixTree : Type 0 where
  field : ℕ → SuffixTree
  arm_of : ℕ → SuffixTree
  subscript : ExpressionTree → SuffixTree

-- the expressions of a list
abbrev pub expression_trees : List ExpressionTree → ExpressionTrees
expression_trees [] = no_expressions
expression_trees (e ∷ es) = more_expressions e (expression_trees es)

-- the suffixes of a list
abbrev pub suffix_trees : List SuffixTree → SuffixTrees
suffix_trees [] = no_suffixes
suffix_trees (field n ∷ ss) = in_field n (suffix_trees ss)
suffix_trees (arm_of n ∷ ss) = in_arm n (suffix_trees ss)
suffix_trees (subscript e ∷ ss) = in_item e (suffix_trees ss)
