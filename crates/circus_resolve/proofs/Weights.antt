-- A part is lighter than the list that has it.
use Rattle.std.proofs.Common.{◌≡◌, ℕ, zero, suc, ◌+◌, ◌<◌, List, [], ◌∷◌, length, get_or, map, ap, arith}
use Rattle.circus_expression.specs.declared.expression.Expression.{Expression}
use Rattle.circus_expression.specs.declared.expression.Suffix.{Suffix}
use Rattle.circus_expression.specs.declared.expression.Suffix.TheVariants as S
use Rattle.circus_expression.specs.ExpressionTree.{SuffixTree, field, subscript, expression_trees, suffix_trees}
use Rattle.circus_expression.specs.ExpressionOf.{tree_of, suffix_of}
use Rattle.circus_expression.specs.Seen.ExpressionWeight.{weight, list_weight, suffix_weights}

pub weight_of_expression : (es : List Expression) (i : ℕ) (e : Expression) → i < length es → e ≡ get_or es i e → weight (tree_of e) < list_weight (expression_trees (map tree_of es))
weight_of_expression [] i e few is = absurd (omega arith)
weight_of_expression (f ∷ es) zero e few is = omega (arith, ap (λ x. weight (tree_of x)) is)
weight_of_expression (f ∷ es) (suc i) e few is = omega (arith, weight_of_expression es i e (omega arith) is)

-- a list of suffixes has some weight
some_weight : (ts : List SuffixTree) → 0 < suffix_weights (suffix_trees ts)
some_weight [] = omega arith
some_weight (field n ∷ ts) = omega arith
some_weight (subscript e ∷ ts) = omega arith

-- a suffix isn't heavier than a list that has it
pub weight_of_suffix : (ss : List Suffix) (i : ℕ) (s : Suffix) → i < length ss → s ≡ get_or ss i s
    → suffix_weights (suffix_trees (suffix_of s ∷ [])) < 1 + suffix_weights (suffix_trees (map suffix_of ss))
weight_of_suffix [] i s few is = absurd (omega arith)
weight_of_suffix (S.Field n ∷ ss) zero s few is = omega (arith, ap (λ x. suffix_weights (suffix_trees (suffix_of x ∷ []))) is, some_weight (map suffix_of ss))
weight_of_suffix (S.Subscript e ∷ ss) zero s few is = omega (arith, ap (λ x. suffix_weights (suffix_trees (suffix_of x ∷ []))) is, some_weight (map suffix_of ss))
weight_of_suffix (S.Field n ∷ ss) (suc i) s few is = omega (arith, weight_of_suffix ss i s (omega arith) is)
weight_of_suffix (S.Subscript e ∷ ss) (suc i) s few is = omega (arith, weight_of_suffix ss i s (omega arith) is)
