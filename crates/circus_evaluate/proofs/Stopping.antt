-- What stops an expression, as the code answers it.
use Rattle.std.proofs.Common.{◌≡◌, ℕ, zero, suc, ◌+◌, ◌<◌, List, [], ◌∷◌, length, get_or, map, Result, Err, IsErr, IsErrAnd, ap, arith}
use Rattle.circus_model.specs.declared.language_error.LanguageError.{LanguageError}
use Rattle.circus_checked.specs.ExpressionTree.{SuffixTree, field, arm_of, subscript, expression_trees, suffix_trees}
use Rattle.circus_checked.specs.ExpressionOf.{tree_of, suffix_of}
use Rattle.circus_checked.specs.Seen.ExpressionWeight.{weight, list_weight, suffix_weights}
use Rattle.circus_checked.specs.declared.expression.CheckedExpression.{CheckedExpression}
use Rattle.circus_checked.specs.declared.expression.CheckedSuffix.{CheckedSuffix}
use Rattle.circus_checked.specs.declared.expression.CheckedSuffix.TheVariants as S
use Rattle.circus_evaluate.specs.Got.{Raising}
use Rattle.circus_evaluate.specs.declared.got.NoValue.{NoValue}
use Rattle.circus_evaluate.specs.declared.got.NoValue.TheVariants.{Raises, NoMemory}
use Rattle.circus_evaluate.specs.Given.{Gives}
use Rattle.circus_evaluate.proofs.Alike.{handed_on}

-- memory ran out
pub no_memory : {A B : Type 0} (view : A → B) (r : Result A NoValue) (meant : Raising B) → IsErr r × IsErrAnd r (λ f. f ≡ NoMemory) → Gives view r meant
no_memory view r meant p = rw (handed_on r NoMemory p) tt

-- an error was raised that is meant
pub raised : {A B : Type 0} (view : A → B) (r : Result A NoValue) (meant : Raising B) (e : LanguageError) → IsErr r × IsErrAnd r (λ f. f ≡ Raises e) → meant ≡ Err e → Gives view r meant
raised view r meant e p same = rw (handed_on r (Raises e) p) same

-- what stopped a part stops the whole
pub passes : {A B C D : Type 0} (view : A → B) (other : C → D) (r : Result A NoValue) (e : NoValue) (meant : Raising B) (before : Raising D) → IsErr r × IsErrAnd r (λ f. f ≡ e) → Gives other (Err e) before
    → ((error : LanguageError) → before ≡ Err error → meant ≡ Err error) → Gives view r meant
passes view other r (Raises error) meant before p gives so = raised view r meant error p (so error gives)
passes view other r NoMemory meant before p gives so = no_memory view r meant p

-- an expression is lighter than a list that has it
pub weight-expression : (es : List CheckedExpression) (i : ℕ) (e : CheckedExpression) → i < length es → e ≡ get_or es i e → weight (tree_of e) < list_weight (expression_trees (map tree_of es))
weight-expression [] i e few is = absurd (omega arith)
weight-expression (f ∷ es) zero e few is = omega (arith, ap (λ x. weight (tree_of x)) is)
weight-expression (f ∷ es) (suc i) e few is = omega (arith, weight-expression es i e (omega arith) is)

-- a list of suffixes has some weight
some_weight : (ts : List SuffixTree) → 0 < suffix_weights (suffix_trees ts)
some_weight [] = omega arith
some_weight (field n ∷ ts) = omega arith
some_weight (arm_of n ∷ ts) = omega arith
some_weight (subscript e ∷ ts) = omega arith

-- a suffix isn't heavier than a list that has it
pub weight-suffix : (ss : List CheckedSuffix) (i : ℕ) (s : CheckedSuffix) → i < length ss → s ≡ get_or ss i s
    → suffix_weights (suffix_trees (suffix_of s ∷ [])) < 1 + suffix_weights (suffix_trees (map suffix_of ss))
weight-suffix [] i s few is = absurd (omega arith)
weight-suffix (S.Field n ∷ ss) zero s few is = omega (arith, ap (λ x. suffix_weights (suffix_trees (suffix_of x ∷ []))) is, some_weight (map suffix_of ss))
weight-suffix (S.Arm n ∷ ss) zero s few is = omega (arith, ap (λ x. suffix_weights (suffix_trees (suffix_of x ∷ []))) is, some_weight (map suffix_of ss))
weight-suffix (S.Subscript e ∷ ss) zero s few is = omega (arith, ap (λ x. suffix_weights (suffix_trees (suffix_of x ∷ []))) is, some_weight (map suffix_of ss))
weight-suffix (S.Field n ∷ ss) (suc i) s few is = omega (arith, weight-suffix ss i s (omega arith) is)
weight-suffix (S.Arm n ∷ ss) (suc i) s few is = omega (arith, weight-suffix ss i s (omega arith) is)
weight-suffix (S.Subscript e ∷ ss) (suc i) s few is = omega (arith, weight-suffix ss i s (omega arith) is)
