use Rattle.std.proofs.Common.{◌≡◌, ◌+◌, ◌*◌, ℕ, [], ◌∷◌, ◌++◌, drop, map, Ok, ok_or, slice_get}
use Rattle.circus_value.specs.ValueOf as values
use Rattle.circus_checked.specs.ExpressionTree.{ExpressionTree, expression_trees, suffix_trees}
use Rattle.circus_checked.specs.ExpressionOf.{tree_of, suffix_of}
use Rattle.circus_checked.specs.Seen.ExpressionWeight.{weight, list_weight, suffix_weights}
use Rattle.circus_model.specs.declared.language_error.LanguageError.TheVariants.{WrongChoice}
use Rattle.circus_evaluate.specs.Got.{and_then}
use Rattle.circus_evaluate.specs.Evaluating.{evaluate_all, read_part}
use Rattle.circus_evaluate.proofs.evaluate.+evaluation.Given as goal

-- the expressions that are left give the rest of the values
abbrev pub invariant-evaluate_all-loop-expression : goal.invariant-evaluate_all-loop-expression
invariant-evaluate_all-loop-expression l =
    and_then (evaluate_all l.limit l.variables (expression_trees (map tree_of (drop l.expression-index l.expression-items)))) (λ ts. Ok (l.values ++ ts))
    ≡ evaluate_all l.limit l.variables (expression_trees l.expressions)

-- the suffixes that are left lead on from this part
abbrev pub invariant-read-loop-suffix : goal.invariant-read-loop-suffix
invariant-read-loop-suffix l =
    read_part l.limit l.variables (suffix_trees (map suffix_of (drop l.suffix-index l.suffix-items))) (values.tree_of l.part)
    ≡ and_then (ok_or (slice_get l.variables l.place.variable) WrongChoice) (read_part l.limit l.variables (suffix_trees l.place.suffixes))

-- how much is left to evaluate
abbrev light : ExpressionTree → ℕ
light e = 8 * weight e

abbrev pub decreases-evaluate : goal.decreases-evaluate
decreases-evaluate l = light (tree_of l.expression.now)

abbrev pub decreases-truth_in : goal.decreases-truth_in
decreases-truth_in l = light (tree_of l.expression.now) + 1

abbrev pub decreases-number_in : goal.decreases-number_in
decreases-number_in l = light (tree_of l.expression.now) + 1

abbrev pub decreases-given_in : goal.decreases-given_in
decreases-given_in l = light (tree_of l.expression.now) + 1

abbrev pub decreases-value_in : goal.decreases-value_in
decreases-value_in l = light (tree_of l.expression.now) + 2

abbrev pub decreases-append_text : goal.decreases-append_text
decreases-append_text l = light (tree_of l.expression.now) + 1

abbrev pub decreases-decide : goal.decreases-decide
decreases-decide l = light l.left.now + light l.right.now + 3

abbrev pub decreases-deny : goal.decreases-deny
decreases-deny l = light l.operand.now + 3

abbrev pub decreases-compared_whole : goal.decreases-compared_whole
decreases-compared_whole l = light l.left.now + light l.right.now + 3

abbrev pub decreases-compare_operands : goal.decreases-compare_operands
decreases-compare_operands l = light l.left.now + light l.right.now + 3

abbrev pub decreases-calculate_operands : goal.decreases-calculate_operands
decreases-calculate_operands l = light l.left.now + light l.right.now + 3

abbrev pub decreases-minus : goal.decreases-minus
decreases-minus l = light l.operand.now + 3

abbrev pub decreases-join_lists : goal.decreases-join_lists
decreases-join_lists l = light l.left.now + light l.right.now + 3

abbrev pub decreases-stands : goal.decreases-stands
decreases-stands l = light l.operand.now + 3

abbrev pub decreases-length : goal.decreases-length
decreases-length l = light l.operand.now + 3

abbrev pub decreases-choice_at : goal.decreases-choice_at
decreases-choice_at l = light l.operand.now + 3

abbrev pub decreases-convert_number : goal.decreases-convert_number
decreases-convert_number l = light l.operand.now + 3

abbrev pub decreases-evaluate_all : goal.decreases-evaluate_all
decreases-evaluate_all l = 8 * list_weight (expression_trees l.expressions.now)

abbrev pub decreases-read : goal.decreases-read
decreases-read l = 8 * suffix_weights (suffix_trees l.place.now.suffixes) + 4

abbrev pub decreases-step : goal.decreases-step
decreases-step l = 8 * suffix_weights (suffix_trees (suffix_of l.suffix.now ∷ []))
