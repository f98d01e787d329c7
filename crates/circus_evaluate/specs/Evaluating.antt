-- What an expression gives in variables of these values, from left to right.
use Rattle.std.specs.Prelude.{ℕ, ℤ, pos, ◌+ℤ◌, ◌-ℤ◌, ◌*ℤ◌, int_lt, int_le, int_div, int_rem, neg_ℤ, Bool, true, false, not, ◌==◌, if◌then◌else◌, List, [], ◌∷◌, ◌++◌, length, Ok, Err, ok_or, slice_get}
use Rattle.std.specs.Ordering.{int_eq}
use Rattle.std.specs.Bool.{beq}
use Rattle.circus_value.specs.ValueTree.{ValueTree, boolean, text, enumeration, array, sequence, «record», choice, value_trees}
use Rattle.circus_value.specs.Fits.{count_of}
use Rattle.circus_model.specs.declared.language_error.LanguageError.TheVariants.{Range, Zero, WrongChoice}
use Rattle.circus_checked.specs.declared.kinds.Order.{Order}
use Rattle.circus_checked.specs.declared.kinds.Order.TheVariants as order
use Rattle.circus_checked.specs.declared.kinds.Calculation.{Calculation}
use Rattle.circus_checked.specs.declared.kinds.Calculation.TheVariants as by
use Rattle.circus_checked.specs.declared.kinds.Form.{Form}
use Rattle.circus_checked.specs.declared.kinds.Form.TheVariants as form
use Rattle.circus_checked.specs.ExpressionTree.{ExpressionTree, ExpressionTrees, SuffixTrees, no_expressions, more_expressions, no_suffixes, in_field, in_arm, in_item}
use Rattle.circus_checked.specs.ExpressionTree as e
use Rattle.circus_evaluate.specs.Got.{Got, whole, Raising, and_then, number_or_overflow, as_kind, got_of, truth_of, number_of, value_of, bytes_of, unless_large, made_text, is_equal}
use Rattle.circus_evaluate.specs.Parts.{Step, field, arm, item, part_by}

-- a truth value that is given
abbrev pub truth : Bool → Got
truth b = whole (boolean b)

-- whether two numbers are in an order
abbrev pub is_ordered : Order → ℤ → ℤ → Bool
is_ordered order.Less y z = int_lt y z
is_ordered order.AtMost y z = int_le y z
is_ordered order.Greater y z = int_lt z y
is_ordered order.AtLeast y z = int_le z y

-- division rounds toward zero, and the remainder has the sign of the dividend
abbrev pub calculation : Calculation → ℤ → ℤ → Raising Got
calculation by.Plus y z = number_or_overflow (y +ℤ z)
calculation by.Minus y z = number_or_overflow (y -ℤ z)
calculation by.Times y z = number_or_overflow (y *ℤ z)
calculation by.Div y z = if int_eq z (pos 0) then Err Zero else number_or_overflow (int_div y z)
calculation by.Mod y z = if int_eq z (pos 0) then Err Zero else number_or_overflow (int_rem y z)

-- whether a choice stands at the arm with a number
abbrev pub stands_at : ℕ → Got → Bool
stands_at n (whole (choice m t)) = m == n
stands_at n _ = false

-- how long a text or a sequence is
abbrev pub length_given : Got → Raising Got
length_given (whole (text bytes)) = number_or_overflow (pos (length bytes))
length_given (whole (sequence ts)) = number_or_overflow (pos (count_of ts))
length_given _ = Err Range

-- these items as one value
abbrev pub value_of_form : Form → List ValueTree → ValueTree
value_of_form form.Array ts = array (value_trees ts)
value_of_form form.Sequence ts = sequence (value_trees ts)
value_of_form form.Record ts = «record» (value_trees ts)

-- of two numbers, the left one given first
abbrev pub of_numbers : Raising Got → Raising Got → (ℤ → ℤ → Raising Got) → Raising Got
of_numbers a b f = and_then (and_then a number_of) (λ y. and_then (and_then b number_of) (f y))

-- OR and AND: the right side counts only where the left one doesn't decide
abbrev pub unless_decided : Bool → Raising Got → Raising Got → Raising Got
unless_decided decides a b = and_then a (λ x. if beq decides (truth_of x) then Ok (truth decides) else and_then b (λ y. Ok (truth (truth_of y))))

module _ (limit : ℕ) (variables : List ValueTree) where
  abbrev mutual
    pub evaluate : ExpressionTree → Raising Got
    evaluate (e.either a b) = unless_decided true (evaluate a) (evaluate b)
    evaluate (e.both a b) = unless_decided false (evaluate a) (evaluate b)
    evaluate (e.negation a) = and_then (evaluate a) (λ x. Ok (truth (not (truth_of x))))
    evaluate (e.equal a b) = and_then (evaluate a) (λ x. and_then (evaluate b) (λ y. Ok (truth (is_equal x y))))
    evaluate (e.compare o a b) = of_numbers (evaluate a) (evaluate b) (λ y z. Ok (truth (is_ordered o y z)))
    evaluate (e.calculate o a b) = of_numbers (evaluate a) (evaluate b) (calculation o)
    evaluate (e.minus a) = and_then (and_then (evaluate a) number_of) (λ z. number_or_overflow (neg_ℤ z))
    evaluate (e.join a b) =
        and_then (and_then (evaluate a) bytes_of) (λ xs. and_then (and_then (evaluate b) bytes_of) (λ ys. made_text limit (xs ++ ys)))
    evaluate (e.is_arm n a) = and_then (evaluate a) (λ x. Ok (truth (stands_at n x)))
    evaluate (e.number n) = number_or_overflow (pos n)
    evaluate (e.text bytes) = made_text limit bytes
    evaluate (e.truth b) = Ok (truth b)
    evaluate (e.length_of a) = and_then (evaluate a) length_given
    evaluate (e.label n) = Ok (whole (enumeration n))
    evaluate (e.arm n a) = and_then (and_then (evaluate a) value_of) (λ t. unless_large limit (choice n t))
    evaluate (e.items f es) = and_then (evaluate_all es) (λ ts. unless_large limit (value_of_form f ts))
    evaluate (e.convert k a) = and_then (and_then (and_then (evaluate a) number_of) (as_kind k)) (λ t. Ok (whole t))
    evaluate (e.read n ss) = and_then (and_then (ok_or (slice_get variables n) WrongChoice) (read_part ss)) (λ t. Ok (got_of t))

    -- each in its turn; items, arguments and results are values
    pub evaluate_all : ExpressionTrees → Raising (List ValueTree)
    evaluate_all no_expressions = Ok []
    evaluate_all (more_expressions a es) = and_then (and_then (evaluate a) value_of) (λ t. and_then (evaluate_all es) (λ ts. Ok (t ∷ ts)))

    -- the part of a value that suffixes lead to; each subscript is tested before the next one is evaluated
    pub read_part : SuffixTrees → ValueTree → Raising ValueTree
    read_part no_suffixes t = Ok t
    read_part (in_field n ss) t = and_then (part_by (field n) t) (read_part ss)
    read_part (in_arm n ss) t = and_then (part_by (arm n) t) (read_part ss)
    read_part (in_item a ss) t = and_then (and_then (evaluate a) number_of) (λ z. and_then (part_by (item z) t) (read_part ss))

  -- the steps that suffixes are, all of whose subscripts are evaluated first
  abbrev pub steps_of : SuffixTrees → Raising (List Step)
  steps_of no_suffixes = Ok []
  steps_of (in_field n ss) = and_then (steps_of ss) (λ steps. Ok (field n ∷ steps))
  steps_of (in_arm n ss) = and_then (steps_of ss) (λ steps. Ok (arm n ∷ steps))
  steps_of (in_item a ss) = and_then (and_then (evaluate a) number_of) (λ z. and_then (steps_of ss) (λ steps. Ok (item z ∷ steps)))
