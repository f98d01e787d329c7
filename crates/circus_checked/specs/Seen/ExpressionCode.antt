-- An expression's tree as a tree of numbers, by which a proof tells two apart.
use Rattle.std.specs.Prelude.{ℕ, ◌≡◌, refl}
use Rattle.std.specs.Coded.{Coded, code_by}
use Rattle.std.proofs.Common.{ap, zero, suc}
use base.Stored.{Gv, gnil, gnum, gcons, num}
use denote.Struct.Codes.{itself}
use Rattle.circus_value.specs.Seen.ValueCode.{truth_to, truth_of_number, truth_back, bytes_to, bytes_from, bytes_back}
use Rattle.circus_checked.specs.declared.kinds.NumberKind.{NumberKind}
use Rattle.circus_checked.specs.declared.kinds.NumberKind.TheVariants as kind
use Rattle.circus_checked.specs.declared.kinds.Order.{Order}
use Rattle.circus_checked.specs.declared.kinds.Order.TheVariants as order
use Rattle.circus_checked.specs.declared.kinds.Calculation.{Calculation}
use Rattle.circus_checked.specs.declared.kinds.Calculation.TheVariants as calculation
use Rattle.circus_checked.specs.declared.kinds.Form.{Form}
use Rattle.circus_checked.specs.declared.kinds.Form.TheVariants as form
use Rattle.circus_checked.specs.ExpressionTree.{ExpressionTree, ExpressionTrees, SuffixTrees, SuffixTree, either, both, negation, equal, compare, calculate, minus, join, is_arm, number, text, truth, length_of, label, arm, items, convert, read, no_expressions, more_expressions, no_suffixes, in_field, in_arm, in_item, field, arm_of, subscript}

abbrev pub first_of : Gv → Gv
first_of gnil = gnil
first_of (gnum _) = gnil
first_of (gcons g _) = g

abbrev pub second_of : Gv → Gv
second_of gnil = gnil
second_of (gnum _) = gnil
second_of (gcons _ g) = g

abbrev pub kind_to : NumberKind → ℕ
kind_to kind.Cardinal = 0
kind_to kind.LongCardinal = 1
kind_to kind.Integer = 2
kind_to kind.LongInteger = 3

abbrev pub kind_from : ℕ → NumberKind
kind_from zero = kind.Cardinal
kind_from (suc zero) = kind.LongCardinal
kind_from (suc (suc zero)) = kind.Integer
kind_from (suc (suc (suc _))) = kind.LongInteger

pub kind_back : (x : NumberKind) → kind_from (kind_to x) ≡ x
kind_back kind.Cardinal = refl
kind_back kind.LongCardinal = refl
kind_back kind.Integer = refl
kind_back kind.LongInteger = refl

abbrev pub order_to : Order → ℕ
order_to order.Less = 0
order_to order.AtMost = 1
order_to order.Greater = 2
order_to order.AtLeast = 3

abbrev pub order_from : ℕ → Order
order_from zero = order.Less
order_from (suc zero) = order.AtMost
order_from (suc (suc zero)) = order.Greater
order_from (suc (suc (suc _))) = order.AtLeast

pub order_back : (x : Order) → order_from (order_to x) ≡ x
order_back order.Less = refl
order_back order.AtMost = refl
order_back order.Greater = refl
order_back order.AtLeast = refl

abbrev pub calculation_to : Calculation → ℕ
calculation_to calculation.Plus = 0
calculation_to calculation.Minus = 1
calculation_to calculation.Times = 2
calculation_to calculation.Div = 3
calculation_to calculation.Mod = 4

abbrev pub calculation_from : ℕ → Calculation
calculation_from zero = calculation.Plus
calculation_from (suc zero) = calculation.Minus
calculation_from (suc (suc zero)) = calculation.Times
calculation_from (suc (suc (suc zero))) = calculation.Div
calculation_from (suc (suc (suc (suc _)))) = calculation.Mod

pub calculation_back : (x : Calculation) → calculation_from (calculation_to x) ≡ x
calculation_back calculation.Plus = refl
calculation_back calculation.Minus = refl
calculation_back calculation.Times = refl
calculation_back calculation.Div = refl
calculation_back calculation.Mod = refl

abbrev pub form_to : Form → ℕ
form_to form.Array = 0
form_to form.Sequence = 1
form_to form.Record = 2

abbrev pub form_from : ℕ → Form
form_from zero = form.Array
form_from (suc zero) = form.Sequence
form_from (suc (suc _)) = form.Record

pub form_back : (x : Form) → form_from (form_to x) ≡ x
form_back form.Array = refl
form_back form.Sequence = refl
form_back form.Record = refl

-- a tag and a number, before what there is
abbrev pub with_tag : ℕ → ℕ → Gv → Gv
with_tag tag n g = gcons (gcons (gnum tag) (gnum n)) g

abbrev mutual
  pub expression_to : ExpressionTree → Gv
  expression_to (either a b) = with_tag 0 0 (gcons (expression_to a) (expression_to b))
  expression_to (both a b) = with_tag 1 0 (gcons (expression_to a) (expression_to b))
  expression_to (equal a b) = with_tag 2 0 (gcons (expression_to a) (expression_to b))
  expression_to (compare o a b) = with_tag 3 (order_to o) (gcons (expression_to a) (expression_to b))
  expression_to (calculate o a b) = with_tag 4 (calculation_to o) (gcons (expression_to a) (expression_to b))
  expression_to (join a b) = with_tag 5 0 (gcons (expression_to a) (expression_to b))
  expression_to (negation a) = with_tag 6 0 (gcons (expression_to a) gnil)
  expression_to (minus a) = with_tag 7 0 (gcons (expression_to a) gnil)
  expression_to (is_arm n a) = with_tag 8 n (gcons (expression_to a) gnil)
  expression_to (length_of a) = with_tag 9 0 (gcons (expression_to a) gnil)
  expression_to (arm n a) = with_tag 10 n (gcons (expression_to a) gnil)
  expression_to (convert k a) = with_tag 11 (kind_to k) (gcons (expression_to a) gnil)
  expression_to (number n) = with_tag 12 n gnil
  expression_to (text bytes) = with_tag 13 0 (gcons gnil (bytes_to bytes))
  expression_to (truth b) = with_tag 14 (num (truth_to b)) gnil
  expression_to (label n) = with_tag 15 n gnil
  expression_to (items f es) = with_tag 16 (form_to f) (gcons gnil (list_to es))
  expression_to (read n ss) = with_tag 17 n (gcons gnil (suffixes_to ss))

  pub list_to : ExpressionTrees → Gv
  list_to no_expressions = gnil
  list_to (more_expressions e es) = gcons (expression_to e) (list_to es)

  pub suffixes_to : SuffixTrees → Gv
  suffixes_to no_suffixes = gnil
  suffixes_to (in_field n ss) = gcons (gcons (gnum 0) (gnum n)) (suffixes_to ss)
  suffixes_to (in_arm n ss) = gcons (gcons (gnum 1) (gnum n)) (suffixes_to ss)
  suffixes_to (in_item e ss) = gcons (gcons (gnum 2) (expression_to e)) (suffixes_to ss)

-- the expression with this tag and number, of its two parts, read as each kind of part
abbrev pub of_tag : ℕ → ℕ → ExpressionTree → ExpressionTree → Gv → ExpressionTrees → SuffixTrees → ExpressionTree
of_tag zero n a b g es ss = either a b
of_tag (suc zero) n a b g es ss = both a b
of_tag (suc (suc zero)) n a b g es ss = equal a b
of_tag (suc (suc (suc zero))) n a b g es ss = compare (order_from n) a b
of_tag (suc (suc (suc (suc zero)))) n a b g es ss = calculate (calculation_from n) a b
of_tag (suc (suc (suc (suc (suc zero))))) n a b g es ss = join a b
of_tag (suc (suc (suc (suc (suc (suc zero)))))) n a b g es ss = negation a
of_tag (suc (suc (suc (suc (suc (suc (suc zero))))))) n a b g es ss = minus a
of_tag (suc (suc (suc (suc (suc (suc (suc (suc zero)))))))) n a b g es ss = is_arm n a
of_tag (suc (suc (suc (suc (suc (suc (suc (suc (suc zero))))))))) n a b g es ss = length_of a
of_tag (suc (suc (suc (suc (suc (suc (suc (suc (suc (suc zero)))))))))) n a b g es ss = arm n a
of_tag (suc (suc (suc (suc (suc (suc (suc (suc (suc (suc (suc zero))))))))))) n a b g es ss = convert (kind_from n) a
of_tag (suc (suc (suc (suc (suc (suc (suc (suc (suc (suc (suc (suc zero)))))))))))) n a b g es ss = number n
of_tag (suc (suc (suc (suc (suc (suc (suc (suc (suc (suc (suc (suc (suc zero))))))))))))) n a b g es ss = text (bytes_from g)
of_tag (suc (suc (suc (suc (suc (suc (suc (suc (suc (suc (suc (suc (suc (suc zero)))))))))))))) n a b g es ss = truth (truth_of_number n)
of_tag (suc (suc (suc (suc (suc (suc (suc (suc (suc (suc (suc (suc (suc (suc (suc zero))))))))))))))) n a b g es ss = label n
of_tag (suc (suc (suc (suc (suc (suc (suc (suc (suc (suc (suc (suc (suc (suc (suc (suc zero)))))))))))))))) n a b g es ss = items (form_from n) es
of_tag (suc (suc (suc (suc (suc (suc (suc (suc (suc (suc (suc (suc (suc (suc (suc (suc (suc _))))))))))))))))) n a b g es ss = read n ss

abbrev pub some_expression : ExpressionTree
some_expression = number 0

-- a suffix with this tag, before others
abbrev pub suffix_of_tag : ℕ → ℕ → ExpressionTree → SuffixTrees → SuffixTrees
suffix_of_tag zero n e ss = in_field n ss
suffix_of_tag (suc zero) n e ss = in_arm n ss
suffix_of_tag (suc (suc _)) n e ss = in_item e ss

abbrev mutual
  pub expression_from : Gv → ExpressionTree
  expression_from gnil = some_expression
  expression_from (gnum _) = some_expression
  expression_from (gcons tag gnil) = of_tag (num (first_of tag)) (num (second_of tag)) some_expression some_expression gnil no_expressions no_suffixes
  expression_from (gcons tag (gnum _)) = some_expression
  expression_from (gcons tag (gcons g h)) =
      of_tag (num (first_of tag)) (num (second_of tag)) (expression_from g) (expression_from h) h (list_from h) (suffixes_from h)

  pub list_from : Gv → ExpressionTrees
  list_from gnil = no_expressions
  list_from (gnum _) = no_expressions
  list_from (gcons e es) = more_expressions (expression_from e) (list_from es)

  pub suffixes_from : Gv → SuffixTrees
  suffixes_from gnil = no_suffixes
  suffixes_from (gnum _) = no_suffixes
  suffixes_from (gcons gnil ss) = no_suffixes
  suffixes_from (gcons (gnum _) ss) = no_suffixes
  suffixes_from (gcons (gcons tag g) ss) = suffix_of_tag (num tag) (num g) (expression_from g) (suffixes_from ss)

mutual
  pub expression_back : (e : ExpressionTree) → expression_from (expression_to e) ≡ e
  expression_back (either a b) = λ i. either (expression_back a i) (expression_back b i)
  expression_back (both a b) = λ i. both (expression_back a i) (expression_back b i)
  expression_back (equal a b) = λ i. equal (expression_back a i) (expression_back b i)
  expression_back (compare o a b) = λ i. compare (order_back o i) (expression_back a i) (expression_back b i)
  expression_back (calculate o a b) = λ i. calculate (calculation_back o i) (expression_back a i) (expression_back b i)
  expression_back (join a b) = λ i. join (expression_back a i) (expression_back b i)
  expression_back (negation a) = ap negation (expression_back a)
  expression_back (minus a) = ap minus (expression_back a)
  expression_back (is_arm n a) = ap (is_arm n) (expression_back a)
  expression_back (length_of a) = ap length_of (expression_back a)
  expression_back (arm n a) = ap (arm n) (expression_back a)
  expression_back (convert k a) = λ i. convert (kind_back k i) (expression_back a i)
  expression_back (number n) = refl
  expression_back (text bytes) = ap text (bytes_back bytes)
  expression_back (truth b) = ap truth (truth_back b)
  expression_back (label n) = refl
  expression_back (items f es) = λ i. items (form_back f i) (list_back es i)
  expression_back (read n ss) = ap (read n) (suffixes_back ss)

  pub list_back : (es : ExpressionTrees) → list_from (list_to es) ≡ es
  list_back no_expressions = refl
  list_back (more_expressions e es) = λ i. more_expressions (expression_back e i) (list_back es i)

  pub suffixes_back : (ss : SuffixTrees) → suffixes_from (suffixes_to ss) ≡ ss
  suffixes_back no_suffixes = refl
  suffixes_back (in_field n ss) = ap (in_field n) (suffixes_back ss)
  suffixes_back (in_arm n ss) = ap (in_arm n) (suffixes_back ss)
  suffixes_back (in_item e ss) = λ i. in_item (expression_back e i) (suffixes_back ss i)

abbrev pub coded_expression : Coded ExpressionTree
coded_expression = code_by Gv itself expression_to expression_from expression_back

abbrev pub suffix_to : SuffixTree → Gv
suffix_to (field n) = gcons (gnum 0) (gnum n)
suffix_to (arm_of n) = gcons (gnum 1) (gnum n)
suffix_to (subscript e) = gcons (gnum 2) (expression_to e)

abbrev pub one_of_tag : ℕ → Gv → SuffixTree
one_of_tag zero g = field (num g)
one_of_tag (suc zero) g = arm_of (num g)
one_of_tag (suc (suc _)) g = subscript (expression_from g)

pub suffix_back : (s : SuffixTree) → one_of_tag (num (first_of (suffix_to s))) (second_of (suffix_to s)) ≡ s
suffix_back (field n) = refl
suffix_back (arm_of n) = refl
suffix_back (subscript e) = ap subscript (expression_back e)

abbrev pub coded_suffix : Coded SuffixTree
coded_suffix = code_by Gv itself suffix_to (λ g. one_of_tag (num (first_of g)) (second_of g)) suffix_back
