-- An expression's tree as a tree of numbers, by which a proof tells two apart.
use Rattle.std.specs.Prelude.{ℕ, Bool, true, false, [], ◌∷◌, ◌≡◌, refl}
use Rattle.std.specs.Coded.{Coded, code_by}
use Rattle.std.proofs.Common.{ap, zero, suc}
use base.Stored.{Gv, gnil, gnum, gcons, num}
use denote.Struct.Codes.{itself}
use Rattle.circus_value.specs.Seen.ValueCode.{bytes_to, bytes_from, bytes_back}
use Rattle.circus_syntax.specs.Seen.TypeCode.{first_of, second_of, named_to, named_from, named_back, type_name_to, type_name_from, type_name_back}
use Rattle.circus_expression.specs.declared.operator.Operator.{Operator}
use Rattle.circus_expression.specs.declared.operator.Operator.TheVariants as op
use Rattle.circus_expression.specs.ExpressionTree.{ExpressionTree, KindTree, ExpressionTrees, SuffixTrees, SuffixTree, expression, binary, negation, minus, is_arm, number, text, truth, length_of, label, arm, items, read, no_expressions, more_expressions, no_suffixes, more_fields, more_subscripts, field, subscript}

abbrev pub operator_to : Operator → ℕ
operator_to op.Or = 0
operator_to op.And = 1
operator_to op.Equal = 2
operator_to op.Unequal = 3
operator_to op.Less = 4
operator_to op.AtMost = 5
operator_to op.Greater = 6
operator_to op.AtLeast = 7
operator_to op.Plus = 8
operator_to op.Minus = 9
operator_to op.Join = 10
operator_to op.Times = 11
operator_to op.Div = 12
operator_to op.Mod = 13

abbrev pub operator_from : ℕ → Operator
operator_from zero = op.Or
operator_from (suc zero) = op.And
operator_from (suc (suc zero)) = op.Equal
operator_from (suc (suc (suc zero))) = op.Unequal
operator_from (suc (suc (suc (suc zero)))) = op.Less
operator_from (suc (suc (suc (suc (suc zero))))) = op.AtMost
operator_from (suc (suc (suc (suc (suc (suc zero)))))) = op.Greater
operator_from (suc (suc (suc (suc (suc (suc (suc zero))))))) = op.AtLeast
operator_from (suc (suc (suc (suc (suc (suc (suc (suc zero)))))))) = op.Plus
operator_from (suc (suc (suc (suc (suc (suc (suc (suc (suc zero))))))))) = op.Minus
operator_from (suc (suc (suc (suc (suc (suc (suc (suc (suc (suc zero)))))))))) = op.Join
operator_from (suc (suc (suc (suc (suc (suc (suc (suc (suc (suc (suc zero))))))))))) = op.Times
operator_from (suc (suc (suc (suc (suc (suc (suc (suc (suc (suc (suc (suc zero)))))))))))) = op.Div
operator_from (suc (suc (suc (suc (suc (suc (suc (suc (suc (suc (suc (suc (suc _))))))))))))) = op.Mod

pub operator_back : (o : Operator) → operator_from (operator_to o) ≡ o
operator_back op.Or = refl
operator_back op.And = refl
operator_back op.Equal = refl
operator_back op.Unequal = refl
operator_back op.Less = refl
operator_back op.AtMost = refl
operator_back op.Greater = refl
operator_back op.AtLeast = refl
operator_back op.Plus = refl
operator_back op.Minus = refl
operator_back op.Join = refl
operator_back op.Times = refl
operator_back op.Div = refl
operator_back op.Mod = refl

abbrev pub truth_to : Bool → ℕ
truth_to false = 0
truth_to true = 1

abbrev pub truth_from : ℕ → Bool
truth_from zero = false
truth_from (suc _) = true

abbrev pub with_tag : ℕ → Gv → Gv
with_tag tag g = gcons (gcons (gnum tag) gnil) g

abbrev mutual
  pub expression_to : ExpressionTree → Gv
  expression_to (expression at k) = gcons (gnum at) (kind_to k)

  pub kind_to : KindTree → Gv
  kind_to (binary o a b) = gcons (gcons (gnum 0) (gnum (operator_to o))) (gcons (expression_to a) (expression_to b))
  kind_to (negation e) = with_tag 1 (expression_to e)
  kind_to (minus e) = with_tag 2 (expression_to e)
  kind_to (is_arm e name) = with_tag 3 (gcons (named_to name) (expression_to e))
  kind_to (number value) = with_tag 4 (gnum value)
  kind_to (text bytes) = with_tag 5 (bytes_to bytes)
  kind_to (truth b) = with_tag 6 (gnum (truth_to b))
  kind_to (length_of e) = with_tag 7 (expression_to e)
  kind_to (label t name) = with_tag 8 (gcons (type_name_to t) (named_to name))
  kind_to (arm t name e) = with_tag 9 (gcons (gcons (type_name_to t) (named_to name)) (expression_to e))
  kind_to (items t es) = with_tag 10 (gcons (type_name_to t) (list_to es))
  kind_to (read name ss) = with_tag 11 (gcons (named_to name) (suffixes_to ss))

  pub list_to : ExpressionTrees → Gv
  list_to no_expressions = gnil
  list_to (more_expressions e es) = gcons (expression_to e) (list_to es)

  pub suffixes_to : SuffixTrees → Gv
  suffixes_to no_suffixes = gnil
  suffixes_to (more_fields name ss) = gcons (gcons (gnum 0) (named_to name)) (suffixes_to ss)
  suffixes_to (more_subscripts e ss) = gcons (gcons (gnum 1) (expression_to e)) (suffixes_to ss)

-- the kind with this tag, of what follows it, and of its two parts, read as each kind of part
abbrev pub kind_of_tag : ℕ → ℕ → Gv → ExpressionTree → ExpressionTree → ExpressionTree → ExpressionTrees → SuffixTrees → KindTree
kind_of_tag zero o g whole first second es ss = binary (operator_from o) first second
kind_of_tag (suc zero) o g whole first second es ss = negation whole
kind_of_tag (suc (suc zero)) o g whole first second es ss = minus whole
kind_of_tag (suc (suc (suc zero))) o g whole first second es ss = is_arm second (named_from (first_of g))
kind_of_tag (suc (suc (suc (suc zero)))) o g whole first second es ss = number (num g)
kind_of_tag (suc (suc (suc (suc (suc zero))))) o g whole first second es ss = text (bytes_from g)
kind_of_tag (suc (suc (suc (suc (suc (suc zero)))))) o g whole first second es ss = truth (truth_from (num g))
kind_of_tag (suc (suc (suc (suc (suc (suc (suc zero))))))) o g whole first second es ss = length_of whole
kind_of_tag (suc (suc (suc (suc (suc (suc (suc (suc zero)))))))) o g whole first second es ss = label (type_name_from (first_of g)) (named_from (second_of g))
kind_of_tag (suc (suc (suc (suc (suc (suc (suc (suc (suc zero))))))))) o g whole first second es ss =
    arm (type_name_from (first_of (first_of g))) (named_from (second_of (first_of g))) second
kind_of_tag (suc (suc (suc (suc (suc (suc (suc (suc (suc (suc zero)))))))))) o g whole first second es ss = items (type_name_from (first_of g)) es
kind_of_tag (suc (suc (suc (suc (suc (suc (suc (suc (suc (suc (suc _))))))))))) o g whole first second es ss = read (named_from (first_of g)) ss

abbrev pub some_expression : ExpressionTree
some_expression = expression 0 (number 0)

-- a suffix with this tag, before others
abbrev pub suffix_of_tag : ℕ → Gv → ExpressionTree → SuffixTrees → SuffixTrees
suffix_of_tag zero g e ss = more_fields (named_from g) ss
suffix_of_tag (suc _) g e ss = more_subscripts e ss

abbrev mutual
  pub expression_from : Gv → ExpressionTree
  expression_from gnil = some_expression
  expression_from (gnum _) = some_expression
  expression_from (gcons at k) = expression (num at) (kind_from k)

  pub kind_from : Gv → KindTree
  kind_from gnil = number 0
  kind_from (gnum _) = number 0
  kind_from (gcons tag gnil) =
      kind_of_tag (num (first_of tag)) (num (second_of tag)) gnil some_expression some_expression some_expression no_expressions no_suffixes
  kind_from (gcons tag (gnum n)) =
      kind_of_tag (num (first_of tag)) (num (second_of tag)) (gnum n) some_expression some_expression some_expression no_expressions no_suffixes
  kind_from (gcons tag (gcons g h)) =
      kind_of_tag (num (first_of tag)) (num (second_of tag)) (gcons g h) (expression_from (gcons g h)) (expression_from g) (expression_from h) (list_from h) (suffixes_from h)

  pub list_from : Gv → ExpressionTrees
  list_from gnil = no_expressions
  list_from (gnum _) = no_expressions
  list_from (gcons e es) = more_expressions (expression_from e) (list_from es)

  pub suffixes_from : Gv → SuffixTrees
  suffixes_from gnil = no_suffixes
  suffixes_from (gnum _) = no_suffixes
  suffixes_from (gcons gnil ss) = no_suffixes
  suffixes_from (gcons (gnum _) ss) = no_suffixes
  suffixes_from (gcons (gcons tag g) ss) = suffix_of_tag (num tag) g (expression_from g) (suffixes_from ss)

mutual
  pub expression_back : (e : ExpressionTree) → expression_from (expression_to e) ≡ e
  expression_back (expression at k) = ap (expression at) (kind_back k)

  pub kind_back : (k : KindTree) → kind_from (kind_to k) ≡ k
  kind_back (binary o a b) = λ i. binary (operator_back o i) (expression_back a i) (expression_back b i)
  kind_back (negation (expression at k)) = λ i. negation (expression at (kind_back k i))
  kind_back (minus (expression at k)) = λ i. minus (expression at (kind_back k i))
  kind_back (is_arm e name) = λ i. is_arm (expression_back e i) (named_back name i)
  kind_back (number value) = refl
  kind_back (text []) = refl
  kind_back (text (b ∷ bytes)) = ap text (bytes_back (b ∷ bytes))
  kind_back (truth true) = refl
  kind_back (truth false) = refl
  kind_back (length_of (expression at k)) = λ i. length_of (expression at (kind_back k i))
  kind_back (label t name) = λ i. label (type_name_back t i) (named_back name i)
  kind_back (arm t name e) = λ i. arm (type_name_back t i) (named_back name i) (expression_back e i)
  kind_back (items t es) = λ i. items (type_name_back t i) (list_back es i)
  kind_back (read name ss) = λ i. read (named_back name i) (suffixes_back ss i)

  pub list_back : (es : ExpressionTrees) → list_from (list_to es) ≡ es
  list_back no_expressions = refl
  list_back (more_expressions e es) = λ i. more_expressions (expression_back e i) (list_back es i)

  pub suffixes_back : (ss : SuffixTrees) → suffixes_from (suffixes_to ss) ≡ ss
  suffixes_back no_suffixes = refl
  suffixes_back (more_fields name ss) = λ i. more_fields (named_back name i) (suffixes_back ss i)
  suffixes_back (more_subscripts e ss) = λ i. more_subscripts (expression_back e i) (suffixes_back ss i)

abbrev pub coded_expression : Coded ExpressionTree
coded_expression = code_by Gv itself expression_to expression_from expression_back

abbrev pub suffix_to : SuffixTree → Gv
suffix_to (field name) = gcons (gnum 0) (named_to name)
suffix_to (subscript e) = gcons (gnum 1) (expression_to e)

abbrev pub one_of_tag : ℕ → Gv → SuffixTree
one_of_tag zero g = field (named_from g)
one_of_tag (suc _) g = subscript (expression_from g)

pub suffix_back : (s : SuffixTree) → one_of_tag (num (first_of (suffix_to s))) (second_of (suffix_to s)) ≡ s
suffix_back (field name) = ap field (named_back name)
suffix_back (subscript e) = ap subscript (expression_back e)

abbrev pub coded_suffix : Coded SuffixTree
coded_suffix = code_by Gv itself suffix_to (λ g. one_of_tag (num (first_of g)) (second_of g)) suffix_back
