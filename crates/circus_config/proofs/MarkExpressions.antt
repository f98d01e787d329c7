-- Expressions and places keep the marks in their places.
use Rattle.std.proofs.Common.{ℕ, zero, suc, true, false, []}
use Rattle.std.specs.Prelude.{Bool, None, codes, unwrap_or}
use Rattle.circus_syntax.specs.declared.stopping.StopCause.TheVariants.{Unexpected, TooDeep}
use Rattle.circus_syntax.specs.Placed.{Placed, word, sign, is_lexeme}
use Rattle.circus_syntax.specs.Reader.{Reader}
use Rattle.circus_syntax.specs.Reading.{filled_name}
use Rattle.circus_expression.specs.declared.operator.Operator.TheVariants as op
use Rattle.circus_expression.specs.declared.operator.Chain.{Chain}
use Rattle.circus_expression.specs.declared.operator.Chain.TheVariants as of
use Rattle.circus_expression.specs.declared.starts.PrimaryStart.{PrimaryStart}
use Rattle.circus_expression.specs.declared.starts.PrimaryStart.TheVariants as begins
use Rattle.circus_expression.specs.Operators.{operators, comparisons, operator_in, is_operator}
use Rattle.circus_expression.specs.Written.{Written, negation, minus, number, text, truth, parentheses, length_of, no_links, link, no_suffixes, field, subscript}
use Rattle.circus_expression.specs.ExpressionReading.{filler, first_operator, joint, joins, Openers, expect_where, is_bracket, is_parenthesis, is_hash, is_suffix, further_suffixes, suffixes_with, any_suffixes, place_with, labelled, listing, built_with, goes_on, builds, name_with_tail, second, built_of_both, follows, second_with, Following, by_hash, by_dot, by_neither, following_of, behind_name, named_with, start_of_primary, primary_by, is_minus, factor_with, links_with, chain_of, chain_with, sum_with, compared, arm_named, alone, with_relation, Relating, comparing, naming, ending, relating_of, compares, related_by, is_not, negated_with, operand_with, expression_with, in_parentheses, in_brackets, openers_within, none_left, openers, read_chain, list, read_place}
use Rattle.circus_config.proofs.Marks.{Keeps, keeps_token, keeps_stopped, keeps_nothing, keeps_both, keeps_mapped, keeps_cased, keeps_either, keeps_optional, keeps_fixed, keeps_fixed_at, keeps_name, keeps_number, keeps_quoted, keeps_behind, keeps_list}

pub keeps_where : {A : Type 0} (test : Placed → Bool) (fill : ℕ → A) {p : Reader → A × Reader} → Keeps p → Keeps (expect_where test fill p)
keeps_where test fill P = keeps_either test P (keeps_stopped Unexpected fill)

pub keeps_brackets : {A : Type 0} {p : Reader → A × Reader} → Keeps p → Keeps (in_brackets p)
keeps_brackets P = keeps_mapped (λ x. x.1.0) (keeps_both (keeps_fixed (sign (codes "["))) (keeps_both P (keeps_fixed (sign (codes "]")))))

keeps_parentheses : {A : Type 0} {p : Reader → A × Reader} → Keeps p → Keeps (in_parentheses p)
keeps_parentheses P = keeps_mapped (λ x. x.1.0) (keeps_both (keeps_fixed (sign (codes "("))) (keeps_both P (keeps_fixed (sign (codes ")")))))

keeps_joint : (c : Chain) → Keeps (joint c)
unfolding joint
keeps_joint c = keeps_token (is_operator (operators c)) (λ t. unwrap_or (operator_in (operators c) t) (first_operator c)) (λ at. first_operator c)

keeps_compares : Keeps compares
unfolding compares
keeps_compares = keeps_token (is_operator comparisons) (λ t. unwrap_or (operator_in comparisons t) op.Equal) (λ at. op.Equal)

-- what opens levels does
record KeepAll (o : Openers) : Type 0 where
  negation : Keeps o.negation
  minus : Keeps o.minus
  parentheses : Keeps o.parentheses
  length : Keeps o.length
  argument : Keeps o.argument
  subscript : Keeps o.subscript
  list : Keeps o.list
  links : (c : Chain) → Keeps (o.links c)
  suffixes : Keeps o.suffixes

module _ (o : Openers) (O : KeepAll o) where
  keeps_further : Keeps (further_suffixes o)
  keeps_further = keeps_either is_suffix O.suffixes (keeps_nothing no_suffixes)

  keeps_suffixes : Keeps (suffixes_with o)
  keeps_suffixes =
      keeps_either is_bracket (keeps_mapped (λ x. subscript x.0 x.1) (keeps_both O.subscript keeps_further))
      (keeps_mapped (λ x. field x.0 x.1) (keeps_both (keeps_behind (sign (codes ".")) keeps_name) keeps_further))

  keeps_any : Keeps (any_suffixes o)
  keeps_any = keeps_either is_suffix keeps_suffixes (keeps_nothing no_suffixes)

  keeps_place_with : Keeps (place_with o)
  keeps_place_with = keeps_mapped (λ x. record { name = x.0; suffixes = x.1 }) (keeps_both keeps_name keeps_any)

  keeps_built : Keeps (built_with o)
  keeps_built =
      keeps_behind (sign (codes "#"))
      (keeps_either is_bracket (keeps_mapped listing O.list) (keeps_mapped (λ x. labelled x.0 x.1) (keeps_both keeps_name (keeps_optional is_parenthesis O.argument))))

  keeps_second : Keeps (second_with o)
  keeps_second =
      keeps_mapped (λ x. second x.0 x.1)
      (keeps_both (keeps_behind (sign (codes ".")) keeps_name) (keeps_either is_hash (keeps_mapped built_of_both keeps_built) (keeps_mapped follows keeps_further)))

  keeps_behind_name : (k : Following) → Keeps (behind_name o k)
  keeps_behind_name by_hash = keeps_mapped (builds None) keeps_built
  keeps_behind_name by_dot = keeps_second
  keeps_behind_name by_neither = keeps_mapped goes_on keeps_any

  keeps_named : Keeps (named_with o)
  keeps_named = keeps_mapped (λ x. name_with_tail x.0 x.1) (keeps_both keeps_name (keeps_cased following_of (behind_name o) keeps_behind_name))

  keeps_primary : (k : PrimaryStart) → Keeps (primary_by o k)
  keeps_primary begins.Number = keeps_mapped number keeps_number
  keeps_primary begins.Text = keeps_mapped (λ x. text x.0 x.1) keeps_quoted
  keeps_primary begins.True = keeps_mapped (truth true) (keeps_fixed_at (word (codes "TRUE")))
  keeps_primary begins.False = keeps_mapped (truth false) (keeps_fixed_at (word (codes "FALSE")))
  keeps_primary begins.Parenthesis = O.parentheses
  keeps_primary begins.Length = O.length
  keeps_primary begins.Name = keeps_named

  keeps_factor : Keeps (factor_with o)
  keeps_factor = keeps_either is_minus O.minus (keeps_cased start_of_primary (primary_by o) keeps_primary)

  keeps_links : (c : Chain) {operand : Reader → Written × Reader} → Keeps operand → Keeps (links_with c operand o)
  keeps_links c P = keeps_mapped (λ x. link x.0 x.1.0 x.1.1) (keeps_both (keeps_joint c) (keeps_both P (keeps_either (joins c) (O.links c) (keeps_nothing no_links))))

  keeps_chain : (c : Chain) {operand : Reader → Written × Reader} → Keeps operand → Keeps (chain_with c operand o)
  keeps_chain c P = keeps_mapped (λ x. chain_of c x.0 x.1) (keeps_both P (keeps_either (joins c) (keeps_links c P) (keeps_nothing no_links)))

  keeps_sum : Keeps (sum_with o)
  keeps_sum = keeps_chain of.Sum (keeps_chain of.Term keeps_factor)

  keeps_related : (k : Relating) → Keeps (related_by o k)
  keeps_related comparing = keeps_mapped (λ x. compared x.0 x.1) (keeps_both keeps_compares keeps_sum)
  keeps_related naming = keeps_mapped arm_named (keeps_behind (word (codes "IS")) keeps_name)
  keeps_related ending = keeps_nothing alone

  keeps_negated : Keeps (negated_with o)
  keeps_negated = keeps_either is_not O.negation (keeps_mapped (λ x. with_relation x.0 x.1) (keeps_both keeps_sum (keeps_cased relating_of (related_by o) keeps_related)))

  keeps_operand : (c : Chain) → Keeps (operand_with o c)
  keeps_operand of.Expression = keeps_chain of.Conjunct keeps_negated
  keeps_operand of.Conjunct = keeps_negated
  keeps_operand of.Sum = keeps_chain of.Term keeps_factor
  keeps_operand of.Term = keeps_factor

  keeps_expression : Keeps (expression_with o)
  keeps_expression = keeps_chain of.Expression (keeps_operand of.Expression)

  keeps_within : KeepAll (openers_within o)
  keeps_within = record {
    negation = keeps_mapped (λ x. negation x.0 x.1) (keeps_both (keeps_fixed_at (word (codes "NOT"))) keeps_negated);
    minus = keeps_mapped (λ x. minus x.0 x.1) (keeps_both (keeps_fixed_at (sign (codes "-"))) keeps_factor);
    parentheses =
        keeps_mapped (λ x. parentheses x.0 x.1.0) (keeps_both (keeps_fixed_at (sign (codes "("))) (keeps_both keeps_expression (keeps_fixed (sign (codes ")")))));
    length = keeps_mapped (λ x. length_of x.0 x.1) (keeps_both (keeps_fixed_at (word (codes "LENGTH"))) (keeps_where is_parenthesis filler O.argument));
    argument = keeps_parentheses keeps_expression;
    subscript = keeps_brackets keeps_expression;
    list = keeps_brackets (keeps_either (is_lexeme (sign (codes "]"))) (keeps_nothing []) (keeps_list keeps_expression));
    links = λ c. keeps_links c (keeps_operand c);
    suffixes = keeps_suffixes;
  }

keep_none : KeepAll none_left
keep_none = record {
  negation = keeps_stopped TooDeep filler;
  minus = keeps_stopped TooDeep filler;
  parentheses = keeps_stopped TooDeep filler;
  length = keeps_stopped TooDeep filler;
  argument = keeps_stopped TooDeep filler;
  subscript = keeps_stopped TooDeep filler;
  list = keeps_stopped TooDeep (λ at. []);
  links = λ c. keeps_stopped TooDeep (λ at. link (first_operator c) (filler at) no_links);
  suffixes = keeps_stopped TooDeep (λ at. field (filled_name at) no_suffixes);
}

keep_all : (n : ℕ) → KeepAll (openers n)
unfolding openers
keep_all zero = keep_none
keep_all (suc n) = keeps_within (openers n) (keep_all n)

pub keeps_chained : (n : ℕ) (c : Chain) → Keeps (read_chain n c)
unfolding read_chain
keeps_chained n c = keeps_chain (openers n) (keep_all n) c (keeps_operand (openers n) (keep_all n) c)

pub keeps_place : (n : ℕ) → Keeps (read_place n)
unfolding read_place
keeps_place n = keeps_place_with (openers n) (keep_all n)

pub keeps_written : (n : ℕ) → Keeps (list n)
unfolding list
keeps_written n = (keep_all n).list
