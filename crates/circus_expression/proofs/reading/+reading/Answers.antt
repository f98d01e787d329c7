use Rattle.std.proofs.Common.{[], ◌∷◌, ◌++◌, ◌-◌, sym, ◌∙◌, ap}
use Rattle.circus_syntax.specs.declared.stopping.StopCause.TheVariants.{TooDeep}
use Rattle.circus_syntax.specs.Reader.{place}
use Rattle.circus_syntax.proofs.ByWord.{if_ok, suc_before}
use Rattle.circus_expression.specs.ExpressionTree.{expression, suffix_trees}
use Rattle.circus_expression.specs.ExpressionTree as tree
use Rattle.circus_expression.specs.ExpressionOf.{tree_of, kind_tree}
use Rattle.circus_expression.specs.ExpressionReading.{operand}
use Rattle.circus_expression.specs.Standing.{show_as, stands_for, lean_left, type_place}
use Rattle.circus_expression.proofs.Stands.{stopped_here, on_ok, chain_alone, chain_linked, links_end, links_go_on, further_links_deep, further_links_more, operand_expression, operand_conjunct, operand_sum, operand_term, negated_missed, negated_deep, negated_is, factor_missed, factor_deep, factor_is, relation_is, related_named, related_compared, related_alone, compared_is, primary_number, primary_text, primary_true, primary_false, primary_parenthesis, primary_length, primary_named, length_deep, length_is, required_seen, required_missed, argument_deep, argument_is, subscript_deep, subscript_is, named_is, behind_hash, behind_dot, behind_neither, dotted_hash, dotted_more, built_items, built_label, built_arm, any_none, any_some, suffixes_subscript, suffixes_field, further_none, further_deep, further_more, list_deep, list_is, items_none, items_some, items_step, items_shorter, items_end}
use Rattle.circus_expression.proofs.reading.+reading.Goals as goal

pub chain-returns-in-Some : goal.chain-returns-in-Some
chain-returns-in-Some t c =
    if_ok c.link.result _ _ (λ read is. chain_linked c.args.levels c.args.of c.args.reader.now c.operand.new.reader _ (tree_of c.in_ok-left.left) _ c.operator.result _ c.in_ok-left.ensures c.operator.ensures c.in-Some.is is) c.link.ensures

pub chain-returns-in-None : goal.chain-returns-in-None
chain-returns-in-None t c = chain_alone c.args.levels c.args.of c.args.reader.now c.operand.new.reader (tree_of c.in_ok-left.left) c.operator.result c.in_ok-left.ensures c.operator.ensures c.in-None.is

pub link-returns-in-None : goal.link-returns-in-None
link-returns-in-None t c =
    links_end c.args.levels c.args.of c.args.reader.now c.skip.new.self c.operand.new.reader (tree_of c.args.left) (tree_of c.in_ok-right.right) (tree_of c.in_ok-both.both) c.args.joint c.operator.result
    c.requires c.skip.ensures c.in_ok-right.ensures (c.in_ok-both.ensures ∙ ap (λ l. expression c.args.left.at (tree.binary c.args.joint l (tree_of c.in_ok-right.right))) c.in_ok-left.ensures) c.operator.ensures c.in-None.is

pub link-returns-in-Some : goal.link-returns-in-Some
link-returns-in-Some t c =
    if_ok c.further_link.result _ _ (λ read is. links_go_on c.args.levels c.args.of c.args.reader.now c.skip.new.self c.operand.new.reader _ (tree_of c.args.left) (tree_of c.in_ok-right.right) (tree_of c.in_ok-both.both) _ c.args.joint _ c.operator.result
    c.requires c.skip.ensures c.in_ok-right.ensures (c.in_ok-both.ensures ∙ ap (λ l. expression c.args.left.at (tree.binary c.args.joint l (tree_of c.in_ok-right.right))) c.in_ok-left.ensures) c.operator.ensures c.in-Some.is is) c.further_link.ensures

pub further_link-returns-then-levels-eq0 : goal.further_link-returns-then-levels-eq0
further_link-returns-then-levels-eq0 t c =
    if_ok c.stop_linked.result _ _ (λ read is. ap (show_as (lean_left (tree_of c.args.left))) (further_links_deep c.args.levels c.args.of c.args.reader.now c.if-levels-eq0.true) ∙ is) c.stop_linked.ensures

pub further_link-returns : goal.further_link-returns
further_link-returns t c =
    if_ok c.link.result _ _ (λ read is. ap (show_as (lean_left (tree_of c.args.left))) (further_links_more c.args.levels (c.args.levels - 1) c.args.of c.args.reader.now (suc_before c.args.levels c.if-levels-eq0.false)) ∙ is) c.link.ensures

pub operand-returns-in-Expression : goal.operand-returns-in-Expression
operand-returns-in-Expression t c =
    if_ok c.chain.result _ _ (λ read is. ap (λ k. show_as stands_for (operand c.args.levels k c.args.reader.now)) c.in-Expression.is ∙ ap (show_as stands_for) (operand_expression c.args.levels c.args.reader.now) ∙ is) c.chain.ensures

pub operand-returns-in-Conjunct : goal.operand-returns-in-Conjunct
operand-returns-in-Conjunct t c =
    if_ok c.minus_operand.result _ _ (λ read is. ap (λ k. show_as stands_for (operand c.args.levels k c.args.reader.now)) c.in-Conjunct.is ∙ ap (show_as stands_for) (operand_conjunct c.args.levels c.args.reader.now) ∙ is) c.minus_operand.ensures

pub operand-returns-in-Sum : goal.operand-returns-in-Sum
operand-returns-in-Sum t c =
    if_ok c.chain-in-Sum.result _ _ (λ read is. ap (λ k. show_as stands_for (operand c.args.levels k c.args.reader.now)) c.in-Sum.is ∙ ap (show_as stands_for) (operand_sum c.args.levels c.args.reader.now) ∙ is) c.chain-in-Sum.ensures

pub operand-returns-in-Term : goal.operand-returns-in-Term
operand-returns-in-Term t c =
    if_ok c.factor.result _ _ (λ read is. ap (λ k. show_as stands_for (operand c.args.levels k c.args.reader.now)) c.in-Term.is ∙ ap (show_as stands_for) (operand_term c.args.levels c.args.reader.now) ∙ is) c.factor.ensures

pub minus_operand-returns-then-not-sees_word : goal.minus_operand-returns-then-not-sees_word
minus_operand-returns-then-not-sees_word t c =
    if_ok c.relation.result _ _ (λ read is. ap (show_as stands_for) (negated_missed c.args.levels c.args.reader.now c.sees_word.result c.sees_word.ensures c.if-not-sees_word.true) ∙ is) c.relation.ensures

pub minus_operand-returns-then-levels-eq0 : goal.minus_operand-returns-then-levels-eq0
minus_operand-returns-then-levels-eq0 t c =
    if_ok c.stop.result _ _ (λ read is. ap (show_as stands_for) (negated_deep c.args.levels c.args.reader.now c.sees_word.result c.if-levels-eq0.true c.sees_word.ensures c.if-not-sees_word.false) ∙ is) c.stop.ensures

pub minus_operand-returns : goal.minus_operand-returns
minus_operand-returns t c =
    negated_is c.args.levels (c.args.levels - 1) c.args.reader.now c.word.new.self c.minus_operand.new.reader (tree_of c.in_ok-inner.inner) c.sees_word.result (suc_before c.args.levels c.if-levels-eq0.false) c.sees_word.ensures c.if-not-sees_word.false c.word.ensures c.in_ok-inner.ensures
    ∙ (λ i. (expression (sym c.place-at.ensures i) (tree.negation (sym c.in_ok-operand.ensures i)), c.minus_operand.new.reader))

pub factor-returns-then-not-sees_sign : goal.factor-returns-then-not-sees_sign
factor-returns-then-not-sees_sign t c =
    if_ok c.primary.result _ _ (λ read is. ap (show_as stands_for) (factor_missed c.args.levels c.args.reader.now c.sees_sign.result c.sees_sign.ensures c.if-not-sees_sign.true) ∙ is) c.primary.ensures

pub factor-returns-then-levels-eq0 : goal.factor-returns-then-levels-eq0
factor-returns-then-levels-eq0 t c =
    if_ok c.stop.result _ _ (λ read is. ap (show_as stands_for) (factor_deep c.args.levels c.args.reader.now c.sees_sign.result c.if-levels-eq0.true c.sees_sign.ensures c.if-not-sees_sign.false) ∙ is) c.stop.ensures

pub factor-returns : goal.factor-returns
factor-returns t c =
    factor_is c.args.levels (c.args.levels - 1) c.args.reader.now c.sign.new.self c.factor.new.reader (tree_of c.in_ok-inner.inner) c.sees_sign.result (suc_before c.args.levels c.if-levels-eq0.false) c.sees_sign.ensures c.if-not-sees_sign.false c.sign.ensures c.in_ok-inner.ensures
    ∙ (λ i. (expression (sym c.place-at.ensures i) (tree.minus (sym c.in_ok-operand.ensures i)), c.factor.new.reader))

pub relation-returns : goal.relation-returns
relation-returns t c =
    if_ok c.rest_of_relation.result _ _ (λ read is. relation_is c.args.levels c.args.reader.now c.chain.new.reader _ (tree_of c.in_ok-left.left) _ c.in_ok-left.ensures is) c.rest_of_relation.ensures

pub rest_of_relation-returns-then-sees_word : goal.rest_of_relation-returns-then-sees_word
rest_of_relation-returns-then-sees_word t c =
    if_ok c.arm_test.result _ _ (λ read is. related_named c.args.levels c.args.reader.now _ (tree_of c.args.left) _ c.sees_word.result c.sees_word.ensures c.if-sees_word.true is) c.arm_test.ensures

pub rest_of_relation-returns-in-Some : goal.rest_of_relation-returns-in-Some
rest_of_relation-returns-in-Some t c =
    if_ok c.rest_of_comparison.result _ _ (λ read is. related_compared c.args.levels c.args.reader.now _ (tree_of c.args.left) _ c.sees_word.result c.comparison.result _ c.sees_word.ensures c.if-sees_word.false c.comparison.ensures c.in-Some.is is) c.rest_of_comparison.ensures

pub rest_of_relation-returns-in-None : goal.rest_of_relation-returns-in-None
rest_of_relation-returns-in-None t c = related_alone c.args.levels c.args.reader.now (tree_of c.args.left) c.sees_word.result c.comparison.result c.sees_word.ensures c.if-sees_word.false c.comparison.ensures c.in-None.is

pub rest_of_comparison-returns : goal.rest_of_comparison-returns
rest_of_comparison-returns t c =
    if_ok c.join.result _ _ (λ read is. compared_is c.args.levels c.args.reader.now c.skip.new.self c.chain.new.reader (tree_of c.args.left) c.in_ok-left.left (tree_of c.in_ok-right.right) (tree_of read) c.args.joint c.skip.ensures c.in_ok-right.ensures c.in_ok-left.ensures is) c.join.ensures

pub primary_kind-returns-in-Number : goal.primary_kind-returns-in-Number
primary_kind-returns-in-Number t c = primary_number c.args.levels c.args.reader.now c.number.new.self c.number.result c.primary_start.result c.primary_start.ensures c.in-Number.is c.number.ensures

pub primary_kind-returns-in_ok-text-in-Text : goal.primary_kind-returns-in_ok-text-in-Text
primary_kind-returns-in_ok-text-in-Text t c = primary_text c.args.levels c.args.reader.now c.text.new.self c.in_ok-text-in-Text.field-0 c.primary_start.result c.primary_start.ensures c.in-Text.is c.in_ok-text-in-Text.ensures

pub primary_kind-returns-in-True : goal.primary_kind-returns-in-True
primary_kind-returns-in-True t c = primary_true c.args.levels c.args.reader.now c.word.new.self c.primary_start.result c.primary_start.ensures c.in-True.is c.word.ensures

pub primary_kind-returns-in-False : goal.primary_kind-returns-in-False
primary_kind-returns-in-False t c = primary_false c.args.levels c.args.reader.now c.word-in-False.new.self c.primary_start.result c.primary_start.ensures c.in-False.is c.word-in-False.ensures

pub primary_kind-returns-in_ok-group_in_parentheses-in-Parenthesis : goal.primary_kind-returns-in_ok-group_in_parentheses-in-Parenthesis
primary_kind-returns-in_ok-group_in_parentheses-in-Parenthesis t c =
    primary_parenthesis c.args.levels c.args.reader.now c.group_in_parentheses.new.reader (tree_of c.in_ok-group_in_parentheses-in-Parenthesis.field-0) c.primary_start.result c.primary_start.ensures c.in-Parenthesis.is c.in_ok-group_in_parentheses-in-Parenthesis.ensures

pub primary_kind-returns-in-Length : goal.primary_kind-returns-in-Length
primary_kind-returns-in-Length t c =
    if_ok c.length.result _ _ (λ read is. ap (show_as stands_for) (primary_length c.args.levels c.args.reader.now c.primary_start.result c.primary_start.ensures c.in-Length.is) ∙ is) c.length.ensures

pub primary_kind-returns-in-Name : goal.primary_kind-returns-in-Name
primary_kind-returns-in-Name t c =
    if_ok c.kind_by_name.result _ _ (λ read is. ap (show_as stands_for) (primary_named c.args.levels c.args.reader.now c.primary_start.result c.primary_start.ensures c.in-Name.is) ∙ is) c.kind_by_name.ensures

pub length-returns-then-levels-eq0 : goal.length-returns-then-levels-eq0
length-returns-then-levels-eq0 t c =
    ap (show_as stands_for) (length_deep c.args.levels c.args.reader.now c.if-levels-eq0.true)
    ∙ stopped_here TooDeep c.args.reader.now c.stop.new.reader c.in_ok-stop.field-0.at (kind_tree c.in_ok-stop.field-0.kind) c.in_ok-stop.ensures

pub length-returns : goal.length-returns
length-returns t c =
    length_is c.args.levels (c.args.levels - 1) c.args.reader.now c.word.new.self c.length_argument.new.reader (tree_of c.in_ok-inner.inner) (suc_before c.args.levels c.if-levels-eq0.false) c.word.ensures c.in_ok-inner.ensures
    ∙ ap (λ e. (expression (place c.args.reader.now) (tree.length_of e), c.length_argument.new.reader)) (sym c.in_ok-new.ensures)

pub length_argument-returns-then-sees_sign : goal.length_argument-returns-then-sees_sign
length_argument-returns-then-sees_sign t c =
    if_ok c.group_in_parentheses.result _ _ (λ read is. ap (show_as stands_for) (required_seen c.args.levels c.args.reader.now c.sees_sign.result c.sees_sign.ensures c.if-sees_sign.true) ∙ is) c.group_in_parentheses.ensures

pub length_argument-returns-else-sees_sign : goal.length_argument-returns-else-sees_sign
length_argument-returns-else-sees_sign t c =
    if_ok c.stop.result _ _ (λ read is. ap (show_as stands_for) (required_missed c.args.levels c.args.reader.now c.sees_sign.result c.sees_sign.ensures c.if-sees_sign.false) ∙ is) c.stop.ensures

pub group_in_parentheses-returns-then-levels-eq0 : goal.group_in_parentheses-returns-then-levels-eq0
group_in_parentheses-returns-then-levels-eq0 t c =
    if_ok c.stop.result _ _ (λ read is. ap (show_as stands_for) (argument_deep c.args.levels c.args.reader.now c.if-levels-eq0.true) ∙ is) c.stop.ensures

pub group_in_parentheses-returns : goal.group_in_parentheses-returns
group_in_parentheses-returns t c = argument_is c.args.levels (c.args.levels - 1) c.args.reader.now c.sign.new.self c.chain.new.reader c.sign-2.new.self (tree_of c.in_ok-inner.inner) (suc_before c.args.levels c.if-levels-eq0.false) c.sign.ensures c.in_ok-inner.ensures c.sign-2.ensures

pub subscript-returns-then-levels-eq0 : goal.subscript-returns-then-levels-eq0
subscript-returns-then-levels-eq0 t c =
    if_ok c.stop.result _ _ (λ read is. ap (show_as stands_for) (subscript_deep c.args.levels c.args.reader.now c.if-levels-eq0.true) ∙ is) c.stop.ensures

pub subscript-returns : goal.subscript-returns
subscript-returns t c = subscript_is c.args.levels (c.args.levels - 1) c.args.reader.now c.sign.new.self c.chain.new.reader c.sign-2.new.self (tree_of c.in_ok-inner.inner) (suc_before c.args.levels c.if-levels-eq0.false) c.sign.ensures c.in_ok-inner.ensures c.sign-2.ensures

pub kind_by_name-returns-then-sees_sign : goal.kind_by_name-returns-then-sees_sign
kind_by_name-returns-then-sees_sign t c =
    if_ok c.kind_of_type.result _ _ (λ kind is. named_is c.args.levels c.args.reader.now c.name.new.self _ c.in_ok-name.name (kind_tree kind) c.in_ok-name.ensures
    (behind_hash c.args.levels c.in_ok-name.name c.name.new.self _ _ c.sees_sign.result c.sees_sign.ensures c.if-sees_sign.true is)) c.kind_of_type.ensures

pub kind_by_name-returns-then-sees_sign-2 : goal.kind_by_name-returns-then-sees_sign-2
kind_by_name-returns-then-sees_sign-2 t c =
    if_ok c.kind_behind_dot.result _ _ (λ kind is. named_is c.args.levels c.args.reader.now c.name.new.self _ c.in_ok-name.name (kind_tree kind) c.in_ok-name.ensures
    (behind_dot c.args.levels c.in_ok-name.name c.name.new.self _ _ c.sees_sign.result c.sees_sign-2.result c.sees_sign.ensures c.if-sees_sign.false c.sees_sign-2.ensures c.if-sees_sign-2.true is)) c.kind_behind_dot.ensures

pub kind_by_name-returns : goal.kind_by_name-returns
kind_by_name-returns t c =
    named_is c.args.levels c.args.reader.now c.name.new.self c.any_suffixes.new.reader c.in_ok-name.name (tree.read c.in_ok-name.name (suffix_trees c.in_ok-suffixes.suffixes)) c.in_ok-name.ensures
    (behind_neither c.args.levels c.in_ok-name.name c.name.new.self c.any_suffixes.new.reader c.in_ok-suffixes.suffixes c.sees_sign.result c.sees_sign-2.result c.sees_sign.ensures c.if-sees_sign.false c.sees_sign-2.ensures c.if-sees_sign-2.false c.in_ok-suffixes.ensures)

pub kind_behind_dot-returns-then-sees_sign : goal.kind_behind_dot-returns-then-sees_sign
kind_behind_dot-returns-then-sees_sign t c =
    if_ok c.kind_of_type.result _ _ (λ kind is. dotted_hash c.args.levels c.args.name c.in_ok-second.second c.args.reader.now c.sign.new.self c.name.new.self _ _ c.sees_sign.result c.sign.ensures c.in_ok-second.ensures c.sees_sign.ensures c.if-sees_sign.true is) c.kind_of_type.ensures

pub kind_behind_dot-returns : goal.kind_behind_dot-returns
kind_behind_dot-returns t c =
    dotted_more c.args.levels c.args.name c.in_ok-second.second c.args.reader.now c.sign.new.self c.name.new.self c.further_suffixes.new.reader c.push.new.self c.further_suffixes.new.into c.sees_sign.result
    c.sign.ensures c.in_ok-second.ensures c.sees_sign.ensures c.if-sees_sign.false (c.in_ok-push.ensures.ok ∙ ap (λ l. l ++ tree.field c.in_ok-second.second ∷ []) c.new-suffixes.ensures) c.in_ok-further_suffixes.ensures

pub kind_of_type-returns-then-sees_sign : goal.kind_of_type-returns-then-sees_sign
kind_of_type-returns-then-sees_sign t c =
    built_items c.args.levels c.args.of c.args.reader.now c.sign.new.self c.list_text.new.reader c.in_ok-list_text.field-0 c.sees_sign.result c.sign.ensures c.sees_sign.ensures c.if-sees_sign.true c.in_ok-list_text.ensures

pub kind_of_type-returns-then-not-sees_sign : goal.kind_of_type-returns-then-not-sees_sign
kind_of_type-returns-then-not-sees_sign t c =
    built_label c.args.levels c.args.of c.args.reader.now c.sign.new.self c.name.new.self c.in_ok-name.name c.sees_sign.result c.sees_sign-2.result
    c.sign.ensures c.sees_sign.ensures c.if-sees_sign.false c.in_ok-name.ensures c.sees_sign-2.ensures c.if-not-sees_sign.true

pub kind_of_type-returns : goal.kind_of_type-returns
kind_of_type-returns t c =
    built_arm c.args.levels c.args.of c.args.reader.now c.sign.new.self c.name.new.self c.group_in_parentheses.new.reader c.in_ok-name.name (tree_of c.in_ok-value.value) c.sees_sign.result c.sees_sign-2.result
    c.sign.ensures c.sees_sign.ensures c.if-sees_sign.false c.in_ok-name.ensures c.sees_sign-2.ensures c.if-not-sees_sign.false c.in_ok-value.ensures
    ∙ ap (λ e. (expression (type_place c.args.of) (tree.arm c.args.of c.in_ok-name.name e), c.group_in_parentheses.new.reader)) (sym c.in_ok-operand.ensures)

pub any_suffixes-returns-then-not-sees_suffix : goal.any_suffixes-returns-then-not-sees_suffix
any_suffixes-returns-then-not-sees_suffix t c = any_none c.args.levels c.args.reader.now c.new-suffixes.result c.sees_suffix.result c.sees_suffix.ensures c.if-not-sees_suffix.true c.new-suffixes.ensures

pub any_suffixes-returns : goal.any_suffixes-returns
any_suffixes-returns t c =
    any_some c.args.levels c.args.reader.now c.one_suffix.new.reader c.new-suffixes.result c.one_suffix.new.into c.sees_suffix.result c.sees_suffix.ensures c.if-not-sees_suffix.false c.new-suffixes.ensures c.in_ok-one_suffix.ensures

pub one_suffix-returns-then-sees_sign : goal.one_suffix-returns-then-sees_sign
one_suffix-returns-then-sees_sign t c =
    on_ok c.further_suffixes.result _ _
    (λ is. suffixes_subscript c.args.levels c.args.reader.now c.subscript.new.reader _ c.args.into.now c.push.new.self _ (tree_of c.in_ok-subscript.field-0) c.sees_sign.result c.sees_sign.ensures c.if-sees_sign.true c.in_ok-subscript.ensures c.in_ok-push.ensures.ok is)
    c.further_suffixes.ensures

pub one_suffix-returns : goal.one_suffix-returns
one_suffix-returns t c =
    on_ok c.further_suffixes-2.result _ _
    (λ is. suffixes_field c.args.levels c.args.reader.now c.sign.new.self c.name.new.self _ c.args.into.now c.push-2.new.self _ c.in_ok-name.field-0 c.sees_sign.result c.sees_sign.ensures c.if-sees_sign.false c.sign.ensures c.in_ok-name.ensures c.in_ok-push-2.ensures.ok is)
    c.further_suffixes-2.ensures

pub further_suffixes-returns-then-not-sees_suffix : goal.further_suffixes-returns-then-not-sees_suffix
further_suffixes-returns-then-not-sees_suffix t c = further_none c.args.levels c.args.reader.now c.args.into.now c.sees_suffix.result c.sees_suffix.ensures c.if-not-sees_suffix.true

pub further_suffixes-returns-then-levels-eq0 : goal.further_suffixes-returns-then-levels-eq0
further_suffixes-returns-then-levels-eq0 t c =
    further_deep c.args.levels c.args.reader.now c.stop_here.new.self c.name.new.self c.args.into.now c.push.new.self c.in_ok-name.field-0 c.sees_suffix.result
    c.if-levels-eq0.true c.sees_suffix.ensures c.if-not-sees_suffix.false c.stop_here.ensures c.in_ok-name.ensures c.in_ok-push.ensures.ok

pub further_suffixes-returns : goal.further_suffixes-returns
further_suffixes-returns t c =
    on_ok c.one_suffix.result _ _
    (λ is. further_more c.args.levels (c.args.levels - 1) c.args.reader.now c.args.into.now _ c.sees_suffix.result (suc_before c.args.levels c.if-levels-eq0.false) c.sees_suffix.ensures c.if-not-sees_suffix.false is)
    c.one_suffix.ensures

pub list_text-returns-then-levels-eq0 : goal.list_text-returns-then-levels-eq0
list_text-returns-then-levels-eq0 t c = list_deep c.args.levels c.args.reader.now c.stop_here.new.self c.new.result c.if-levels-eq0.true c.stop_here.ensures c.new.ensures

pub list_text-returns : goal.list_text-returns
list_text-returns t c = list_is c.args.levels (c.args.levels - 1) c.args.reader.now c.sign.new.self c.items.new.reader c.sign-2.new.self c.in_ok-items.items (suc_before c.args.levels c.if-levels-eq0.false) c.sign.ensures c.in_ok-items.ensures c.sign-2.ensures

pub items-returns-then-sees_sign : goal.items-returns-then-sees_sign
items-returns-then-sees_sign t c = items_none c.args.levels c.args.reader.now c.new-items.result c.sees_sign.result c.sees_sign.ensures c.if-sees_sign.true c.new-items.ensures

pub items-loop-reader-init : goal.items-loop-reader-init
items-loop-reader-init t c =
    items_some c.args.levels c.args.reader.now c.chain.new.reader (tree_of c.in_ok-chain.field-0) c.new-items.result c.push.new.self c.sees_sign.result c.sees_sign.ensures c.if-sees_sign.false c.in_ok-chain.ensures c.new-items.ensures c.in_ok-push.ensures.ok

pub items-loop-reader-smaller : goal.items-loop-reader-smaller
items-loop-reader-smaller t c =
    items_shorter c.args.levels c.loop-reader.reader c.sign.new.self c.chain-in-loop-reader.new.reader (tree_of c.in_ok-chain-2.field-0) c.sees_sign-in-loop-reader.result c.sees_sign-in-loop-reader.ensures c.loop-reader-test.true c.sign.ensures c.in_ok-chain-2.ensures

pub items-loop-reader-preserved : goal.items-loop-reader-preserved
items-loop-reader-preserved t c =
    items_step c.args.levels _ c.loop-reader.reader c.sign.new.self c.chain-in-loop-reader.new.reader (tree_of c.in_ok-chain-2.field-0) c.loop-reader.items c.push-in-loop-reader.new.self c.sees_sign-in-loop-reader.result
    c.loop-reader.invariant c.sees_sign-in-loop-reader.ensures c.loop-reader-test.true c.sign.ensures c.in_ok-chain-2.ensures c.in_ok-push-2.ensures.ok

pub items-returns : goal.items-returns
items-returns t c = items_end c.args.levels _ c.loop-reader.reader c.loop-reader.items c.sees_sign-in-loop-reader.result c.loop-reader.invariant c.sees_sign-in-loop-reader.ensures c.loop-reader-test.false
