use Rattle.std.proofs.Common.{◌-◌, sym, ◌∙◌, ap}
use Rattle.circus_syntax.proofs.ByWord.{if_ok, suc_before}
use Rattle.circus_place.specs.declared.start.AloneStart.TheVariants as begins
use Rattle.circus_place.specs.Written.{written_of}
use Rattle.circus_place.specs.Seen.Reading.{with_further_and, with_further_or}
use Rattle.circus_place.proofs.Chains.{conjunct_one, conjunct_more, further_and_none, further_and_deep, further_and_more, condition_one, condition_more, further_or_none, further_or_deep, further_or_more, negated_is}
use Rattle.circus_place.proofs.condition_reading.+conditions.Goals as goal

pub condition-returns-then-not-sees_word : goal.condition-returns-then-not-sees_word
condition-returns-then-not-sees_word t c =
    condition_one c.args.levels c.args.reader.now c.conjunct.new.reader (written_of c.in_ok-first.first) c.sees_word.result c.in_ok-first.ensures c.sees_word.ensures c.if-not-sees_word.true

pub condition-returns : goal.condition-returns
condition-returns t c =
    if_ok c.further_or.result _ _
    (λ read is. condition_more c.args.levels c.args.reader.now c.conjunct.new.reader c.word.new.self c.conjunct-2.new.reader (written_of c.in_ok-first.first) (written_of c.in_ok-second.second) c.sees_word.result _
    c.in_ok-first.ensures c.sees_word.ensures c.if-not-sees_word.false c.word.ensures c.in_ok-second.ensures (ap (λ w. with_further_or c.args.levels w c.conjunct-2.new.reader) (sym c.in_ok-either.ensures) ∙ is))
    c.further_or.ensures

pub conjunct-returns-then-not-sees_word : goal.conjunct-returns-then-not-sees_word
conjunct-returns-then-not-sees_word t c =
    conjunct_one c.args.levels c.args.reader.now c.negation.new.reader (written_of c.in_ok-first.first) c.sees_word.result c.in_ok-first.ensures c.sees_word.ensures c.if-not-sees_word.true

pub conjunct-returns : goal.conjunct-returns
conjunct-returns t c =
    if_ok c.further_and.result _ _
    (λ read is. conjunct_more c.args.levels c.args.reader.now c.negation.new.reader c.word.new.self c.negation-2.new.reader (written_of c.in_ok-first.first) (written_of c.in_ok-second.second) c.sees_word.result _
    c.in_ok-first.ensures c.sees_word.ensures c.if-not-sees_word.false c.word.ensures c.in_ok-second.ensures (ap (λ w. with_further_and c.args.levels w c.negation-2.new.reader) (sym c.in_ok-both.ensures) ∙ is))
    c.further_and.ensures

pub further_and-returns-then-not-sees_word : goal.further_and-returns-then-not-sees_word
further_and-returns-then-not-sees_word t c = further_and_none c.args.levels (written_of c.args.left) c.args.reader.now c.sees_word.result c.sees_word.ensures c.if-not-sees_word.true

pub further_and-returns-then-levels-eq0 : goal.further_and-returns-then-levels-eq0
further_and-returns-then-levels-eq0 t c =
    further_and_deep c.args.levels (written_of c.args.left) c.args.reader.now c.sees_word.result c.if-levels-eq0.true c.sees_word.ensures c.if-not-sees_word.false
    ∙ ap (λ r. (written_of c.args.left, r)) (sym c.stop_here.ensures)

pub further_and-returns : goal.further_and-returns
further_and-returns t c =
    if_ok c.further_and.result _ _
    (λ read is. further_and_more c.args.levels (c.args.levels - 1) c.args.reader.now c.word.new.self c.negation.new.reader (written_of c.args.left) (written_of c.in_ok-right.right) c.sees_word.result _
    (suc_before c.args.levels c.if-levels-eq0.false) c.sees_word.ensures c.if-not-sees_word.false c.word.ensures c.in_ok-right.ensures (ap (λ w. with_further_and (c.args.levels - 1) w c.negation.new.reader) (sym c.in_ok-both.ensures) ∙ is))
    c.further_and.ensures

pub further_or-returns-then-not-sees_word : goal.further_or-returns-then-not-sees_word
further_or-returns-then-not-sees_word t c = further_or_none c.args.levels (written_of c.args.left) c.args.reader.now c.sees_word.result c.sees_word.ensures c.if-not-sees_word.true

pub further_or-returns-then-levels-eq0 : goal.further_or-returns-then-levels-eq0
further_or-returns-then-levels-eq0 t c =
    further_or_deep c.args.levels (written_of c.args.left) c.args.reader.now c.sees_word.result c.if-levels-eq0.true c.sees_word.ensures c.if-not-sees_word.false
    ∙ ap (λ r. (written_of c.args.left, r)) (sym c.stop_here.ensures)

pub further_or-returns : goal.further_or-returns
further_or-returns t c =
    if_ok c.further_or.result _ _
    (λ read is. further_or_more c.args.levels (c.args.levels - 1) c.args.reader.now c.word.new.self c.conjunct.new.reader (written_of c.args.left) (written_of c.in_ok-right.right) c.sees_word.result _
    (suc_before c.args.levels c.if-levels-eq0.false) c.sees_word.ensures c.if-not-sees_word.false c.word.ensures c.in_ok-right.ensures (ap (λ w. with_further_or (c.args.levels - 1) w c.conjunct.new.reader) (sym c.in_ok-either.ensures) ∙ is))
    c.further_or.ensures

pub negation-returns-in-Not : goal.negation-returns-in-Not
negation-returns-in-Not t c =
    if_ok c.group_behind_not.result _ _ (λ read is. negated_is c.args.levels c.args.reader.now c.alone_start.result begins.Not c.alone_start.ensures c.in-Not.is ∙ is) c.group_behind_not.ensures

pub negation-returns-in-Group : goal.negation-returns-in-Group
negation-returns-in-Group t c =
    if_ok c.group.result _ _ (λ read is. negated_is c.args.levels c.args.reader.now c.alone_start.result begins.Group c.alone_start.ensures c.in-Group.is ∙ is) c.group.ensures

pub negation-returns-in-Differ : goal.negation-returns-in-Differ
negation-returns-in-Differ t c =
    if_ok c.differ_test.result _ _ (λ read is. negated_is c.args.levels c.args.reader.now c.alone_start.result begins.Differ c.alone_start.ensures c.in-Differ.is ∙ is) c.differ_test.ensures

pub negation-returns-in-Relation : goal.negation-returns-in-Relation
negation-returns-in-Relation t c =
    if_ok c.relation.result _ _ (λ read is. negated_is c.args.levels c.args.reader.now c.alone_start.result begins.Relation c.alone_start.ensures c.in-Relation.is ∙ is) c.relation.ensures
