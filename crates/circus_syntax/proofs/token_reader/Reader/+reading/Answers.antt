use Rattle.std.proofs.Common.{◌-◌, sym, ◌∙◌, ap}
use Rattle.circus_syntax.specs.TypeOf.{tree_at, tree_of, group_of, arm_of}
use Rattle.circus_syntax.specs.TypeTree.{boolean, array, sequence}
use Rattle.circus_syntax.specs.declared.reading.TypeStart.TheVariants as begins
use Rattle.circus_syntax.specs.Reader.{place}
use Rattle.circus_syntax.specs.Reading.{arm_of_type, group_of_type, behind, unmarked_type, stop_in_type}
use Rattle.circus_syntax.proofs.Tokens.{comma_sign, is_comma}
use Rattle.circus_syntax.proofs.Loops.{goes_on, comma_step, comma_shorter, first_item}
use Rattle.circus_syntax.proofs.ByWord.{array_is, sequence_is, record_is, choice_is, group_is, arm_is, groups_none, groups_some, arms_some, sound_group_of_type, sound_arm_of_type, type_is, marked_open, marked_stopped, unmarked_simple, unmarked_deep, unmarked_nested, only_choice, type_with_array, type_with_sequence, type_with_record, type_with_choice, if_ok, suc_before}
use Rattle.circus_syntax.proofs.token_reader.Reader.+reading.Goals as goal
use Rattle.circus_syntax.proofs.token_reader.Reader.+reading.Goals.{type_text-then-goes_on, type_text-else-goes_on}

pub arm-returns : goal.arm-returns
arm-returns t c = arm_is c.args.levels _ _ _ _ c.in_ok-name.field-0 (tree_of c.in_ok-shape.shape) c.in_ok-name.ensures c.sign.ensures c.in_ok-shape.ensures

pub arms-loop-self-init : goal.arms-loop-self-init
arms-loop-self-init t c =
    arms_some c.args.levels _ c.arm.new.self (arm_of c.in_ok-arm.field-0) c.in_ok-arm.ensures
    ∙ ap (λ l. goes_on is_comma (behind comma_sign (arm_of_type c.args.levels)) l c.arm.new.self) (first_item c.new-arms.result c.push.new.self (arm_of c.in_ok-arm.field-0) c.new-arms.ensures c.in_ok-push.ensures.ok)

pub arms-loop-self-smaller : goal.arms-loop-self-smaller
arms-loop-self-smaller t c =
    comma_shorter (sound_arm_of_type c.args.levels) c.loop-self.self c.sign.new.self c.arm-in-loop-self.new.self (arm_of c.in_ok-arm-2.field-0) c.sees_sign.result
    c.sees_sign.ensures c.loop-self-test.true c.sign.ensures c.in_ok-arm-2.ensures

pub arms-loop-self-preserved : goal.arms-loop-self-preserved
arms-loop-self-preserved t c =
    comma_step (sound_arm_of_type c.args.levels) _ c.loop-self.arms c.push-in-loop-self.new.self c.loop-self.self c.sign.new.self c.arm-in-loop-self.new.self (arm_of c.in_ok-arm-2.field-0) c.sees_sign.result
    c.loop-self.invariant c.sees_sign.ensures c.loop-self-test.true c.sign.ensures c.in_ok-arm-2.ensures c.in_ok-push-2.ensures.ok

pub array_kind-returns : goal.array_kind-returns
array_kind-returns t c =
    array_is c.args.levels _ _ _ _ _ c.number-len.result (tree_of c.in_ok-element.element) c.word.ensures c.number-len.ensures c.word-2.ensures c.in_ok-element.ensures
    ∙ ap (λ e. (array (place c.args.self.now) c.number-len.result e, c.type_text.new.self)) (sym c.in_ok-new.ensures)

pub sequence_kind-returns : goal.sequence_kind-returns
sequence_kind-returns t c =
    sequence_is c.args.levels _ _ _ _ _ c.upper_bound-bound.result (tree_of c.in_ok-element.element) c.word.ensures c.upper_bound-bound.ensures c.word-2.ensures c.in_ok-element.ensures
    ∙ ap (λ e. (sequence (place c.args.self.now) c.upper_bound-bound.result e, c.type_text.new.self)) (sym c.in_ok-new.ensures)

pub record_kind-returns : goal.record_kind-returns
record_kind-returns t c = record_is c.args.levels _ _ _ _ _ c.in_ok-groups.groups c.word.ensures c.sign.ensures c.in_ok-groups.ensures c.sign-2.ensures

pub choice_kind-returns : goal.choice_kind-returns
choice_kind-returns t c = choice_is c.args.levels _ _ _ _ _ _ c.in_ok-arms.arms c.word.ensures c.word-2.ensures c.sign.ensures c.in_ok-arms.ensures c.sign-2.ensures

pub group-returns : goal.group-returns
group-returns t c = group_is c.args.levels _ _ _ _ c.in_ok-names.names (tree_of c.in_ok-shape.shape) c.in_ok-names.ensures c.sign.ensures c.in_ok-shape.ensures

pub groups-returns-then-sees_sign : goal.groups-returns-then-sees_sign
groups-returns-then-sees_sign t c =
    groups_none c.args.levels c.args.self.now c.sees_sign.result c.sees_sign.ensures c.if-sees_sign.true
    ∙ ap (λ l. (l, c.args.self.now)) (sym c.new-groups.ensures)

pub groups-loop-self-init : goal.groups-loop-self-init
groups-loop-self-init t c =
    groups_some c.args.levels _ c.group.new.self (group_of c.in_ok-group.field-0) c.sees_sign.result c.sees_sign.ensures c.if-sees_sign.false c.in_ok-group.ensures
    ∙ ap (λ l. goes_on is_comma (behind comma_sign (group_of_type c.args.levels)) l c.group.new.self) (first_item c.new-groups.result c.push.new.self (group_of c.in_ok-group.field-0) c.new-groups.ensures c.in_ok-push.ensures.ok)

pub groups-loop-self-smaller : goal.groups-loop-self-smaller
groups-loop-self-smaller t c =
    comma_shorter (sound_group_of_type c.args.levels) c.loop-self.self c.sign.new.self c.group-in-loop-self.new.self (group_of c.in_ok-group-2.field-0) c.sees_sign-in-loop-self.result
    c.sees_sign-in-loop-self.ensures c.loop-self-test.true c.sign.ensures c.in_ok-group-2.ensures

pub groups-loop-self-preserved : goal.groups-loop-self-preserved
groups-loop-self-preserved t c =
    comma_step (sound_group_of_type c.args.levels) _ c.loop-self.groups c.push-in-loop-self.new.self c.loop-self.self c.sign.new.self c.group-in-loop-self.new.self (group_of c.in_ok-group-2.field-0) c.sees_sign-in-loop-self.result
    c.loop-self.invariant c.sees_sign-in-loop-self.ensures c.loop-self-test.true c.sign.ensures c.in_ok-group-2.ensures c.in_ok-push-2.ensures.ok

pub type_kind-returns-then-not-nests : goal.type_kind-returns-then-not-nests
type_kind-returns-then-not-nests t c =
    if_ok c.simple_kind.result _ _ (λ kind is. unmarked_simple c.args.levels c.args.self.now c.type_start-start.result _ c.nests.result c.type_start-start.ensures c.nests.ensures c.if-not-nests.true is) c.simple_kind.ensures

pub type_kind-returns-then-levels-eq0 : goal.type_kind-returns-then-levels-eq0
type_kind-returns-then-levels-eq0 t c =
    unmarked_deep c.args.levels c.args.self.now c.type_start-start.result c.nests.result c.if-levels-eq0.true c.type_start-start.ensures c.nests.ensures c.if-not-nests.false
    ∙ ap (λ s. (boolean (place c.args.self.now), s)) (sym c.stop_here.ensures)

pub type_kind-returns-in-Array : goal.type_kind-returns-in-Array
type_kind-returns-in-Array t c =
    if_ok c.array_kind.result _ _
    (λ kind is. unmarked_nested c.args.levels (c.args.levels - 1) c.args.self.now c.type_start-start.result begins.Array _ (suc_before c.args.levels c.if-levels-eq0.false) c.type_start-start.ensures c.in-Array.is
    (sym (type_with_array (c.args.levels - 1) c.args.self.now) ∙ is))
    c.array_kind.ensures

pub type_kind-returns-in-Sequence : goal.type_kind-returns-in-Sequence
type_kind-returns-in-Sequence t c =
    if_ok c.sequence_kind.result _ _
    (λ kind is. unmarked_nested c.args.levels (c.args.levels - 1) c.args.self.now c.type_start-start.result begins.Sequence _ (suc_before c.args.levels c.if-levels-eq0.false) c.type_start-start.ensures c.in-Sequence.is
    (sym (type_with_sequence (c.args.levels - 1) c.args.self.now) ∙ is))
    c.sequence_kind.ensures

pub type_kind-returns-in-Record : goal.type_kind-returns-in-Record
type_kind-returns-in-Record t c =
    if_ok c.record_kind.result _ _
    (λ kind is. unmarked_nested c.args.levels (c.args.levels - 1) c.args.self.now c.type_start-start.result begins.Record _ (suc_before c.args.levels c.if-levels-eq0.false) c.type_start-start.ensures c.in-Record.is
    (sym (type_with_record (c.args.levels - 1) c.args.self.now) ∙ is))
    c.record_kind.ensures

pub type_kind-returns-in_default : goal.type_kind-returns-in_default
type_kind-returns-in_default t c =
    if_ok c.choice_kind.result _ _
    (λ kind is. unmarked_nested c.args.levels (c.args.levels - 1) c.args.self.now c.type_start-start.result begins.Choice _ (suc_before c.args.levels c.if-levels-eq0.false) c.type_start-start.ensures
    (only_choice c.type_start-start.result (sym c.nests.ensures ∙ c.if-not-nests.false) c.in_default.not-Array c.in_default.not-Sequence c.in_default.not-Record)
    (sym (type_with_choice (c.args.levels - 1) c.args.self.now) ∙ is))
    c.choice_kind.ensures

pub type_text-returns : goal.type_text-returns
type_text-returns t c =
    type_is c.args.levels c.args.self.now
    ∙ elim c.if-goes_on.branch [
      | type_text-then-goes_on w ↦
          marked_open stop_in_type (unmarked_type c.args.levels) c.args.self.now c.type_kind.new.self c.if-goes_on.self (λ at. tree_at at c.in_ok-kind.kind) c.stop.result c.is_none-goes_on.result c.place-at.result
          c.stop.ensures c.is_none-goes_on.ensures w.if-goes_on.true c.place-at.ensures c.in_ok-kind.ensures (w.self-is ∙ w.mark_type.ensures)
      | type_text-else-goes_on w ↦
          marked_stopped stop_in_type (unmarked_type c.args.levels) c.args.self.now c.type_kind.new.self c.if-goes_on.self (λ at. tree_at at c.in_ok-kind.kind) c.stop.result c.is_none-goes_on.result c.place-at.result
          c.stop.ensures c.is_none-goes_on.ensures w.if-goes_on.false c.place-at.ensures c.in_ok-kind.ensures w.self-is
    ]
