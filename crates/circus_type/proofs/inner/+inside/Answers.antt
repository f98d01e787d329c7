use Rattle.std.proofs.Common.{◌≡◌, ◌+◌, ◌++◌, ◌∙◌, ap, sym, subst, map, drop, arith, [], cond}
use Rattle.std.specs.Prelude.{OnOk}
use Rattle.circus_fault.specs.declared.fault.Best.{Best}
use Rattle.circus_fault.specs.Least.{least_from, faults_if}
use Rattle.circus_fault.specs.Known.{no_number}
use Rattle.circus_fault.proofs.LeastMore.{least_more, least_step}
use Rattle.circus_type.specs.declared.cause.TypeCause.TheVariants.{OutOfRange}
use Rattle.circus_syntax.specs.TypeTree.{group_trees, arm_trees}
use Rattle.circus_syntax.specs.TypeOf.{tree_of, tree_at, group_of, arm_of}
use Rattle.circus_type.specs.Inside as faults
use Rattle.circus_type.proofs.Dropped.{drop_more}
use Rattle.circus_type.proofs.LeastMore.{onward_least, bare_is}
use Rattle.circus_type.proofs.TypeItems.{group_falls, arm_falls}
use Rattle.circus_type.proofs.inner.+inside.Goals as goal
use Rattle.circus_type.proofs.inner.+inside.Goals.{inside_arms-then-not-is_empty_record+in_ok-check_inside, inside_arms-else-not-is_empty_record}

pub inside_arms-check_inside-requires : goal.inside_arms-check_inside-requires
inside_arms-check_inside-requires g t c κs within =
    (omega (arith, c.decreases, arm_falls c.args.arms.now c.loop-arm.arm-index c.arm-item.result c.loop-arm-test.true c.arm-item.is), within)

pub inside_groups-check_inside-requires : goal.inside_groups-check_inside-requires
inside_groups-check_inside-requires g t c κs within =
    (omega (arith, c.decreases, group_falls c.args.groups.now c.loop-group.group-index c.group-item.result c.loop-group-test.true c.group-item.is), within)

pub inside_groups-loop-group-preserved : goal.inside_groups-loop-group-preserved
inside_groups-loop-group-preserved g t c =
    let emb = g.C.WithTypeCauses.embed in
    let known = g.N.TypeNames.unknown_place c.args.names.now in
    let one = c.group-item.result in
    let left = drop_more c.args.groups.now c.loop-group.group-index one c.loop-group-test.true c.group-item.is in
    let rest = faults.inside_groups emb known (group_trees (map group_of (drop (c.loop-group.group-index + 1) c.args.groups.now))) in
    least_step g.C.Cause.rank c.check_inside.new.best.fault c.loop-group.best.fault _ (faults.inside emb known (tree_of one.shape)) rest c.in_ok-check_inside.ensures
    (ap (λ gs. least_from g.C.Cause.rank c.loop-group.best.fault (faults.inside_groups emb known (group_trees (map group_of gs)))) (sym left) ∙ c.loop-group.invariant)

pub check_inside-returns-in_ok-field_names-in-Record : goal.check_inside-returns-in_ok-field_names-in-Record
check_inside-returns-in_ok-field_names-in-Record g t c =
    let emb = g.C.WithTypeCauses.embed in
    let known = g.N.TypeNames.unknown_place c.args.names.now in
    let best = c.args.best.now.fault in
    let at = c.args.shape.now.at in
    let gs = c.in-Record.groups in
    let bare = faults_if (faults.is_bare (group_trees gs)) at (emb OutOfRange) in
    let names = faults.repeated_names emb faults.no_name (faults.group_names (group_trees gs)) in
    let first : c.note-in-Record.new.self.fault ≡ least_from g.C.Cause.rank best bare =
    c.note-in-Record.ensures ∙ (λ i. least_from g.C.Cause.rank best (faults_if (bare_is c.is_empty.result gs c.is_empty.ensures i) at (c.of_type-in-Record.ensures i))) in
    let second : c.field_names.new.best.fault ≡ least_from g.C.Cause.rank best (bare ++ names) =
    c.in_ok-field_names-in-Record.ensures
    ∙ ap (λ ts. least_from g.C.Cause.rank c.note-in-Record.new.self.fault (faults.repeated_names emb faults.no_name (faults.group_names (group_trees ts)))) c.as_slice-in-Record.ensures
    ∙ ap (λ b. least_from g.C.Cause.rank b names) first ∙ sym (least_more g.C.Cause.rank best bare names) in
    let third = subst (λ ts. OnOk c.inside_groups.result (c.inside_groups.new.best.fault ≡ least_from g.C.Cause.rank c.field_names.new.best.fault (faults.inside_groups emb known (group_trees ts)))) c.as_slice-in-Record-2.ensures c.inside_groups.ensures in
    subst (λ k. OnOk c.inside_groups.result (c.inside_groups.new.best.fault ≡ least_from g.C.Cause.rank best (faults.inside emb known (tree_at at k)))) (sym c.in-Record.is)
    (onward_least g.C.Cause.rank c.inside_groups.result c.inside_groups.new.best.fault c.field_names.new.best.fault best (bare ++ names) (faults.inside_groups emb known (group_trees gs)) second third)

pub check_inside-returns-in_ok-arm_labels-in-Choice : goal.check_inside-returns-in_ok-arm_labels-in-Choice
check_inside-returns-in_ok-arm_labels-in-Choice g t c =
    let emb = g.C.WithTypeCauses.embed in
    let known = g.N.TypeNames.unknown_place c.args.names.now in
    let best = c.args.best.now.fault in
    let at = c.args.shape.now.at in
    let arms = c.in-Choice.arms in
    let labels = faults.labels_faults emb faults.no_name no_number (faults.arm_labels (arm_trees arms)) in
    let first : c.arm_labels.new.best.fault ≡ least_from g.C.Cause.rank best labels =
    c.in_ok-arm_labels-in-Choice.ensures
    ∙ ap (λ ts. least_from g.C.Cause.rank best (faults.labels_faults emb faults.no_name no_number (faults.arm_labels (arm_trees ts)))) c.as_slice-in-Choice.ensures in
    let second = subst (λ ts. OnOk c.inside_arms.result (c.inside_arms.new.best.fault ≡ least_from g.C.Cause.rank c.arm_labels.new.best.fault (faults.inside_arms emb known (arm_trees ts)))) c.as_slice-in-Choice-2.ensures c.inside_arms.ensures in
    subst (λ k. OnOk c.inside_arms.result (c.inside_arms.new.best.fault ≡ least_from g.C.Cause.rank best (faults.inside emb known (tree_at at k)))) (sym c.in-Choice.is)
    (onward_least g.C.Cause.rank c.inside_arms.result c.inside_arms.new.best.fault c.arm_labels.new.best.fault best labels (faults.inside_arms emb known (arm_trees arms)) first second)

pub inside_arms-loop-arm-preserved : goal.inside_arms-loop-arm-preserved
inside_arms-loop-arm-preserved g t c =
    let emb = g.C.WithTypeCauses.embed in
    let known = g.N.TypeNames.unknown_place c.args.names.now in
    let a = c.arm-item.result in
    let best = c.loop-arm.best.fault in
    let left = drop_more c.args.arms.now c.loop-arm.arm-index a c.loop-arm-test.true c.arm-item.is in
    let rest = faults.inside_arms emb known (arm_trees (map arm_of (drop (c.loop-arm.arm-index + 1) c.args.arms.now))) in
    let this = cond (faults.is_empty_record (tree_of a.shape)) [] (faults.inside emb known (tree_of a.shape)) in
    let before = ap (λ ts. least_from g.C.Cause.rank best (faults.inside_arms emb known (arm_trees (map arm_of ts)))) (sym left) ∙ c.loop-arm.invariant in
    let found : c.if-not-is_empty_record.best.fault ≡ least_from g.C.Cause.rank best this = elim c.if-not-is_empty_record.branch [
      | inside_arms-then-not-is_empty_record+in_ok-check_inside w ↦ ap (λ (b : Best g.row.C.Denot). b.fault) w.best-is ∙ w.in_ok-check_inside.ensures ∙ ap (λ b. least_from g.C.Cause.rank best (cond b [] (faults.inside emb known (tree_of a.shape)))) (sym (sym c.is_empty_record.ensures ∙ w.if-not-is_empty_record.true))
      | inside_arms-else-not-is_empty_record w ↦ ap (λ (b : Best g.row.C.Denot). b.fault) w.best-is ∙ ap (λ b. least_from g.C.Cause.rank best (cond b [] (faults.inside emb known (tree_of a.shape)))) (sym (sym c.is_empty_record.ensures ∙ w.if-not-is_empty_record.false))
    ] in
    least_step g.C.Cause.rank c.if-not-is_empty_record.best.fault best _ this rest found before
