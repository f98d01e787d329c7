use Rattle.std.proofs.Common.{◌≡◌, ◌+◌, ◌∙◌, ap, sym, map, drop}
use Rattle.circus_syntax.specs.TypeTree.{group_trees}
use Rattle.circus_syntax.specs.TypeOf.{group_of}
use Rattle.circus_fault.specs.Least.{least_from}
use Rattle.circus_fault.specs.Seen.Tables.{holds_name}
use Rattle.circus_type.specs.Inside.{repeated_names, group_names, also_names}
use Rattle.circus_type.proofs.Dropped.{drop_more}
use Rattle.circus_type.proofs.LeastMore.{names_more}
use Rattle.circus_type.proofs.inner.field_names.Goals as goal

pub loop-group-preserved : goal.loop-group-preserved
loop-group-preserved g c =
    let best = c.loop-group.best.fault in
    let earlier = holds_name c.loop-group.names in
    let one = c.group-item.result in
    let rest = group_names (group_trees (map group_of (drop (c.loop-group.group-index + 1) c.args.groups.now))) in
    let left = drop_more c.args.groups.now c.loop-group.group-index one c.loop-group-test.true c.group-item.is in
    let found : c.meet_names.new.best.fault ≡ least_from g.C.Cause.rank best (repeated_names g.C.WithTypeCauses.embed earlier one.names) = c.in_ok-meet_names.ensures.found ∙ ap (λ ns. least_from g.C.Cause.rank best (repeated_names g.C.WithTypeCauses.embed earlier ns)) c.as_slice.ensures in
    let added : holds_name c.meet_names.new.names ≡ also_names one.names earlier = c.in_ok-meet_names.ensures.added ∙ ap (λ ns. also_names ns earlier) c.as_slice.ensures in
    ap (λ b. least_from g.C.Cause.rank b (repeated_names g.C.WithTypeCauses.embed (holds_name c.meet_names.new.names) rest)) found
    ∙ ap (λ e. least_from g.C.Cause.rank (least_from g.C.Cause.rank best (repeated_names g.C.WithTypeCauses.embed earlier one.names)) (repeated_names g.C.WithTypeCauses.embed e rest)) added
    ∙ sym (names_more g.C.Cause.rank g.C.WithTypeCauses.embed best earlier one.names rest)
    ∙ ap (λ gs. least_from g.C.Cause.rank best (repeated_names g.C.WithTypeCauses.embed earlier (group_names (group_trees (map group_of gs))))) (sym left)
    ∙ c.loop-group.invariant
