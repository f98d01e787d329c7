use Rattle.std.proofs.Common.{◌∙◌, ◌+◌, ap, sym, map, drop}
use Rattle.circus_syntax.specs.TypeOf.{group_of}
use Rattle.circus_syntax.specs.TypeTree.{group_trees}
use Rattle.circus_fault.specs.Least.{least_from}
use Rattle.circus_idl.specs.Rank.{rank_of}
use Rattle.circus_idl.specs.Seen.Known.{type_measure}
use Rattle.circus_idl.specs.Faults.{groups_parts}
use Rattle.circus_type.specs.Seen.Measured.{cut_off}
use Rattle.circus_type.proofs.Dropped.{drop_more}
use Rattle.circus_idl.proofs.ScopeMore.{found_by, groups_step, counted_step, keeps_step}
use Rattle.circus_idl.proofs.scope.Scope.groups.Goals as goal

pub loop-group-preserved : goal.loop-group-preserved
loop-group-preserved c =
    let s = c.loop-group.self in
    let s' = c.whole.new.self in
    let g = c.group-item.result in
    let rest = group_trees (map group_of (drop (c.loop-group.group-index + 1) c.args.groups.now)) in
    let left = drop_more c.args.groups.now c.loop-group.group-index g c.loop-group-test.true c.group-item.is in
    record {
      found = groups_step s s' g c.len.result rest _ c.len.ensures c.in_ok-whole.ensures.others c.in_ok-whole.ensures.found
          (ap (λ gs. least_from rank_of s.best.fault (found_by s (group_trees (map group_of gs)))) (sym left) ∙ c.loop-group.invariant.found);
      counted = counted_step s s' g c.len.result rest _ c.len.ensures c.in_ok-whole.ensures.others
          (ap (λ gs. groups_parts cut_off (type_measure s.types) s.parts (group_trees (map group_of gs))) (sym left) ∙ c.loop-group.invariant.counted);
      others = keeps_step c.args.self.now s s' _ c.loop-group.invariant.others c.in_ok-whole.ensures.others;
    }
