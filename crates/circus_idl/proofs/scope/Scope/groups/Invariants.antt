use Rattle.std.proofs.Common.{◌≡◌, drop, map}
use Rattle.circus_syntax.specs.TypeTree.{group_trees}
use Rattle.circus_syntax.specs.TypeOf.{group_of}
use Rattle.circus_fault.specs.Least.{least_from}
use Rattle.circus_idl.specs.Rank.{rank_of}
use Rattle.circus_idl.specs.Seen.Known.{is_known, type_measure}
use Rattle.circus_idl.specs.Seen.Scoped.{cut_in}
use Rattle.circus_idl.specs.Faults.{groups_faults, groups_parts}
use Rattle.circus_type.specs.Seen.Measured.{cut_off}
use Rattle.circus_idl.proofs.scope.Scope.groups.Given as goal

-- the groups that are left decide with what is kept
abbrev pub invariant-loop-group : goal.invariant-loop-group
invariant-loop-group l = record {
  found :
      least_from rank_of l.self.best.fault (groups_faults cut_off (cut_in l.self) (is_known l.self.types) (type_measure l.self.types) l.self.parts (group_trees (map group_of (drop l.group-index l.groups))))
      ≡ least_from rank_of l.fn.self.best.fault (groups_faults cut_off (cut_in l.fn.self) (is_known l.fn.self.types) (type_measure l.fn.self.types) l.fn.self.parts (group_trees (map group_of l.groups)));
  counted :
      groups_parts cut_off (type_measure l.self.types) l.self.parts (group_trees (map group_of (drop l.group-index l.groups)))
      ≡ groups_parts cut_off (type_measure l.fn.self.types) l.fn.self.parts (group_trees (map group_of l.groups));
  others : l.self ≡ record l.fn.self { best = l.self.best; parts = l.self.parts };
}
