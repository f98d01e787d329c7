use Rattle.std.proofs.Common.{◌≡◌, drop, map}
use Rattle.std.specs.Prelude.{IfNone}
use Rattle.circus_syntax.specs.InterfaceTree.{declared_of}
use Rattle.circus_fault.specs.Least.{least_from}
use Rattle.circus_fault.specs.Seen.Tables.{known_of}
use Rattle.circus_idl.specs.Rank.{rank_of}
use Rattle.circus_idl.specs.Seen.Known.{type_form}
use Rattle.circus_idl.specs.Seen.Scoped.{before_of, cut_in}
use Rattle.circus_idl.specs.Seen.Drafted.{draft_meaning}
use Rattle.circus_idl.specs.InRange.{AreWords}
use Rattle.circus_idl.specs.Faults.{declarations_faults}
use Rattle.circus_idl.specs.Means.{and_then, declarations_meant}
use Rattle.circus_type.specs.Seen.Measured.{cut_off}
use Rattle.circus_idl.proofs.check.declare_all.Given as goal

-- the declarations that are left decide with what is kept
abbrev pub invariant-loop-item : goal.invariant-loop-item
invariant-loop-item l = record {
  found :
      least_from rank_of l.draft.scope.best.fault (declarations_faults cut_off (cut_in l.draft.scope) (before_of l.draft.scope) (map declared_of (drop l.item-index l.declared)))
      ≡ least_from rank_of l.fn.draft.scope.best.fault (declarations_faults cut_off (cut_in l.fn.draft.scope) (before_of l.fn.draft.scope) (map declared_of l.declared));
  meant : IfNone l.draft.scope.best.fault
      (and_then (draft_meaning l.draft) (declarations_meant (type_form l.draft.scope.types) (known_of l.draft.scope.errors) (map declared_of (drop l.item-index l.declared)))
      ≡ and_then (draft_meaning l.fn.draft) (declarations_meant (type_form l.fn.draft.scope.types) (known_of l.fn.draft.scope.errors) (map declared_of l.declared)));
  errors : IfNone l.draft.scope.best.fault (AreWords (known_of l.draft.scope.errors));
}
