use Rattle.std.proofs.Common.{◌≡◌}
use Rattle.std.specs.Prelude.{replicate}
use Rattle.circus_value.specs.ValueOf.{tree_of}
use Rattle.circus_modules.proofs.zero.copies.Given as goal

-- the copies so far
abbrev pub invariant-loop-copy : goal.invariant-loop-copy
invariant-loop-copy l = record {
  made : l.values ≡ replicate l._copy (tree_of l.value);
  same : l.value ≡ l.fn.value;
}
