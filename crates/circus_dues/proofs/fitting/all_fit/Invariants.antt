use Rattle.std.proofs.Common.{◌≡◌, drop, map}
use Rattle.circus_value.specs.ValueOf.{tree_of}
use Rattle.circus_value.specs.Fits.{all_fit}
use Rattle.circus_dues.proofs.fitting.all_fit.Given as goal

-- the shapes and the values that are left decide
abbrev pub invariant-loop-place : goal.invariant-loop-place
invariant-loop-place l = all_fit (drop l.place l.shapes) (map tree_of (drop l.place l.value-items)) ≡ all_fit l.fn.shapes l.values
