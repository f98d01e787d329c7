use Rattle.std.proofs.Common.{◌≡◌, ℕ, Some, length}
use Rattle.std.specs.Prelude.{slice_get}
use Rattle.circus_idl.specs.declared.interface.Interface.{Interface}
use Rattle.circus_check.specs.declared.known.Known.{Known}
use Rattle.circus_check.specs.Seen.Known.{TellsInterface}
use Rattle.circus_check.proofs.checking.known_all.Given as goal

abbrev pub invariant-loop-interface : goal.invariant-loop-interface
invariant-loop-interface l = record {
  as_many : length l.known.items ≡ l.interface-index;
  each : (n : ℕ) (k : Known) (i : Interface) → slice_get l.known.items n ≡ Some k → slice_get l.interfaces n ≡ Some i → TellsInterface k i;
}
