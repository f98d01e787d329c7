-- Where reading came to its end.
use Rattle.std.proofs.Common.{◌≡◌, [], Option, Some, None, refl}
use Rattle.circus_syntax.specs.declared.stopping.Stop.{Stop}
use Rattle.circus_fault.specs.Stopping.{stop_faults}

pub no_stop : {C : Type 0} (unexpected too_deep : C) (stop : Option Stop) → stop_faults unexpected too_deep stop ≡ [] → stop ≡ None
no_stop unexpected too_deep None none = refl
no_stop unexpected too_deep (Some s) none = absurd (cc)
