-- Where reading stopped, as a fault of the text.
use Rattle.std.specs.Prelude.{true, List, [], Option, Some, None}
use Rattle.circus_syntax.specs.declared.stopping.Stop.{Stop}
use Rattle.circus_syntax.specs.declared.stopping.StopCause.{StopCause}
use Rattle.circus_syntax.specs.declared.stopping.StopCause.TheVariants.{Unexpected, TooDeep}
use Rattle.circus_fault.specs.declared.fault.Fault.{Fault}
use Rattle.circus_fault.specs.Least.{faults_if}

-- the cause of a stop, of the one of a token that nothing continues with and the one of too many levels
abbrev pub cause_of : {C : Type 0} → C → C → StopCause → C
cause_of unexpected too_deep Unexpected = unexpected
cause_of unexpected too_deep TooDeep = too_deep

-- a stop is a fault at its place
abbrev pub stop_faults : {C : Type 0} → C → C → Option Stop → List (Fault C)
stop_faults unexpected too_deep None = []
stop_faults unexpected too_deep (Some s) = faults_if true s.place (cause_of unexpected too_deep s.cause)
