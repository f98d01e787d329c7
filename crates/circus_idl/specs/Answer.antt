-- The answer that a fault gives.
use Rattle.circus_fault.specs.declared.fault.Fault.{Fault}
use Rattle.circus_idl.specs.declared.fault.Cause.{Cause}
use Rattle.circus_idl.specs.declared.fault.Cause.TheVariants as cause
use Rattle.circus_idl.specs.declared.idl_fault.IdlFault.{IdlFault}
use Rattle.circus_idl.specs.declared.idl_fault.IdlFault.TheVariants.{Expected, Deep, Unknown, Repeated, OutOfRange, TooLarge}
use Rattle.std.specs.Prelude.{ℕ}

abbrev pub answer_at : ℕ → Cause → IdlFault
answer_at place cause.Expected = Expected place
answer_at place cause.Deep = Deep place
answer_at place cause.Unknown = Unknown place
answer_at place cause.Repeated = Repeated place
answer_at place cause.OutOfRange = OutOfRange place
answer_at place cause.TooLarge = TooLarge place

abbrev pub answer_of : Fault Cause → IdlFault
answer_of f = answer_at f.place f.cause
