-- The causes of types among those of interfaces.
use Rattle.circus_type.specs.declared.cause.TypeCause.{TypeCause}
use Rattle.circus_type.specs.declared.cause.TypeCause.TheVariants as given
use Rattle.circus_idl.specs.declared.fault.Cause.{Cause}
use Rattle.circus_idl.specs.declared.fault.Cause.TheVariants.{Unknown, Repeated, OutOfRange, TooLarge}

abbrev pub of_type : TypeCause → Cause
of_type given.Unknown = Unknown
of_type given.Repeated = Repeated
of_type given.OutOfRange = OutOfRange
of_type given.TooLarge = TooLarge
