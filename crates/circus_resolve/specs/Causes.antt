-- The order of causes at one place, and the causes of types among them.
use Rattle.std.specs.Prelude.{ℕ}
use Rattle.circus_type.specs.declared.cause.TypeCause.{TypeCause}
use Rattle.circus_type.specs.declared.cause.TypeCause.TheVariants as given
use Rattle.circus_resolve.specs.declared.cause.CheckCause.{CheckCause}
use Rattle.circus_resolve.specs.declared.cause.CheckCause.TheVariants.{Unknown, Repeated, OutOfRange, TooLarge, Mistyped, Unfinished, Forward, Shared, Missing, TooMany}

-- which cause is given at one place: the one of the least rank
abbrev pub rank : CheckCause → ℕ
rank Unknown = 0
rank Repeated = 1
rank OutOfRange = 2
rank TooLarge = 3
rank Mistyped = 4
rank Unfinished = 5
rank Forward = 6
rank Shared = 7
rank Missing = 8
rank TooMany = 9

abbrev pub of_type : TypeCause → CheckCause
of_type given.Unknown = Unknown
of_type given.Repeated = Repeated
of_type given.OutOfRange = OutOfRange
of_type given.TooLarge = TooLarge
