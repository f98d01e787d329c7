-- The order of causes.
use Rattle.std.specs.Prelude.{ℕ}
use Rattle.circus_idl.specs.declared.fault.Cause.{Cause}
use Rattle.circus_idl.specs.declared.fault.Cause.TheVariants.{Expected, Deep, Unknown, Repeated, OutOfRange, TooLarge}

-- which cause is given at one place: the one of the least rank
abbrev pub rank_of : Cause → ℕ
rank_of Expected = 0
rank_of Deep = 1
rank_of Unknown = 2
rank_of Repeated = 3
rank_of OutOfRange = 4
rank_of TooLarge = 5
