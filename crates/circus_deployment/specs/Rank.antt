-- The order of causes.
use Rattle.std.specs.Prelude.{ℕ}
use Rattle.circus_deployment.specs.declared.cause.Cause.{Cause}
use Rattle.circus_deployment.specs.declared.cause.Cause.TheVariants.{Unknown, Repeated, OutOfRange, Missing, TooMany}

-- which cause is given at one place: the one of the least rank
abbrev pub rank_of : Cause → ℕ
rank_of Unknown = 0
rank_of Repeated = 1
rank_of OutOfRange = 2
rank_of Missing = 3
rank_of TooMany = 4
