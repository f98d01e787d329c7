-- The order of causes.
use Rattle.std.specs.Prelude.{ℕ}
use Rattle.circus_config.specs.declared.program_fault.ProgramCause.{ProgramCause}
use Rattle.circus_config.specs.declared.program_fault.ProgramCause.TheVariants.{BadCharacter, OpenString, LongNumber, Syntax, Deep, UnknownName, Repeated, OutOfRange, TooLarge, Mistyped, NoReturn, Forward, Shared, Missing, TooMany}

-- which cause is given at one place: the one of the least rank
abbrev pub rank_of : ProgramCause → ℕ
rank_of BadCharacter = 0
rank_of OpenString = 1
rank_of LongNumber = 2
rank_of Syntax = 3
rank_of Deep = 4
rank_of UnknownName = 5
rank_of Repeated = 6
rank_of OutOfRange = 7
rank_of TooLarge = 8
rank_of Mistyped = 9
rank_of NoReturn = 10
rank_of Forward = 11
rank_of (Shared _ _ _) = 12
rank_of (Missing _) = 13
rank_of TooMany = 14
