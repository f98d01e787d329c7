-- The order of causes.
use Rattle.std.specs.Prelude.{ℕ}
use Rattle.circus_place.specs.declared.place_fault.PlaceCause.{PlaceCause}
use Rattle.circus_place.specs.declared.place_fault.PlaceCause.TheVariants.{BadCharacter, OpenString, LongNumber, Syntax, Deep, UnknownName, Repeated, OutOfRange, TooLarge, TooMany}

-- which cause is given at one place: the one of the least rank
abbrev pub rank_of : PlaceCause → ℕ
rank_of BadCharacter = 0
rank_of OpenString = 1
rank_of LongNumber = 2
rank_of Syntax = 3
rank_of Deep = 4
rank_of UnknownName = 5
rank_of Repeated = 6
rank_of OutOfRange = 7
rank_of TooLarge = 8
rank_of TooMany = 9
