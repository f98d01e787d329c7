-- The texts of a thread's clock and of a call path.
use Rattle.std.specs.Prelude.{ℕ, List, [], ◌∷◌, ◌++◌}
use Rattle.std.specs.Fmt.{decimal}

-- each number behind this byte
abbrev pub numbers_behind : ℕ → List ℕ → List ℕ
numbers_behind byte [] = []
numbers_behind byte (n ∷ numbers) = byte ∷ (decimal n ++ numbers_behind byte numbers)

-- counts with a comma between two
abbrev pub clock_text : List ℕ → List ℕ
clock_text [] = []
clock_text (n ∷ clock) = decimal n ++ numbers_behind 44 clock

-- a root's name, then a point and a number for each ask
abbrev pub path_text : List ℕ → List ℕ → List ℕ
path_text root path = root ++ numbers_behind 46 path
