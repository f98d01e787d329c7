-- What expressions of a sort may give, and variables that hold values of their shapes.
use Rattle.std.specs.Prelude.{IsTrue, List, [], ◌∷◌}
use Rattle.circus_value.specs.ShapeTree.{ShapeTree}
use Rattle.circus_value.specs.ValueTree.{ValueTree}
use Rattle.circus_value.specs.Fits.{fits}
use Rattle.circus_checked.specs.Sorts.{Sort, a_number, of}
use Rattle.circus_evaluate.specs.Got.{Got, number, whole}

-- what an expression of a sort may give
abbrev pub IsGot : Sort → Got → Type 0
IsGot a_number (number z) = Unit {0}
IsGot a_number (whole t) = ⊥
IsGot (of s) (number z) = ⊥
IsGot (of s) (whole t) = IsTrue (fits s t)

-- values of these shapes, one of each, in order
abbrev pub Hold : List ShapeTree → List ValueTree → Type 0
Hold [] [] = Unit {0}
Hold [] (t ∷ ts) = ⊥
Hold (s ∷ shapes) [] = ⊥
Hold (s ∷ shapes) (t ∷ ts) = IsTrue (fits s t) × Hold shapes ts
