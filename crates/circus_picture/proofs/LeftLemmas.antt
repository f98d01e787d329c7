-- The rows of what was never delivered, where there are any.
use Rattle.std.proofs.Common.{◌≡◌, ℕ, Bool, true, false, List, [], ◌∷◌, ◌++◌, length, eqb, refl, sym, ◌∙◌}
use Rattle.std.specs.List.{flat_map}
use Rattle.circus_picture.specs.Rows.{Scene, count_row, left_row, left_rows}

pub left-some : (scene : Scene) (step : ℕ) (left : List ℕ) (empty : Bool) → empty ≡ eqb (length left) 0 → empty ≡ false
    → left_rows scene step left ≡ count_row scene step (length left) ++ flat_map (left_row scene step) left
left-some scene step [] empty is some = let clash : true ≡ false = sym is ∙ some in absurd (cc)
left-some scene step (first ∷ others) empty is some = refl
