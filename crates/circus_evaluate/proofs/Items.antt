-- Values in order, as lists and as trees.
use Rattle.std.proofs.Common.{◌≡◌, suc, List, [], ◌∷◌, length, refl, ap}
use Rattle.circus_value.specs.ValueTree.{ValueTree, value_trees}
use Rattle.circus_value.specs.Fits.{count_of}
use Rattle.circus_evaluate.specs.Parts.{list_of}

pub count_of_trees : (ts : List ValueTree) → count_of (value_trees ts) ≡ length ts
count_of_trees [] = refl
count_of_trees (t ∷ ts) = ap (λ n. suc n) (count_of_trees ts)

pub list_of_trees : (ts : List ValueTree) → list_of (value_trees ts) ≡ ts
list_of_trees [] = refl
list_of_trees (t ∷ ts) = ap (λ us. t ∷ us) (list_of_trees ts)
