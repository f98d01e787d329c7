-- Values against values, item by item.
use Rattle.std.proofs.Common.{◌≡◌, ℕ, suc, ◌+◌, ◌<◌, false, ◌&&◌, List, [], ◌∷◌, length, get_or, drop, map, refl, sym, ap, ◌∙◌}
use Rattle.std.proofs.Math.Bool.{and-false}
use Rattle.std.proofs.lemmas.List.{drop_more}
use Rattle.circus_value.specs.ValueTree.{ValueTree, value_trees}
use Rattle.circus_value.specs.ValueOf.{tree_of}
use Rattle.circus_value.specs.ValueEquality.{value_eq, items_eq}
use Rattle.circus_value.specs.declared.value.Value.{Value}

-- lists of two lengths
pub items_differ : (ts us : List ValueTree) → (length ts ≡ length us → ⊥) → items_eq (value_trees ts) (value_trees us) ≡ false
items_differ [] [] differs = absurd (differs refl)
items_differ [] (u ∷ us) differs = refl
items_differ (t ∷ ts) [] differs = refl
items_differ (t ∷ ts) (u ∷ us) differs =
    ap (λ b. value_eq t u && b) (items_differ ts us (λ same. differs (ap suc same))) ∙ and-false (value_eq t u)

-- the items at a place, and those behind them
pub items_step : (vs ws : List Value) (i : ℕ) (v w : Value) → i < length vs → i < length ws → v ≡ get_or vs i v → w ≡ get_or ws i w
    → items_eq (value_trees (map tree_of (drop i vs))) (value_trees (map tree_of (drop i ws)))
    ≡ (value_eq (tree_of v) (tree_of w) && items_eq (value_trees (map tree_of (drop (i + 1) vs))) (value_trees (map tree_of (drop (i + 1) ws))))
items_step vs ws i v w few many is is' =
    let one : drop i vs ≡ v ∷ drop (i + 1) vs = drop_more vs i v few ∙ ap (λ x. x ∷ drop (i + 1) vs) (sym is) in
    let other : drop i ws ≡ w ∷ drop (i + 1) ws = drop_more ws i w many ∙ ap (λ x. x ∷ drop (i + 1) ws) (sym is') in
    λ j. items_eq (value_trees (map tree_of (one j))) (value_trees (map tree_of (other j)))
