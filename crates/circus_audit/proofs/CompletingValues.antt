-- The texts of values and outcomes that fit are read.
use Rattle.std.proofs.Common.{◌≡◌, ◌∙◌, ℕ, Bool, true, false, ◌&&◌, List, [], ◌∷◌, ◌++◌, Some, refl, sym, ap, append_assoc}
use Rattle.circus_value.specs.ValueTree.{ValueTree, ValueTrees, none, more, value_trees}
use Rattle.circus_value.specs.ShapeOf.{tree_of}
use Rattle.circus_value.specs.Fits.{fits, all_fit}
use Rattle.circus_value.specs.Shown.{text_of_value, shown_items, shown_others, shown_list}
use Rattle.circus_value.specs.declared.shape.Shape.{Shape}
use Rattle.circus_value_text.specs.Reading.{and_then, behind, comma, one_more, reading}
use Rattle.circus_value_text.specs.Stopping.{Stops}
use Rattle.circus_value_text.proofs.Marks.{passed_front, between_complete}
use Rattle.circus_value_text.proofs.Inverse.{shown_behind, complete}
use Rattle.circus_audit.specs.Seen.Values.{value_behind, shapes_read, values_read, values_behind}
use Rattle.circus_audit.proofs.Completing.{Completes, behind_complete}

both_of : (a b : Bool) → (a && b) ≡ true → (a ≡ true) × (b ≡ true)
both_of true b is = (refl, is)
both_of false b is = cc

-- ---- lists of values

items_behind : (ts : ValueTrees) → shown_behind [] ts ≡ shown_items ts
items_behind none = refl
items_behind (more t ts) = refl

commas : (ts : ValueTrees) → shown_behind comma ts ≡ shown_others ts
commas none = refl
commas (more t ts) = refl

later_stops : (ts : ValueTrees) (rest : List ℕ) → Stops rest → Stops (shown_behind comma ts ++ rest)
later_stops none rest stop = stop
later_stops (more t ts) rest stop = refl

behind_text : (mark : List ℕ) (t : ValueTree) (ts : ValueTrees) (rest : List ℕ) → shown_behind mark (more t ts) ++ rest ≡ mark ++ (text_of_value t ++ (shown_behind comma ts ++ rest))
behind_text mark t ts rest =
    append_assoc mark (text_of_value t ++ shown_others ts) rest
    ∙ ap (λ x. mark ++ x) (append_assoc (text_of_value t) (shown_others ts) rest)
    ∙ ap (λ x. mark ++ (text_of_value t ++ (x ++ rest))) (sym (commas ts))

shapes_complete : (shapes : List Shape) (mark : List ℕ) (ts : List ValueTree) (rest : List ℕ) → all_fit shapes ts ≡ true → Stops rest → shapes_read shapes mark (shown_behind mark (value_trees ts) ++ rest) ≡ Some (ts, rest)
shapes_complete [] mark [] rest fit stop = refl
shapes_complete [] mark (t ∷ ts) rest fit stop = cc
shapes_complete (shape ∷ shapes) mark [] rest fit stop = cc
shapes_complete (shape ∷ shapes) mark (t ∷ ts) rest fit stop =
    let both = both_of (fits (tree_of shape) t) (all_fit shapes ts) fit in
    let later = shown_behind comma (value_trees ts) ++ rest in
    let go_on = λ (u : ValueTree) (more_text : List ℕ). one_more u (shapes_read shapes comma more_text) in
    ap (λ x. and_then (value_behind mark shape x) go_on) (behind_text mark t (value_trees ts) rest)
    ∙ ap (λ r. and_then (behind r (reading (tree_of shape))) go_on) (passed_front mark (text_of_value t ++ later))
    ∙ ap (λ r. and_then r go_on) (complete (tree_of shape) t later both.0 (later_stops (value_trees ts) rest stop))
    ∙ ap (one_more t) (shapes_complete shapes comma ts rest both.1 stop)

pub values_complete : (shapes : List Shape) → Completes (values_read shapes) shown_list (λ ts. all_fit shapes ts ≡ true)
values_complete shapes ts rest fit ends =
    let us = value_trees ts in
    ap (λ x. values_read shapes (91 ∷ x)) (append_assoc (shown_items us) (93 ∷ []) rest ∙ ap (λ x. x ++ (93 ∷ rest)) (sym (items_behind us)))
    ∙ between_complete (91 ∷ []) (93 ∷ []) (shown_behind [] us) rest (shapes_read shapes []) ts (shapes_complete shapes [] ts (93 ∷ rest) fit refl)

pub values_behind_complete : (mark : List ℕ) (shapes : List Shape) → Completes (values_behind mark shapes) (λ ts. mark ++ shown_list ts) (λ ts. all_fit shapes ts ≡ true)
values_behind_complete mark shapes = behind_complete mark (values_read shapes) shown_list (λ ts. all_fit shapes ts ≡ true) (values_complete shapes)
