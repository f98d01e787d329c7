-- The types of fields, one after the other.
use Rattle.std.proofs.Common.{◌≡◌, ℕ, ◌+◌, ◌<◌, List, [], ◌∷◌, ◌++◌, length, get_or, drop, map, sym, ◌∙◌, ap, append_assoc, drop-cons, add-one}
use Rattle.circus_value.specs.declared.shape.Shape.{Shape}
use Rattle.circus_value.specs.declared.shape.Field.{Field}
use Rattle.circus_value.specs.ShapeOf.{field_of}
use Rattle.circus_value.proofs.ShapeBack.{shape_back}
use Rattle.circus_modules.specs.InterfaceSignatures.{shapes_in}

-- the types that are left, behind a copy of the type of a field more
pub shapes_more : (fields : List Field) (i : ℕ) (f : Field) (shapes more whole : List Shape) (copy : Shape)
    → i < length fields → f ≡ get_or fields i f → copy ≡ f.shape → more ≡ shapes ++ copy ∷ []
    → shapes ++ shapes_in (map field_of (drop i fields)) ≡ whole → more ++ shapes_in (map field_of (drop (i + 1) fields)) ≡ whole
shapes_more fields i f shapes more whole copy below is same grown before =
    ap (λ xs. xs ++ shapes_in (map field_of (drop (i + 1) fields))) grown
    ∙ append_assoc shapes (copy ∷ []) (shapes_in (map field_of (drop (i + 1) fields)))
    ∙ ap (λ s. shapes ++ s ∷ shapes_in (map field_of (drop (i + 1) fields))) (same ∙ sym (shape_back f.shape))
    ∙ ap (λ fs. shapes ++ shapes_in (map field_of fs)) (sym (rw add-one (drop-cons fields i f below) ∙ ap (λ g. g ∷ drop (i + 1) fields) (sym is)))
    ∙ before
