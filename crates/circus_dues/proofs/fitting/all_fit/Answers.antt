use Rattle.std.proofs.Common.{◌≡◌, Bool, true, false, ◌&&◌, List, [], ◌∷◌, length, refl, sym, ap, ◌∙◌, suc}
use Rattle.circus_value.specs.declared.shape.Shape.{Shape}
use Rattle.circus_value.specs.ShapeOf.{tree_of}
use Rattle.circus_value.specs.ValueTree.{ValueTree}
use Rattle.circus_value.specs.Fits.{fits, all_fit}
use Rattle.circus_dues.proofs.fitting.all_fit.Goals as goal

behind : (b rest : Bool) → false ≡ rest → false ≡ (b && rest)
behind true rest is = is
behind false rest is = refl

-- as many values as shapes fit, or none do
as_many : (shapes : List Shape) (ts : List ValueTree) → (length shapes ≡ length ts → ⊥) → false ≡ all_fit shapes ts
as_many [] [] other = absurd (other refl)
as_many [] (t ∷ ts) other = refl
as_many (s ∷ shapes) [] other = refl
as_many (s ∷ shapes) (t ∷ ts) other = behind (fits (tree_of s) t) (all_fit shapes ts) (as_many shapes ts (λ same. other (ap suc same)))

pub returns-then-len : goal.returns-then-len
returns-then-len c = as_many c.args.shapes.now c.args.values.now (λ same. c.if-len.true (c.len.ensures ∙ same ∙ sym c.len-2.ensures))
