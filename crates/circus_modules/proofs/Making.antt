-- Bodies and modules made one after the other.
use Rattle.std.proofs.Common.{◌≡◌, List, [], ◌∷◌, ◌++◌, map, sym, subst, refl, ap, ◌∙◌, Option, ℕ}
use Rattle.std.specs.List.{AllByRecursion}
use Rattle.std.proofs.lemmas.List.{map-append}
use Rattle.circus_machine.specs.declared.body.Body.{Body as Compiled}
use Rattle.circus_check.specs.declared.checked.CheckedBody.{CheckedBody}
use Rattle.circus_check.specs.declared.checked.ResolvedModule.{ResolvedModule}
use Rattle.circus_check.specs.Resolved.{body_as, module_as}
use Rattle.circus_modules.specs.Signatures.{interface_numbers}
use Rattle.circus_modules.specs.Seen.Made.{IsMade, AreMade}

-- what holds of all that are left holds of the first, and of the others
pub first_and_others : {X Y : Type 0} (P : Y → Type 0) (f : X → Y) (left others : List X) (x : X) → left ≡ x ∷ others → AllByRecursion P (map f left) → P (f x) × AllByRecursion P (map f others)
first_and_others P f left others x is all = subst (λ xs. AllByRecursion P (map f xs)) is all

more_made : (bodies : List CheckedBody) (b : CheckedBody) (made : List Compiled) (one : Compiled) → AreMade (map body_as bodies) made → IsMade (body_as b) one → AreMade (map body_as (bodies ++ b ∷ [])) (made ++ one ∷ [])
more_made [] b [] one are is = (is, tt)
more_made [] b (_ ∷ _) one are is = absurd are
more_made (_ ∷ _) b [] one are is = absurd are
more_made (a ∷ bodies) b (m ∷ made) one are is = (are.0, more_made bodies b made one are.1 is)

-- a body more
pub made_with : (bodies : List CheckedBody) (b : CheckedBody) (made all : List Compiled) (one : Compiled) → all ≡ made ++ one ∷ [] → AreMade (map body_as bodies) made → IsMade (body_as b) one → AreMade (map body_as (bodies ++ b ∷ [])) all
made_with bodies b made all one grown are is = subst (AreMade (map body_as (bodies ++ b ∷ []))) (sym grown) (more_made bodies b made one are is)

-- what modules implement
pub implemented_as : (modules : List ResolvedModule) → map (λ (m : ResolvedModule). m.interface) modules ≡ interface_numbers (map module_as modules)
implemented_as [] = refl
implemented_as (m ∷ modules) = ap (λ (numbers : List (Option ℕ)). m.interface ∷ numbers) (implemented_as modules)

-- an image more
pub image_more : {X Y Z W : Type 0} (f : X → Z) (g : W → Z) (h : Y → W) (made all : List X) (items : List Y) (x : X) (y : Y) → all ≡ made ++ x ∷ [] → map f made ≡ map g (map h items) → f x ≡ g (h y)
    → map f all ≡ map g (map h (items ++ y ∷ []))
image_more f g h made all items x y grown so is =
    ap (map f) grown
    ∙ map-append f made (x ∷ [])
    ∙ (λ i. so i ++ is i ∷ [])
    ∙ sym (map-append g (map h items) (h y ∷ []))
    ∙ ap (map g) (sym (map-append h items (y ∷ [])))
