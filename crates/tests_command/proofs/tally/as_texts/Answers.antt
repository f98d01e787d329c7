use Rattle.std.proofs.Common.{◌≡◌, ◌∙◌, List, map, Ok, Err, ap, rules}
use Rattle.std.specs.Prelude.{IfOk, Result}
use Rattle.std.proofs.lemmas.Simd.{map-map}
use Rattle.tests_command.specs.declared.either.Either.TheVariants.{First}
use Rattle.tests_command.proofs.tally.as_texts.Goals as goal

through : {T E A B C : Type 0} (items : T → List B) (f : A → B) (g : B → C) (xs : List A) (r : Result T E) → IfOk r (λ t. items t ≡ map f xs) → IfOk r (λ t. map g (items t) ≡ map (λ x. g (f x)) xs)
through items f g xs (Ok t) is = ap (map g) is ∙ map-map g f xs
through items f g xs (Err e) is = tt

pub returns : goal.returns
returns c = through (λ modules. modules.items) First _ c.args.texts.items c.collect.result (search rules)
