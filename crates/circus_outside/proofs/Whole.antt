-- What is read up to a limit is all, where it is below the limit.
use Rattle.std.proofs.Common.{◌≡◌, ℕ, ◌<◌, ◌≤◌, List, [], ◌++◌, length, take, Option, Some, None, subst, ap, ◌∙◌, arith}
use Rattle.std.specs.Prelude.{IfSome}
use Rattle.std.specs.Option.{option_map}
use Rattle.std.proofs.lemmas.List.{take_all, length-take}

whole_below : (left : Option (List ℕ)) (limit : ℕ) (start bytes given : List ℕ) → IfSome (option_map (take limit) left) (λ xs. bytes ≡ start ++ xs)
    → start ≡ [] → given ≡ bytes → length bytes < limit → IfSome left (λ all. given ≡ all)
whole_below None limit start bytes given read none same below = tt
whole_below (Some all) limit start bytes given read none same below =
    let front : bytes ≡ take limit all = read ∙ ap (λ xs. xs ++ take limit all) none in
    let few : length all ≤ limit = omega (arith, ap length front, length-take limit all) in
    same ∙ front ∙ take_all limit all few

-- the same of a reader of which so much was read
pub whole_read : {R : Type 0} (remaining : R → Option (List ℕ)) (reader inner : R) (limit : ℕ) (start bytes given : List ℕ)
    → IfSome (option_map (take limit) (remaining inner)) (λ xs. bytes ≡ start ++ xs) → inner ≡ reader
    → start ≡ [] → given ≡ bytes → length bytes < limit → IfSome (remaining reader) (λ all. given ≡ all)
whole_read remaining reader inner limit start bytes given read is none same below =
    whole_below (remaining reader) limit start bytes given
    (subst (λ r. IfSome (option_map (take limit) (remaining r)) (λ xs. bytes ≡ start ++ xs)) is read) none same below
