-- What holds of each item of lists that are put together.
use Rattle.std.proofs.Common.{◌≢◌, List, [], ◌∷◌, ◌++◌, sym}
use Rattle.std.specs.List.{AllByRecursion}
use Rattle.circus_type.specs.Distinct.{AreDistinct}

pub all_appended : {X : Type 0} (P : X → Type 0) (xs ys : List X) → AllByRecursion P xs → AllByRecursion P ys → AllByRecursion P (xs ++ ys)
all_appended P [] ys all others = others
all_appended P (x ∷ xs) ys all others = (all.0, all_appended P xs ys all.1 others)

pub all_with : {X : Type 0} (P : X → Type 0) (xs : List X) (x : X) (ys : List X) → P x → AllByRecursion P (xs ++ ys) → AllByRecursion P (xs ++ x ∷ ys)
all_with P [] x ys own others = (own, others)
all_with P (w ∷ xs) x ys own others = (others.0, all_with P xs x ys own others.1)

pub distinct_with : {X : Type 0} (xs : List X) (x : X) (ys : List X) → AllByRecursion (λ y. x ≢ y) (xs ++ ys) → AreDistinct (xs ++ ys) → AreDistinct (xs ++ x ∷ ys)
distinct_with [] x ys apart distinct = (apart, distinct)
distinct_with (w ∷ xs) x ys apart distinct =
    (all_with (λ y. w ≢ y) xs x ys (λ same. apart.0 (sym same)) distinct.0, distinct_with xs x ys apart.1 distinct.1)
