-- What a part that is replaced changes of the size of the whole.
use Rattle.std.proofs.Common.{◌≡◌, ℕ, zero, suc, pos, negsuc, ◌+◌, ◌<◌, ◌≤◌, Bool, true, false, ◌==◌, if◌then◌else◌, List, [], ◌∷◌, take, Option, Some, None, Ok, Err, ok_or, slice_get, slice_set, refl, ap, arith}
use Rattle.circus_value.specs.ValueTree.{ValueTree, ValueTrees, array, sequence, «record», choice, none, more, value_trees}
use Rattle.circus_value.specs.ExternalSize.{external_size, external_sizes, size_of_values}
use Rattle.circus_model.specs.declared.language_error.LanguageError.{LanguageError}
use Rattle.circus_evaluate.specs.Got.{Raising, and_then}
use Rattle.circus_evaluate.specs.Parts.{Step, field, arm, item, list_of, part_by, part_at, with_part_by, with_part, put_inside}
use Rattle.circus_evaluate.specs.Putting.{put_over, with_put, grows_by, shrinks_by}
use Rattle.circus_evaluate.specs.declared.part.Put.{Put}

-- an item that is replaced, among the first so many
pub state_size : (ts : List ValueTree) (n states : ℕ) (u v : ValueTree) → n < states → slice_get ts n ≡ Some u
    → size_of_values (take states (slice_set ts n v)) + external_size u ≡ size_of_values (take states ts) + external_size v
state_size [] n states u v few is = cc
state_size (t ∷ ts) n zero u v few is = absurd (omega (arith, few))
state_size (t ∷ ts) zero (suc states) u v few is = let same : t ≡ u = cc in omega (arith, ap external_size same)
state_size (t ∷ ts) (suc n) (suc states) u v few is = omega (arith, state_size ts n states u v (omega (arith, few)) is)

list_size : (ts : List ValueTree) (n : ℕ) (u v : ValueTree) → slice_get ts n ≡ Some u → size_of_values (slice_set ts n v) + external_size u ≡ size_of_values ts + external_size v
list_size [] n u v is = cc
list_size (t ∷ ts) zero u v is = let same : t ≡ u = cc in omega (arith, ap external_size same)
list_size (t ∷ ts) (suc n) u v is = omega (arith, list_size ts n u v is)

trees_size : (ts : ValueTrees) → size_of_values (list_of ts) ≡ external_sizes ts
trees_size none = refl
trees_size (more t ts) = ap (λ n. external_size t + n) (trees_size ts)

pub found : (o : Option ValueTree) (e : LanguageError) (u : ValueTree) → ok_or o e ≡ Ok u → o ≡ Some u
found None e u is = cc
found (Some t) e u is = cc

items_size : (ts : ValueTrees) (n : ℕ) (e : LanguageError) (u v : ValueTree) → ok_or (slice_get (list_of ts) n) e ≡ Ok u → external_sizes (value_trees (slice_set (list_of ts) n v)) + external_size u ≡ external_sizes ts + external_size v
items_size ts n e u v is = omega (arith, list_size (list_of ts) n u v (found (slice_get (list_of ts) n) e u is), trees_size ts)

arm_size : (b : Bool) (e : LanguageError) (t u v : ValueTree) → (if b then Ok t else Err e) ≡ Ok u → 2 + external_size v + external_size u ≡ 2 + external_size t + external_size v
arm_size true e t u v is = let same : t ≡ u = cc in omega (arith, ap external_size same)
arm_size false e t u v is = cc

-- a part that one step leads to
step_size : (s : Step) (t u v : ValueTree) → part_by s t ≡ Ok u → external_size (with_part_by s v t) + external_size u ≡ external_size t + external_size v
step_size (field n) («record» ts) u v is = items_size ts n _ u v is
step_size (arm n) (choice m t) u v is = arm_size (m == n) _ t u v is
step_size (item (pos n)) (array ts) u v is = items_size ts n _ u v is
step_size (item (pos n)) (sequence ts) u v is = omega (arith, items_size ts n _ u v is)
step_size (item (negsuc n)) (array ts) u v is = cc
step_size (item (negsuc n)) (sequence ts) u v is = cc
step_size s t u v is = cc

inside_size : (s : Step) (ss : List Step) (t u v : ValueTree) (r : Raising ValueTree) → part_by s t ≡ r
    → ((inner : ValueTree) → part_at ss inner ≡ Ok u → external_size (with_part ss v inner) + external_size u ≡ external_size inner + external_size v)
    → and_then r (part_at ss) ≡ Ok u
    → external_size (put_inside r t (λ inner. with_part_by s (with_part ss v inner) t)) + external_size u ≡ external_size t + external_size v
inside_size s ss t u v (Ok inner) by below is = omega (arith, step_size s t inner (with_part ss v inner) by, below inner is)
inside_size s ss t u v (Err e) by below is = cc

-- a part that several steps lead to
part_size : (ss : List Step) (t u v : ValueTree) → part_at ss t ≡ Ok u → external_size (with_part ss v t) + external_size u ≡ external_size t + external_size v
part_size [] t u v is = let same : t ≡ u = cc in omega (arith, ap external_size same)
part_size (s ∷ ss) t u v is = inside_size s ss t u v (part_by s t) refl (λ inner there. part_size ss inner u v there) is

-- a part is no greater than the whole
pub part_within : (ss : List Step) (t u : ValueTree) → part_at ss t ≡ Ok u → external_size u ≤ external_size t
part_within ss t u is = omega (arith, part_size ss t u (array none) is)

inside_put : (s : Step) (ss : List Step) (what : Put) (t old : ValueTree) (r : Raising ValueTree)
    → ((inner : ValueTree) → part_at ss inner ≡ Ok old → with_put ss what inner ≡ with_part ss (put_over what old) inner)
    → and_then r (part_at ss) ≡ Ok old
    → put_inside r t (λ inner. with_part_by s (with_put ss what inner) t) ≡ put_inside r t (λ inner. with_part_by s (with_part ss (put_over what old) inner) t)
inside_put s ss what t old (Ok inner) below is = ap (λ u. with_part_by s u t) (below inner is)
inside_put s ss what t old (Err e) below is = cc

-- to put something is to replace what stands there
pub put_is : (ss : List Step) (what : Put) (t old : ValueTree) → part_at ss t ≡ Ok old → with_put ss what t ≡ with_part ss (put_over what old) t
put_is [] what t old is = let same : t ≡ old = cc in ap (put_over what) same
put_is (s ∷ ss) what t old is = inside_put s ss what t old (part_by s t) (λ inner there. put_is ss what inner old there) is

-- the size of the whole, once something was put
pub put_size : (ss : List Step) (what : Put) (t old : ValueTree) → part_at ss t ≡ Ok old → external_size (put_over what old) + shrinks_by what old ≡ external_size old + grows_by what
    → external_size (with_part ss (put_over what old) t) + shrinks_by what old ≡ external_size t + grows_by what
put_size ss what t old is sized = omega (arith, part_size ss t old (put_over what old) is, sized)
