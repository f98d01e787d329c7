-- How many bytes values have together, where one is added or put in the place of another.
use Rattle.std.proofs.Common.{◌≡◌, ℕ, zero, suc, ◌+◌, ◌-◌, ◌^◌, ◌≤◌, min, List, [], ◌∷◌, ◌++◌, Some, slice_get, slice_set, map, ap, arith}
use Rattle.circus_value.specs.ValueOf.{tree_of}
use Rattle.circus_value.specs.ExternalSize.{external_size, size_of_values}
use Rattle.circus_value.specs.declared.value.Value.{Value}

size_more : (vs : List Value) (v : Value) → size_of_values (map tree_of (vs ++ v ∷ [])) ≡ size_of_values (map tree_of vs) + external_size (tree_of v)
size_more [] v = omega arith
size_more (u ∷ vs) v = omega (arith, size_more vs v)

pub counted_more : (vs ws : List Value) (v : Value) (size grows total : ℕ) → size ≡ min (size_of_values (map tree_of vs)) (2 ^ 64 - 1) → grows ≡ min (external_size (tree_of v)) (2 ^ 64 - 1) → total ≡ min (size + grows) (2 ^ 64 - 1) → ws ≡ vs ++ v ∷ []
    → total ≡ min (size_of_values (map tree_of ws)) (2 ^ 64 - 1)
counted_more vs ws v size grows total counted grown added is =
    omega (arith, counted, grown, added, ap (λ us. size_of_values (map tree_of us)) is, size_more vs v)

pub size_within : (vs : List Value) (n : ℕ) (old : Value) → slice_get vs n ≡ Some old → external_size (tree_of old) ≤ size_of_values (map tree_of vs)
size_within [] n old is = cc
size_within (v ∷ vs) zero old is =
    let same : v ≡ old = cc in omega (arith, ap (λ u. external_size (tree_of u)) same)
size_within (v ∷ vs) (suc n) old is = omega (arith, size_within vs n old is)

pub size_changed : (vs : List Value) (n : ℕ) (old new : Value) → slice_get vs n ≡ Some old → size_of_values (map tree_of (slice_set vs n new)) + external_size (tree_of old) ≡ size_of_values (map tree_of vs) + external_size (tree_of new)
size_changed [] n old new is = cc
size_changed (v ∷ vs) zero old new is =
    let same : v ≡ old = cc in omega (arith, ap (λ u. external_size (tree_of u)) same)
size_changed (v ∷ vs) (suc n) old new is = omega (arith, size_changed vs n old new is)
