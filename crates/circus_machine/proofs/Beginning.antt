-- Values in order, copied and measured one after the other.
use Rattle.std.proofs.Common.{◌≡◌, ℕ, ◌+◌, ◌<◌, min, All, List, [], ◌∷◌, ◌++◌, length, map, get_or, drop, sym, ap, subst, ◌∙◌, arith, append_assoc}
use Rattle.std.proofs.Math.Nat.{min-eq_left}
use Rattle.std.proofs.Math.ListN.{get_or-map}
use Rattle.std.proofs.lemmas.List.{drop_more, length-map}
use Rattle.std.proofs.lemmas.List.Elements.{All-nil, All-cons, All-append}
use Rattle.circus_value.specs.ValueTree.{ValueTree}
use Rattle.circus_value.specs.ValueOf.{tree_of}
use Rattle.circus_value.specs.declared.value.Value.{Value}
use Rattle.circus_value.specs.ExternalSize.{external_size, size_of_values}

-- no value is greater than all together
each_within : (ts : List ValueTree) (most : ℕ) → size_of_values ts < most → All (λ t. external_size t < most) ts
each_within [] most small = All-nil (λ t. external_size t < most)
each_within (t ∷ ts) most small = All-cons (λ u. external_size u < most) t ts (omega (arith, small)) (each_within ts most (omega (arith, small)))

pub all_within : (xs ys zs : List ValueTree) (most : ℕ) → size_of_values xs < most → size_of_values ys < most → size_of_values zs < most → All (λ t. external_size t < most) (xs ++ (ys ++ zs))
all_within xs ys zs most first second third =
    All-append (λ t. external_size t < most) xs (ys ++ zs) (each_within xs most first) (All-append (λ t. external_size t < most) ys zs (each_within ys most second) (each_within zs most third))

-- one more size
pub sizes_more : (ts : List ValueTree) (vs : List Value) (i : ℕ) (v : Value) (sizes more : List ℕ) (size : ℕ) (whole : List ℕ) → map tree_of vs ≡ ts → All (λ t. external_size t < 4294967296) ts → i < length vs → v ≡ get_or vs i v
    → size ≡ min (external_size (tree_of v)) 18446744073709551615 → more ≡ sizes ++ size ∷ [] → sizes ++ map external_size (map tree_of (drop i vs)) ≡ whole → more ++ map external_size (map tree_of (drop (i + 1) vs)) ≡ whole
sizes_more ts vs i v sizes more size whole are small few is measured grown all =
    let within : external_size (tree_of v) < 4294967296 =
    subst (λ t. external_size t < 4294967296) (ap (λ us. get_or us i (tree_of v)) (sym are) ∙ get_or-map tree_of vs i v ∙ ap tree_of (sym is)) (small i (tree_of v) (omega (arith, few, ap length are, length-map vs tree_of))) in
    let exact : size ≡ external_size (tree_of v) = measured ∙ min-eq_left (omega (arith, within)) in
    ap (λ ys. ys ++ map external_size (map tree_of (drop (i + 1) vs))) (grown ∙ ap (λ n. sizes ++ n ∷ []) exact) ∙ append_assoc sizes (external_size (tree_of v) ∷ []) (map external_size (map tree_of (drop (i + 1) vs)))
    ∙ sym (ap (λ ys. sizes ++ map external_size (map tree_of ys)) (drop_more vs i v few ∙ ap (λ y. y ∷ drop (i + 1) vs) (sym is))) ∙ all
