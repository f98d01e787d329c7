-- Tables by names after one more entry.
use Rattle.std.proofs.Common.{◌≡◌, ℕ, ◌+◌, Bool, true, false, cond, min, List, Option, Some, refl, ◌∙◌, ap, arith, nat_cmp}
use Rattle.std.specs.Prelude.{bytes_eq}
use Rattle.std.specs.Cmp.Lexicographic.{slice_cmp}
use Rattle.std.specs.BTreeMap.{BTreeMap, UpdatesBy, get_by}
use Rattle.std.proofs.lemmas.Map.Text.{btree_map_updates_str}
use denote.Ref.{Bor}
use Rattle.circus_value.specs.ShapeTree.{FieldTrees, no_fields, more_fields}
use Rattle.circus_resolve.specs.Scope.{Variable}
use Rattle.circus_idl.specs.Meaning.{standing_for}
use Rattle.circus_check.specs.Scope.{places_behind}
use Rattle.circus_check.specs.Seen.Surroundings.{variables_kept}

-- the table n is m with this entry at the name
abbrev pub Puts : {V : Type 0} → List ℕ → BTreeMap (Bor (List ℕ)) V → BTreeMap (Bor (List ℕ)) V → V → Type 0
Puts bs m n v = UpdatesBy (λ x y. slice_cmp nat_cmp x.now y.now) (λ q. slice_cmp nat_cmp bs q.now) m n (Some v)

-- what is read of a name, where this is what is read of the entry that is found
pub put_by : {V A : Type 0} (read : Option V → A) (bs : List ℕ) (m n : BTreeMap (Bor (List ℕ)) V) (v : V) → Puts bs m n v
    → (λ (name : List ℕ). read (get_by (λ k. slice_cmp nat_cmp name k.now) n)) ≡ standing_for bs (read (Some v)) (λ (name : List ℕ). read (get_by (λ k. slice_cmp nat_cmp name k.now) m))
put_by {V} {A} read bs m n v puts = λ i other. each other i
  where
    more : (b : Bool) (o : Option V) → read (cond b (Some v) o) ≡ cond b (read (Some v)) (read o)
    more true o = refl
    more false o = refl

    each : (other : List ℕ) → read (get_by (λ k. slice_cmp nat_cmp other k.now) n) ≡ cond (bytes_eq bs other) (read (Some v)) (read (get_by (λ k. slice_cmp nat_cmp other k.now) m))
    each other = ap read (btree_map_updates_str bs m n (Some v) puts other) ∙ more (bytes_eq bs other) (get_by (λ k. slice_cmp nat_cmp other k.now) m)

-- a place that stops at the greatest word gives the same variables
pub same_variables : (n k : ℕ) → min n 65535 ≡ min k 65535 → (fs : FieldTrees) (earlier : List ℕ → Option Variable) → variables_kept n fs earlier ≡ variables_kept k fs earlier
same_variables n k is no_fields earlier = refl
same_variables n k is (more_fields name s fs) earlier =
    ap (λ p. variables_kept (n + 1) fs (standing_for name (Some (record { place = p; shape = s })) earlier)) is
    ∙ same_variables (n + 1) (k + 1) (omega (arith, is)) fs (standing_for name (Some (record { place = min k 65535; shape = s })) earlier)

pub same_places : (n k : ℕ) → min n 65535 ≡ min k 65535 → (fs : FieldTrees) → min (places_behind n fs) 65535 ≡ min (places_behind k fs) 65535
same_places n k is no_fields = is
same_places n k is (more_fields name s fs) = same_places (n + 1) (k + 1) (omega (arith, is)) fs
