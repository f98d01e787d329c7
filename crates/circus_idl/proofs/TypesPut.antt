-- A table of types after one more is declared.
use Rattle.std.proofs.Common.{◌≡◌, ℕ, Bool, true, false, cond, List, Option, Some, refl, ◌∙◌, ap, nat_cmp, bytes_eq, ◌||◌, is_some, unwrap_or, option_map}
use Rattle.std.specs.Cmp.Lexicographic.{slice_cmp}
use Rattle.std.specs.BTreeMap.{BTreeMap, UpdatesBy}
use Rattle.std.proofs.lemmas.Map.Text.{btree_map_updates_str}
use denote.Ref.{Bor}
use Rattle.circus_idl.specs.declared.types.KnownType.{KnownType}
use Rattle.circus_idl.specs.declared.types.Types.{Types}
use Rattle.circus_value.specs.ShapeTree.{boolean}
use Rattle.circus_type.specs.Seen.Measured.{measure_of}
use Rattle.circus_type.specs.Inside.{also_name}
use Rattle.circus_idl.specs.Seen.Known.{type_named, is_known, type_measure, type_form, tree_or}
use Rattle.circus_idl.specs.Meaning.{standing_for}

-- the table n is m with this type at the name
abbrev pub Puts : List ℕ → BTreeMap (Bor (List ℕ)) KnownType → BTreeMap (Bor (List ℕ)) KnownType → KnownType → Type 0
Puts bs m n k = UpdatesBy (λ x y. slice_cmp nat_cmp x.now y.now) (λ q. slice_cmp nat_cmp bs q.now) m n (Some k)

abbrev table_of : BTreeMap (Bor (List ℕ)) KnownType → Types
table_of m = record { table = m }

pub put_known : (bs : List ℕ) (m n : BTreeMap (Bor (List ℕ)) KnownType) (k : KnownType) → Puts bs m n k → is_known (table_of n) ≡ also_name bs (is_known (table_of m))
put_known bs m n k puts = λ i other. each other i
  where
    more : (b : Bool) (o : Option KnownType) → is_some (cond b (Some k) o) ≡ (b || is_some o)
    more true o = refl
    more false o = refl

    each : (other : List ℕ) → is_known (table_of n) other ≡ (bytes_eq bs other || is_known (table_of m) other)
    each other = ap is_some (btree_map_updates_str bs m n (Some k) puts other) ∙ more (bytes_eq bs other) (type_named (table_of m) other)

pub put_sized : (bs : List ℕ) (m n : BTreeMap (Bor (List ℕ)) KnownType) (k : KnownType) → Puts bs m n k → type_measure (table_of n) ≡ standing_for bs k.measure (type_measure (table_of m))
put_sized bs m n k puts = λ i other. each other i
  where
    more : (b : Bool) (o : Option KnownType) → unwrap_or (option_map (λ (t : KnownType). t.measure) (cond b (Some k) o)) (measure_of boolean) ≡ cond b k.measure (unwrap_or (option_map (λ (t : KnownType). t.measure) o) (measure_of boolean))
    more true o = refl
    more false o = refl

    each : (other : List ℕ) → type_measure (table_of n) other ≡ cond (bytes_eq bs other) k.measure (type_measure (table_of m) other)
    each other = ap (λ o. unwrap_or (option_map (λ (t : KnownType). t.measure) o) (measure_of boolean)) (btree_map_updates_str bs m n (Some k) puts other) ∙ more (bytes_eq bs other) (type_named (table_of m) other)

pub put_formed : (bs : List ℕ) (m n : BTreeMap (Bor (List ℕ)) KnownType) (k : KnownType) → Puts bs m n k → type_form (table_of n) ≡ standing_for bs (tree_or k.shape) (type_form (table_of m))
put_formed bs m n k puts = λ i other. each other i
  where
    more : (b : Bool) (o : Option KnownType) → unwrap_or (option_map (λ (t : KnownType). tree_or t.shape) (cond b (Some k) o)) boolean ≡ cond b (tree_or k.shape) (unwrap_or (option_map (λ (t : KnownType). tree_or t.shape) o) boolean)
    more true o = refl
    more false o = refl

    each : (other : List ℕ) → type_form (table_of n) other ≡ cond (bytes_eq bs other) (tree_or k.shape) (type_form (table_of m) other)
    each other = ap (λ o. unwrap_or (option_map (λ (t : KnownType). tree_or t.shape) o) boolean) (btree_map_updates_str bs m n (Some k) puts other) ∙ more (bytes_eq bs other) (type_named (table_of m) other)
