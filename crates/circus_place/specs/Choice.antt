-- Choices of machines for the members of a troupe, and the best of them.
use Rattle.std.specs.Prelude.{◌≡◌, ◌≢◌, ℕ, ◌<◌, ◌≤◌, Bool, true, false, ◌&&◌, ◌||◌, ◌==◌, nat_lt, List, [], ◌∷◌, length, count_by, All, AllPairs, IsTrue}
use Rattle.std.specs.List.{list_any}
use Rattle.circus_place.specs.declared.placing.Placing.{Placing}
use Rattle.circus_place.specs.ConditionTree.{tree_of}
use Rattle.circus_place.specs.Value.{does_hold}

-- a machine for each member, no machine twice
pub record IsChoice (p : Placing) (choice : List ℕ) : Type 0 where
  pub whole : length choice ≡ p.members
  pub machines : All (λ m. m < length p.machines) choice
  pub distinct : AllPairs (λ m n. m ≢ n) choice

-- the condition holds of it
abbrev pub Satisfies : Placing → List ℕ → Type 0
Satisfies p choice = IsTrue (does_hold p.machines choice (tree_of p.condition))

-- how many members stay where one is present
abbrev pub kept_by : Placing → List ℕ → ℕ
kept_by p choice = count_by (λ m. list_any (λ n. m == n) p.present) choice

-- the order of lists of numbers: by the first number that differs
abbrev pub is_before : List ℕ → List ℕ → Bool
is_before [] [] = false
is_before [] (y ∷ ys) = true
is_before (x ∷ xs) [] = false
is_before (x ∷ xs) (y ∷ ys) = nat_lt x y || (x == y) && is_before xs ys

-- a choice that satisfies the condition: none that does keeps more, and none that keeps as many is before it
pub record IsBest (p : Placing) (choice : List ℕ) : Type 0 where
  pub is_choice : IsChoice p choice
  pub satisfies : Satisfies p choice
  pub most : (other : List ℕ) → IsChoice p other → Satisfies p other → kept_by p other ≤ kept_by p choice
  pub first : (other : List ℕ) → IsChoice p other → Satisfies p other → kept_by p other ≡ kept_by p choice → is_before other choice ≡ false
