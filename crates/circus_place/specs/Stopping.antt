-- Where reading a placing stops.
use Rattle.std.specs.Prelude.{◌≡◌, ℕ, List, [], ◌∷◌, ◌++◌}
use Rattle.circus_syntax.specs.Placed.{Placed}
use Rattle.circus_syntax.specs.Filling.{AllBehind}
use Rattle.circus_syntax.specs.Stopping.{StandAt}
use Rattle.circus_place.specs.Written.{PlacingTree}
use Rattle.circus_place.specs.Grammar.{IsPlacing, IsWithin, most_levels, Begins, BeginsWithin}
use Rattle.circus_place.specs.Filling.{as_placing}

-- the tokens in front of what is left begin a placing, and none goes on with the next one; where none is left, they are
-- none
pub record IsUnexpected (ts left : List Placed) : Type 0 where
  pub read : List Placed
  pub whole : ts ≡ read ++ left
  pub begun : BeginsWithin read
  pub none_on : (t : Placed) (rest : List Placed) → left ≡ t ∷ rest → Begins (read ++ t ∷ []) → ⊥
  pub none_whole : left ≡ [] → (tree : PlacingTree) → IsPlacing read tree → ⊥

-- the tokens in front of what is left begin a placing, and with the next one only such as have too many levels
pub record IsTooDeep (ts left : List Placed) : Type 0 where
  pub read : List Placed
  pub next : Placed
  pub rest : List Placed
  pub whole : ts ≡ read ++ left
  pub next_is : left ≡ next ∷ rest
  pub begun : BeginsWithin read
  pub goes_on : Begins (read ++ next ∷ [])
  pub none_within : BeginsWithin (read ++ next ∷ []) → ⊥

-- the tree is that of a placing which the tokens in front of what is left begin; what it has besides them is filled in, and
-- stands at this place
pub record IsFilledIn (ts left : List Placed) (at : ℕ) (tree : PlacingTree) : Type 0 where
  pub read : List Placed
  pub more : List Placed
  pub whole : ts ≡ read ++ left
  pub placing : IsPlacing (read ++ more) tree
  pub within : IsWithin most_levels tree
  pub there : StandAt at more
  pub filled : AllBehind read (as_placing tree)
