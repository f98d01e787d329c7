-- Where reading an interface stops.
use Rattle.std.specs.Prelude.{◌≡◌, ℕ, List, [], ◌∷◌, ◌++◌, length, Some, slice_get}
use Rattle.circus_syntax.specs.declared.stopping.Stop.{Stop}
use Rattle.circus_syntax.specs.InterfaceTree.{InterfaceTree}
use Rattle.circus_syntax.specs.Placed.{Placed}
use Rattle.circus_syntax.specs.Spelling.{IsInterface, IsWithin, most_levels, Begins, BeginsWithin}
use Rattle.circus_syntax.specs.Standing.{standings_of_interface}
use Rattle.circus_syntax.specs.Filling.{AllBehind, as_interface}

-- no interface is read whole
abbrev pub NoneIsWhole : List Placed → Type 0
NoneIsWhole ts = (own more : List Placed) (tree : InterfaceTree) → ts ≡ own ++ more → IsInterface own tree → ⊥

-- the tokens in front of what is left begin an interface, and none goes on with the next one
pub record IsUnexpected (ts left : List Placed) : Type 0 where
  pub read : List Placed
  pub whole : ts ≡ read ++ left
  pub begun : BeginsWithin read
  pub none_whole : NoneIsWhole read
  pub none_on : (t : Placed) (rest : List Placed) → left ≡ t ∷ rest → Begins (read ++ t ∷ []) → ⊥

-- the tokens in front of what is left begin an interface, and with the next one only such as have too many levels
pub record IsTooDeep (ts left : List Placed) : Type 0 where
  pub read : List Placed
  pub next : Placed
  pub rest : List Placed
  pub whole : ts ≡ read ++ left
  pub next_is : left ≡ next ∷ rest
  pub begun : BeginsWithin read
  pub none_whole : NoneIsWhole read
  pub goes_on : Begins (read ++ next ∷ [])
  pub none_within : BeginsWithin (read ++ next ∷ []) → ⊥

-- each of the tokens stands at this place
abbrev pub StandAt : ℕ → List Placed → Type 0
StandAt at [] = Unit {0}
StandAt at (t ∷ ts) = (t.start ≡ at) × StandAt at ts

-- the tree is that of an interface which the tokens in front of what is left begin; what it has besides them is filled in, and
-- stands at the place of the stop, which is marked with the type and the list that the first of it stands in
pub record IsFilledIn (ts left : List Placed) (stop : Stop) (tree : InterfaceTree) : Type 0 where
  pub read : List Placed
  pub more : List Placed
  pub whole : ts ≡ read ++ left
  pub interface : IsInterface (read ++ more) tree
  pub within : IsWithin most_levels tree
  pub there : StandAt stop.place more
  pub filled : AllBehind read (as_interface tree)
  pub cut : slice_get (standings_of_interface tree) (length read) ≡ Some (record { within = stop.within; list = stop.list })
