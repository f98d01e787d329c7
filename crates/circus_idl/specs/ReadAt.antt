-- What reading an interface at a token of a text answers.
use Rattle.std.specs.Prelude.{◌≡◌, ℕ, ◌+◌, List, [], ◌++◌, length, Option, Some, None}
use Rattle.circus_text.specs.declared.token.Token.{Token}
use Rattle.circus_syntax.specs.declared.stopping.Stop.{Stop}
use Rattle.circus_syntax.specs.declared.stopping.StopCause.{StopCause}
use Rattle.circus_syntax.specs.declared.stopping.StopCause.TheVariants.{Unexpected, TooDeep}
use Rattle.circus_syntax.specs.InterfaceTree.{InterfaceTree}
use Rattle.circus_syntax.specs.Placed.{Placed}
use Rattle.circus_syntax.specs.Read.{placed_from}
use Rattle.circus_syntax.specs.Reader.{place_in}
use Rattle.circus_syntax.specs.Spelling.{IsInterface, IsWithin, most_levels}
use Rattle.circus_syntax.specs.Stopping.{IsUnexpected, IsTooDeep, IsFilledIn}
use Rattle.circus_fault.specs.declared.fault.Fault.{Fault}
use Rattle.circus_fault.specs.Least.{IsLeast}
use Rattle.circus_idl.specs.declared.fault.Cause.{Cause}
use Rattle.circus_idl.specs.Rank.{rank_of}
use Rattle.circus_idl.specs.declared.idl_fault.IdlFault.{IdlFault}
use Rattle.circus_idl.specs.declared.interface.Interface.{Interface}
use Rattle.circus_idl.specs.Answer.{answer_of}
use Rattle.circus_idl.specs.Faults.{cut_of, interface_faults, read_faults}
use Rattle.circus_idl.specs.Means.{Means}

-- the tokens from this one up to the next are those of an interface without a fault, which means i
pub record IsReadAt (text : List ℕ) (ts : List Token) (at : ℕ) (i : Interface) (next : ℕ) : Type 0 where
  pub own : List Placed
  pub rest : List Placed
  pub tree : InterfaceTree
  pub whole : placed_from text ts at ≡ own ++ rest
  pub spelled : IsInterface own tree
  pub within : IsWithin most_levels tree
  pub faultless : interface_faults (cut_of None) tree ≡ []
  pub means : Means tree i
  pub next_is : next ≡ at + length own

-- no interface goes on with the first token that is left, or only such as have too many levels
abbrev pub IsStopOf : StopCause → List Placed → List Placed → Type 0
IsStopOf Unexpected ts left = IsUnexpected ts left
IsStopOf TooDeep ts left = IsTooDeep ts left

-- reading stopped in front of what is left: the tokens up to there begin an interface of this tree, and the stop is marked with
-- what it cuts
pub record IsStoppedIn (ts : List Placed) (end : ℕ) (stop : Stop) (tree : InterfaceTree) : Type 0 where
  pub left : List Placed
  pub cause : IsStopOf stop.cause ts left
  pub place : stop.place ≡ place_in left end
  pub filled : IsFilledIn ts left stop tree

-- the tree is that of the interface with which the tokens begin, or of one in which reading stopped
abbrev pub IsTreeOf : List Placed → ℕ → Option Stop → InterfaceTree → Type 0
IsTreeOf ts end None tree = (own rest : List Placed) × (ts ≡ own ++ rest) × IsInterface own tree × IsWithin most_levels tree
IsTreeOf ts end (Some s) tree = IsStoppedIn ts end s tree

-- the answer is the least fault of the tree of the tokens from this one on, and of where reading stopped
pub record IsRefused (text : List ℕ) (ts : List Token) (at : ℕ) (answer : IdlFault) : Type 0 where
  pub stop : Option Stop
  pub tree : InterfaceTree
  pub tree_of : IsTreeOf (placed_from text ts at) (length text) stop tree
  pub fault : Fault Cause
  pub least : IsLeast rank_of fault (read_faults stop tree)
  pub given : answer ≡ answer_of fault
