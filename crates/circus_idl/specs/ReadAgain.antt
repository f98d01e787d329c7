-- The text of an interface, as it is read again.
use Rattle.std.specs.Prelude.{◌≡◌, ℕ, List, [], None}
use Rattle.circus_text.specs.declared.token.Token.{Token}
use Rattle.circus_text.specs.Token.{lexemes_of}
use Rattle.circus_text.specs.Division.{AreTokensOf}
use Rattle.circus_syntax.specs.InterfaceTree.{InterfaceTree}
use Rattle.circus_syntax.specs.Read.{placed_from}
use Rattle.circus_syntax.specs.Spelling.{IsInterface, IsWithin, most_levels}
use Rattle.circus_idl.specs.declared.interface.Interface.{Interface}
use Rattle.circus_idl.specs.Faults.{cut_of, interface_faults}
use Rattle.circus_idl.specs.Means.{Means}
use Rattle.circus_idl.specs.Shown.{lexemes}

-- the tokens of the text are those that show i, and an interface without a fault, which means i and no other
pub record IsReadAs (text : List ℕ) (i : Interface) : Type 0 where
  pub found : List Token
  pub tokens : AreTokensOf text found
  pub shown : lexemes_of text found ≡ lexemes i
  pub tree : InterfaceTree
  pub spelled : IsInterface (placed_from text found 0) tree
  pub within : IsWithin most_levels tree
  pub faultless : interface_faults (cut_of None) tree ≡ []
  pub means : Means tree i
  pub only : (j : Interface) → Means tree j → j ≡ i
