-- What reading an interface text answers.
use Rattle.std.specs.Prelude.{◌≡◌, ℕ, ◌-◌, List, length, map, drop}
use Rattle.circus_text.specs.declared.token.Token.{Token}
use Rattle.circus_syntax.specs.declared.interface_reading.Read.{Read}
use Rattle.circus_syntax.specs.InterfaceTree.{interface_of}
use Rattle.circus_syntax.specs.Placed.{Placed, placed_of}
use Rattle.circus_syntax.specs.Reader.{open_at}
use Rattle.circus_syntax.specs.Reading.{interface}
use Rattle.circus_syntax.specs.Spelling.{most_levels}

-- the tokens of a text from one on
abbrev pub placed_from : List ℕ → List Token → ℕ → List Placed
placed_from text ts at = map (placed_of text) (drop at ts)

-- the tree, what is left and the stop are those of the reader at these tokens
pub record Answers (text : List ℕ) (ts : List Token) (at : ℕ) (read : Read) : Type 0 where
  pub left : List Placed
  pub is : interface most_levels (open_at (placed_from text ts at) (length text)) ≡ (interface_of read.interface, record { rest = left; end = length text; stop = read.stop })
  pub next : read.next ≡ length ts - length left
