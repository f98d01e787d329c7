-- The lines of a schedule as they are written.
use Rattle.std.specs.Prelude.{ℕ, ◌≡◌, ◌<◌, ◌≤◌, ◌^◌, List, [], ◌∷◌, length, codes, IsTrue}
use Rattle.std.specs.Fmt.{decimal}
use Rattle.std.specs.List.{join_with_byte}
use Rattle.circus_limits.specs.Limits.{longest_name}
use Rattle.circus_collate.specs.Deployment.{is_word}

-- what is written in a line, with the names of nodes
pub data WrittenLine : Type 0 where
  -- the datagram's number
  deliver : ℕ → WrittenLine
  tick : List ℕ → WrittenLine
  crash : List ℕ → WrittenLine
  -- who is down, who is told
  down : List ℕ → List ℕ → WrittenLine
  join : List ℕ → WrittenLine

-- the words of a line
abbrev pub words_of : WrittenLine → List (List ℕ)
words_of (deliver number) = codes "deliver" ∷ decimal number ∷ []
words_of (tick node) = codes "tick" ∷ node ∷ []
words_of (crash node) = codes "crash" ∷ node ∷ []
words_of (down node told) = codes "down" ∷ node ∷ told ∷ []
words_of (join node) = codes "join" ∷ node ∷ []

-- its one spelling: the words, with one space between two
abbrev pub text_of : WrittenLine → List ℕ
text_of line = join_with_byte 32 (words_of line)

-- a name of a node is a word
abbrev pub IsName : List ℕ → Type 0
IsName name = IsTrue (is_word name) × (length name ≤ longest_name)

-- numbers are below 2 to the 64th, and nodes have names
abbrev pub IsWritten : WrittenLine → Type 0
IsWritten (deliver number) = number < 2 ^ 64
IsWritten (tick node) = IsName node
IsWritten (crash node) = IsName node
IsWritten (down node told) = IsName node × IsName told
IsWritten (join node) = IsName node

-- the text is the line's
pub record Spells (text : List ℕ) (line : WrittenLine) : Type 0 where
  pub spelled : text ≡ text_of line
  pub written : IsWritten line

-- the text is no line's
abbrev pub SpellsNothing : List ℕ → Type 0
SpellsNothing text = (line : WrittenLine) → Spells text line → ⊥
