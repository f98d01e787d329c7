-- What reading the text of a placing answers.
use Rattle.std.specs.Prelude.{◌≡◌, ◌⊎◌, ℕ, ◌<◌, ◌≤◌, List, [], length, Err, Option, Some, None}
use Rattle.circus_text.specs.declared.token.Token.{Token}
use Rattle.circus_text.specs.declared.lex_fault.LexFault.{LexFault}
use Rattle.circus_text.specs.declared.lex_fault.LexFault.TheVariants as lexical
use Rattle.circus_text.specs.Form.{longest_text}
use Rattle.circus_text.specs.Division.{AreTokensOf, IsAnswer}
use Rattle.circus_text.specs.Lines.{line_of}
use Rattle.circus_syntax.specs.declared.stopping.Stop.{Stop}
use Rattle.circus_syntax.specs.declared.stopping.StopCause.{StopCause}
use Rattle.circus_syntax.specs.declared.stopping.StopCause.TheVariants.{Unexpected, TooDeep}
use Rattle.circus_syntax.specs.Placed.{Placed}
use Rattle.circus_syntax.specs.Read.{placed_from}
use Rattle.circus_syntax.specs.Reader.{place_in}
use Rattle.circus_place.specs.declared.placing.Placing.{Placing}
use Rattle.circus_fault.specs.declared.fault.Fault.{Fault}
use Rattle.circus_fault.specs.Least.{IsLeast}
use Rattle.circus_place.specs.declared.place_fault.PlaceCause.{PlaceCause}
use Rattle.circus_place.specs.declared.place_fault.PlaceFault.{PlaceFault}
use Rattle.circus_place.specs.declared.place_fault.PlaceFault.TheVariants.{Refused, NoMemory}
use Rattle.circus_place.specs.declared.place_fault.PlaceCause.TheVariants.{BadCharacter, OpenString, LongNumber, TooLarge}
use Rattle.circus_place.specs.Written.{PlacingTree}
use Rattle.circus_place.specs.Grammar.{IsPlacing, IsWithin, most_levels}
use Rattle.circus_place.specs.Stopping.{IsUnexpected, IsTooDeep, IsFilledIn}
use Rattle.circus_place.specs.Rank.{rank_of}
use Rattle.circus_place.specs.Faults.{placing_faults, read_faults}
use Rattle.circus_place.specs.Means.{Means}

-- all tokens of a text
abbrev pub placed_tokens : List ℕ → List Token → List Placed
placed_tokens text ts = placed_from text ts 0

-- the text is a placing without a fault, which means this one
pub record IsReadAs (text : List ℕ) (placing : Placing) : Type 0 where
  pub short : length text ≤ longest_text
  pub found : List Token
  pub tokens : AreTokensOf text found
  pub tree : PlacingTree
  pub spelled : IsPlacing (placed_tokens text found) tree
  pub within : IsWithin most_levels tree
  pub faultless : placing_faults tree ≡ []
  pub means : Means tree placing

-- no placing goes on with the next token, or only such as have too many levels
abbrev pub IsStopOf : StopCause → List Placed → List Placed → Type 0
IsStopOf Unexpected ts left = IsUnexpected ts left
IsStopOf TooDeep ts left = IsTooDeep ts left

-- the tree is that of the placing which the tokens are, or, where reading stopped, of one that they begin up to there
abbrev pub IsTreeOf : List Placed → ℕ → Option Stop → PlacingTree → Type 0
IsTreeOf ts end None tree = IsPlacing ts tree × IsWithin most_levels tree
IsTreeOf ts end (Some s) tree = (left : List Placed) × IsFilledIn ts left s.place tree × (s.place ≡ place_in left end) × IsStopOf s.cause ts left

-- the answer is the least fault of what the grammar reads of these tokens
pub record IsLeastOf (text : List ℕ) (found : List Token) (answer : PlaceFault) : Type 0 where
  pub tree : PlacingTree
  pub stop : Option Stop
  pub tree_of : IsTreeOf (placed_tokens text found) (length text) stop tree
  pub fault : Fault PlaceCause
  pub least : IsLeast rank_of fault (read_faults stop tree)
  pub given : answer ≡ Refused (line_of text fault.place) fault.cause

-- the answer that a fault of the tokens gives
abbrev pub lexical_answer : List ℕ → LexFault → PlaceFault
lexical_answer text (lexical.BadCharacter place) = Refused (line_of text place) BadCharacter
lexical_answer text (lexical.OpenString place) = Refused (line_of text place) OpenString
lexical_answer text (lexical.LongNumber place) = Refused (line_of text place) LongNumber
lexical_answer text lexical.NoMemory = NoMemory

-- the text is too long, or it has no tokens, or they have a fault
abbrev pub IsRefused : List ℕ → PlaceFault → Type 0
IsRefused text answer =
    ((longest_text < length text) × (answer ≡ Refused 1 TooLarge))
    ⊎ (((length text ≤ longest_text) × ((fault : LexFault) × IsAnswer text (Err fault) × (answer ≡ lexical_answer text fault)))
    ⊎ ((length text ≤ longest_text) × ((found : List Token) × AreTokensOf text found × IsLeastOf text found answer)))
