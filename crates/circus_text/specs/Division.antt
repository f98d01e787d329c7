-- How a text divides into pieces, and which tokens and faults it has.
use Rattle.std.specs.Prelude.{◌≡◌, ℕ, ◌+◌, List, [], ◌∷◌, ◌++◌, length, Result, Ok, Err}
use Rattle.std.specs.List.{flat_map}
use Rattle.circus_text.specs.declared.token.Token.{Token}
use Rattle.circus_text.specs.declared.front.Form.{Form}
use Rattle.circus_text.specs.declared.front.Form.TheVariants as form
use Rattle.circus_text.specs.declared.lex_fault.LexFault.{LexFault}
use Rattle.circus_text.specs.declared.lex_fault.LexFault.TheVariants as fault
use Rattle.circus_text.specs.Front.{Piece, IsNext, IsBadCharacter, IsOpenString, IsLongNumber}

-- the bytes of the pieces, one behind another
abbrev pub bytes_of_pieces : List Piece → List ℕ
bytes_of_pieces ps = flat_map (λ (p : Piece). p.bytes) ps

-- each piece is the next one in what is left of the text, at whose end rest stands
abbrev pub EachIsNext : List Piece → List ℕ → Type 0
EachIsNext [] rest = Unit {0}
EachIsNext (p ∷ ps) rest = IsNext (bytes_of_pieces (p ∷ ps) ++ rest) p × EachIsNext ps rest

-- the text is these pieces and then the rest
pub record DividesTo (text : List ℕ) (ps : List Piece) (rest : List ℕ) : Type 0 where
  pub whole : text ≡ bytes_of_pieces ps ++ rest
  pub each : EachIsNext ps rest

-- the token that a piece of this form, place and length is; spacing and comments are none
abbrev pub token_of : ℕ → Form → ℕ → List Token
token_of at (form.Token kind) len = record { kind = kind; start = at; end = at + len } ∷ []
token_of at form.Spacing len = []
token_of at form.Comment len = []

-- the tokens among pieces of which the first stands at this place
abbrev pub tokens_from : ℕ → List Piece → List Token
tokens_from at [] = []
tokens_from at (p ∷ ps) = token_of at p.form (length p.bytes) ++ tokens_from (at + length p.bytes) ps

-- the text is pieces to its end, and these are their tokens
abbrev pub AreTokensOf : List ℕ → List Token → Type 0
AreTokensOf text ts = (ps : List Piece) × DividesTo text ps [] × (ts ≡ tokens_from 0 ps)

-- the text is pieces up to a rest that has this fault, whose place in the text is that in the rest moved up
abbrev pub HasFault : (List ℕ → ℕ → Type 0) → List ℕ → ℕ → Type 0
HasFault is_fault text place =
    (ps : List Piece) × (rest : List ℕ) × (offset : ℕ)
    × DividesTo text ps rest × is_fault rest offset × (place ≡ length (bytes_of_pieces ps) + offset)

-- what the text has: tokens, or a fault at a place
abbrev pub IsAnswer : List ℕ → Result (List Token) LexFault → Type 0
IsAnswer text (Ok ts) = AreTokensOf text ts
IsAnswer text (Err (fault.BadCharacter place)) = HasFault IsBadCharacter text place
IsAnswer text (Err (fault.OpenString place)) = HasFault IsOpenString text place
IsAnswer text (Err (fault.LongNumber place)) = HasFault IsLongNumber text place
IsAnswer text (Err fault.NoMemory) = ⊥
