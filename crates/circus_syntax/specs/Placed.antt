-- Tokens with their places, and what a token must be to stand for a part of a tree.
use Rattle.std.specs.Prelude.{◌≡◌, ℕ, ◌≤◌, Bool, true, false, ◌&&◌, not, bytes_eq, List, [], ◌∷◌, ◌++◌, Option, Some, None}
use Rattle.std.proofs.Common.{suc}
use Rattle.circus_text.specs.declared.token.Token.{Token}
use Rattle.circus_text.specs.declared.token.TokenKind.{TokenKind}
use Rattle.circus_text.specs.declared.token.TokenKind.TheVariants.{Word, Number, Quoted, Sign}
use Rattle.circus_text.specs.ByteClass.{quote}
use Rattle.circus_text.specs.Form.{number_value}
use Rattle.circus_text.specs.Token.{Lexeme, bytes_of, IsSpelling}
use Rattle.circus_syntax.specs.Reserved.{is_reserved}
use Rattle.circus_syntax.specs.declared.named.Named.{Named}
use Rattle.circus_syntax.specs.declared.named.Numeral.{Numeral}

-- a token by its kind, its bytes and the place of its first byte
pub record Placed : Type 0 where
  pub kind : TokenKind
  pub bytes : List ℕ
  pub start : ℕ

-- a token of the text
abbrev pub placed_of : List ℕ → Token → Placed
placed_of text t = record { kind = t.kind; bytes = bytes_of text t; start = t.start }

-- each is a token that a text can have
abbrev pub AreTokens : List Placed → Type 0
AreTokens [] = Unit {0}
AreTokens (t ∷ ts) = IsSpelling t.kind t.bytes × AreTokens ts

-- the first of the tokens, if there is one
abbrev pub first : List Placed → Option Placed
first [] = None
first (t ∷ ts) = Some t

abbrev pub same_kind : TokenKind → TokenKind → Bool
same_kind Word Word = true
same_kind Number Number = true
same_kind Quoted Quoted = true
same_kind Sign Sign = true
same_kind _ _ = false

-- this word, wherever it stands
abbrev pub word : List ℕ → Lexeme
word w = record { kind = Word; bytes = w }

-- this sign, wherever it stands
abbrev pub sign : List ℕ → Lexeme
sign w = record { kind = Sign; bytes = w }

-- the number that is written so, wherever it stands
abbrev pub digits : List ℕ → Lexeme
digits w = record { kind = Number; bytes = w }

abbrev pub is_lexeme : Lexeme → Placed → Bool
is_lexeme l t = same_kind t.kind l.kind && bytes_eq t.bytes l.bytes

-- a name is a word that isn't reserved
abbrev pub is_name : Placed → Bool
is_name t = same_kind t.kind Word && not (is_reserved t.bytes)

abbrev pub is_number : Placed → Bool
is_number t = same_kind t.kind Number

-- a string is what stands between two quotes
abbrev pub is_text : Placed → Bool
is_text t = same_kind t.kind Quoted

abbrev pub in_quotes : List ℕ → List ℕ
in_quotes content = quote ∷ content ++ quote ∷ []

-- what must stand somewhere: a word or a sign, anywhere or at a place, a name, a number, or a string by its content
-- and its place; or what stands a level deeper
pub data Due : Type 0 where
  due : Lexeme → Due
  due_at : Lexeme → ℕ → Due
  due_name : Named → Due
  due_number : Numeral → Due
  due_text : List ℕ → ℕ → Due
  deeper : Due → Due

-- how many levels are open where it stands, those that it opens among them
abbrev pub depth : Due → ℕ
depth (deeper d) = suc (depth d)
depth _ = 0

-- a level, with all that stands in it
abbrev pub open_level : List Due → List Due
open_level [] = []
open_level (d ∷ ds) = deeper d ∷ open_level ds

-- each stands at most so many levels deep
abbrev pub AreWithin : ℕ → List Due → Type 0
AreWithin n [] = Unit {0}
AreWithin n (d ∷ ds) = (depth d ≤ n) × AreWithin n ds

-- the token is what must stand there; a number may have zeros in front
abbrev pub IsDue : Due → Placed → Type 0
IsDue (due l) t = (t.kind ≡ l.kind) × (t.bytes ≡ l.bytes)
IsDue (due_at l at) t = (t.kind ≡ l.kind) × (t.bytes ≡ l.bytes) × (t.start ≡ at)
IsDue (due_name n) t = (t.kind ≡ Word) × (t.bytes ≡ n.name) × (t.start ≡ n.at)
IsDue (due_number n) t = (t.kind ≡ Number) × IsSpelling Number t.bytes × (number_value t.bytes ≡ n.value) × (t.start ≡ n.at)
IsDue (due_text content at) t = (t.kind ≡ Quoted) × (t.bytes ≡ in_quotes content) × (t.start ≡ at)
IsDue (deeper d) t = IsDue d t

-- the tokens are what must stand there, one by one
abbrev pub AreDue : List Due → List Placed → Type 0
AreDue [] [] = Unit {0}
AreDue [] (t ∷ ts) = ⊥
AreDue (d ∷ ds) [] = ⊥
AreDue (d ∷ ds) (t ∷ ts) = IsDue d t × AreDue ds ts

-- where these are due, each of the tokens stands at most so many levels deep
abbrev pub StandWithin : ℕ → List Due → List Placed → Type 0
StandWithin n ds [] = Unit {0}
StandWithin n [] (t ∷ ts) = Unit {0}
StandWithin n (d ∷ ds) (t ∷ ts) = (depth d ≤ n) × StandWithin n ds ts
