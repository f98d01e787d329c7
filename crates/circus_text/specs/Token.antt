-- A token in its text.
use Rattle.std.specs.Prelude.{◌≡◌, ℕ, ◌-◌, ◌<◌, ◌≤◌, false, List, [], ◌∷◌, ◌++◌, length, map, slice_range, None}
use Rattle.std.specs.List.{AllByRecursion}
use Rattle.circus_text.specs.declared.token.Token.{Token}
use Rattle.circus_text.specs.declared.token.TokenKind.{TokenKind}
use Rattle.circus_text.specs.declared.front.Form.TheVariants as form
use Rattle.circus_text.specs.Form.{HasForm, bad_place, is_long_number}

-- the bytes of a token
abbrev pub bytes_of : List ℕ → Token → List ℕ
bytes_of text t = slice_range text t.start t.end

-- the content of a string: what stands between its quotes
abbrev pub content_of : List ℕ → List ℕ
content_of w = slice_range w 1 (length w - 1)

-- the token is a stretch of the text
pub record LiesIn (text : List ℕ) (t : Token) : Type 0 where
  pub not_empty : t.start < t.end
  pub inside : t.end ≤ length text

-- bytes that a token of this kind may have
pub record IsSpelling (kind : TokenKind) (w : List ℕ) : Type 0 where
  pub formed : HasForm (form.Token kind) w
  pub no_bad_byte : bad_place (form.Token kind) w ≡ None
  pub no_long_number : is_long_number (form.Token kind) w ≡ false

-- a token of this text
pub record IsTokenIn (text : List ℕ) (t : Token) : Type 0 where
  pub lies : LiesIn text t
  pub spelled : IsSpelling t.kind (bytes_of text t)

-- t ends before u begins
abbrev pub IsBefore : Token → Token → Type 0
IsBefore t u = t.end ≤ u.start

-- a token by its kind and its bytes, wherever it stands
pub record Lexeme : Type 0 where
  pub kind : TokenKind
  pub bytes : List ℕ

-- a token without its place
abbrev pub lexeme_of : List ℕ → Token → Lexeme
lexeme_of text t = record { kind = t.kind; bytes = bytes_of text t }

-- the tokens of a text as a grammar reads them
abbrev pub lexemes_of : List ℕ → List Token → List Lexeme
lexemes_of text ts = map (lexeme_of text) ts

-- the text of lexemes with one space between two
abbrev pub text_with_spaces : List Lexeme → List ℕ
text_with_spaces [] = []
text_with_spaces (l ∷ []) = l.bytes
text_with_spaces (l ∷ m ∷ ls) = l.bytes ++ 32 ∷ text_with_spaces (m ∷ ls)

-- each lexeme may stand in a text
abbrev pub AreSpelled : List Lexeme → Type 0
AreSpelled ls = AllByRecursion (λ (l : Lexeme). IsSpelling l.kind l.bytes) ls
