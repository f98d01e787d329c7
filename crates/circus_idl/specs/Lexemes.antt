-- The tokens of a text, each with a space before it.
use Rattle.std.specs.Prelude.{ℕ, List, ◌∷◌}
use Rattle.std.specs.Fmt.{decimal}
use Rattle.std.specs.List.{flat_map}
use Rattle.circus_text.specs.declared.token.TokenKind.TheVariants as kind
use Rattle.circus_text.specs.Token.{Lexeme}

-- a number, without leading zeros
abbrev pub number : ℕ → Lexeme
number n = record { kind = kind.Number; bytes = decimal n }

-- a space before each
abbrev pub lexemes_behind_spaces : List Lexeme → List ℕ
lexemes_behind_spaces lexemes = flat_map (λ l. 32 ∷ l.bytes) lexemes
