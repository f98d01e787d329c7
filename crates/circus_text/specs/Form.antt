-- The forms of tokens, spaces and comments, as whole lists of bytes. A form has no limits: how long a
-- word and how great a number may be, and which bytes may stand in a string and a comment, is said
-- apart, so that what passes a limit is a fault and not two tokens.
use Rattle.std.specs.Prelude.{◌≡◌, ℕ, ◌<◌, Bool, false, not, ◌||◌, ◌&&◌, ◌==◌, List, [], ◌∷◌, ◌++◌, length, Option, Some, None, position, Contains, IsTrue, nat_lt, if◌then◌else◌, codes}
use Rattle.std.specs.List.{list_all}
use Rattle.std.specs.Str.Parse.{digits_value}
use Rattle.circus_text.specs.declared.byte_class.ByteClass.TheVariants.{Letter}
use Rattle.circus_text.specs.declared.token.TokenKind.TheVariants.{Word, Number, Quoted, Sign}
use Rattle.circus_text.specs.declared.front.Form.{Form}
use Rattle.circus_text.specs.declared.front.Form.TheVariants.{Token, Spacing, Comment}
use Rattle.circus_text.specs.ByteClass.{quote, newline, class_of, is_word_class, is_digit_class, is_space_class, is_mark, is_space, is_printable}

-- a letter, then letters and digits
abbrev pub IsWord : List ℕ → Type 0
IsWord [] = ⊥
IsWord (b ∷ bs) = (class_of b ≡ Letter) × IsTrue (list_all (λ c. is_word_class (class_of c)) bs)

-- digits, at least one
abbrev pub IsNumber : List ℕ → Type 0
IsNumber w = (0 < length w) × IsTrue (list_all (λ c. is_digit_class (class_of c)) w)

-- what a string goes on with: neither a quote nor the end of the line
abbrev pub is_inside : ℕ → Bool
is_inside b = not (b == quote) && not (b == newline)

-- one line between two quotes
abbrev pub IsQuoted : List ℕ → Type 0
IsQuoted w = (content : List ℕ) × (w ≡ quote ∷ content ++ quote ∷ []) × IsTrue (list_all is_inside content)

-- the signs of two bytes
abbrev pub double_signs : List (List ℕ)
double_signs = codes ":=" ∷ codes "<>" ∷ codes "<=" ∷ codes ">=" ∷ codes "=>" ∷ []

-- a sign of one byte or of two
abbrev pub IsSign : List ℕ → Type 0
IsSign [] = ⊥
IsSign (b ∷ []) = IsTrue (is_mark b)
IsSign (b ∷ bs) = Contains double_signs (b ∷ bs)

-- spaces, tabs, carriage returns and newlines, at least one
abbrev pub IsSpacing : List ℕ → Type 0
IsSpacing w = (0 < length w) × IsTrue (list_all (λ c. is_space_class (class_of c)) w)

-- two dashes, and what stands behind them on their line
abbrev pub IsComment : List ℕ → Type 0
IsComment w = (body : List ℕ) × (w ≡ codes "--" ++ body) × IsTrue (list_all (λ c. not (c == newline)) body)

-- the bytes are of this form
abbrev pub HasForm : Form → List ℕ → Type 0
HasForm (Token Word) w = IsWord w
HasForm (Token Number) w = IsNumber w
HasForm (Token Quoted) w = IsQuoted w
HasForm (Token Sign) w = IsSign w
HasForm Spacing w = IsSpacing w
HasForm Comment w = IsComment w

-- the value of decimal digits
abbrev pub number_value : List ℕ → ℕ
number_value w = digits_value 10 w

-- the most bytes that a word may have
abbrev pub longest_word : ℕ
longest_word = 32

-- how many bytes a text has at most
abbrev pub longest_text : ℕ
longest_text = 1048576

-- the greatest value that a number may have
abbrev pub greatest_number : ℕ
greatest_number = 9223372036854775807

-- the place of the first byte that may not stand in something of this form: the 33rd of a word, in a
-- string what isn't printable, in a comment what is neither printable nor spacing
abbrev pub bad_place : Form → List ℕ → Option ℕ
bad_place (Token Word) w = if nat_lt longest_word (length w) then Some longest_word else None
bad_place (Token Number) w = None
bad_place (Token Quoted) w = position (λ c. not (is_printable c)) w
bad_place (Token Sign) w = None
bad_place Spacing w = None
bad_place Comment w = position (λ c. not (is_printable c || is_space c)) w

-- it is a number, and too great for one
abbrev pub is_long_number : Form → List ℕ → Bool
is_long_number (Token Number) w = nat_lt greatest_number (number_value w)
is_long_number _ w = false
