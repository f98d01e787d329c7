-- The classes of bytes.
use Rattle.std.specs.Prelude.{ℕ, Bool, true, false, ◌&&◌, ◌==◌, nat_le, if◌then◌else◌, codes}
use Rattle.std.specs.List.{list_any}
use Rattle.std.specs.Char.{is_ascii_alphabetic, is_ascii_digit}
use Rattle.circus_text.specs.declared.byte_class.ByteClass.{ByteClass}
use Rattle.circus_text.specs.declared.byte_class.ByteClass.TheVariants.{Letter, Digit, Quote, Space, Mark, Other}

-- what stands on both sides of a string
abbrev pub quote : ℕ
quote = 34

-- what ends a line
abbrev pub newline : ℕ
newline = 10

-- space, tab, carriage return, newline
abbrev pub is_space : ℕ → Bool
is_space b = list_any (λ s. b == s) (codes " \t\r\n")

-- each sign of one byte
abbrev pub is_mark : ℕ → Bool
is_mark b = list_any (λ m. b == m) (codes ";:,.=<>+-*&#()[]{}")

-- what a byte can begin: a letter a word, a digit a number, a quote a string, a space spacing, a mark a
-- sign or a comment, another byte nothing
abbrev pub class_of : ℕ → ByteClass
class_of b =
    if is_ascii_alphabetic b then Letter
    else (if is_ascii_digit b then Digit
    else (if b == quote then Quote
    else (if is_space b then Space
    else (if is_mark b then Mark
    else Other))))

-- what a word goes on with
abbrev pub is_word_class : ByteClass → Bool
is_word_class Letter = true
is_word_class Digit = true
is_word_class _ = false

-- what a number goes on with
abbrev pub is_digit_class : ByteClass → Bool
is_digit_class Digit = true
is_digit_class _ = false

-- what spacing goes on with
abbrev pub is_space_class : ByteClass → Bool
is_space_class Space = true
is_space_class _ = false

-- bytes 32 to 126
abbrev pub is_printable : ℕ → Bool
is_printable b = nat_le 32 b && nat_le b 126
