-- The numbers of the errors of the language.
use Rattle.std.specs.Prelude.{ℕ, Bool, ◌&&◌, ◌==◌, nat_le, [], ◌∷◌, Option, find}
use Rattle.circus_model.specs.declared.language_error.LanguageError.{LanguageError}
use Rattle.circus_model.specs.declared.language_error.LanguageError.TheVariants.{Range, Index, Zero, TooLong, StepLimit, CallLimit, ThreadSpent, WrongChoice, Unhandled}

abbrev pub number_of : LanguageError → ℕ
number_of Range = 60001
number_of Index = 60002
number_of Zero = 60003
number_of TooLong = 60004
number_of StepLimit = 60005
number_of CallLimit = 60006
number_of ThreadSpent = 60007
number_of WrongChoice = 60008
number_of Unhandled = 60009

-- the error with a number, if one has it
abbrev pub of_number : ℕ → Option LanguageError
of_number number =
    find (λ error. number_of error == number)
    (Range ∷ Index ∷ Zero ∷ TooLong ∷ StepLimit ∷ CallLimit ∷ ThreadSpent ∷ WrongChoice ∷ Unhandled ∷ [])

-- one of these numbers, which are consecutive
abbrev pub is_language_error : ℕ → Bool
is_language_error number = nat_le (number_of Range) number && nat_le number (number_of Unhandled)
