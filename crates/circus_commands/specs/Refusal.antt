-- Why a program is refused, as it is written.
use Rattle.std.specs.Prelude.{ℕ, ◌≡◌, List, ◌++◌, codes}
use Rattle.std.specs.Fmt.{decimal}
use Rattle.circus_record.specs.Line.{line}
use Rattle.circus_config.specs.declared.program_fault.ProgramCause.{ProgramCause}
use Rattle.circus_config.specs.declared.program_fault.ProgramCause.TheVariants.{BadCharacter, OpenString, LongNumber, Syntax, Deep, UnknownName, Repeated, OutOfRange, TooLarge, Mistyped, NoReturn, Forward, Shared, Missing, TooMany}
use Rattle.circus_config.specs.declared.program_fault.ProgramFault.TheVariants.{Refused}
use Rattle.circus_config.specs.declared.plan.Plan.{Plan}
use Rattle.circus_config.specs.Program.{IsProgramOf, IsRefused}
use Rattle.circus_commands.specs.declared.status.Status.TheVariants.{BadProgram}
use Rattle.circus_commands.specs.Ending.{Ending}

-- a cause in words
abbrev pub cause_text : ProgramCause → List ℕ
cause_text BadCharacter = codes "bad character"
cause_text OpenString = codes "open string"
cause_text LongNumber = codes "long number"
cause_text Syntax = codes "syntax"
cause_text Deep = codes "nested too deep"
cause_text UnknownName = codes "unknown name"
cause_text Repeated = codes "repeated name"
cause_text OutOfRange = codes "out of range"
cause_text TooLarge = codes "too large"
cause_text Mistyped = codes "type mismatch"
cause_text NoReturn = codes "no return"
cause_text Forward = codes "forward import"
cause_text (Shared shared first second) = codes "shared " ++ shared ++ codes " " ++ first ++ codes " " ++ second
cause_text (Missing name) = codes "missing " ++ name
cause_text TooMany = codes "too many"

-- the line and the cause
abbrev pub refused_text : ℕ → ProgramCause → List ℕ
refused_text number cause = line (codes "program line " ++ decimal number ++ codes ": " ++ cause_text cause)

-- the bytes are a program
abbrev pub IsGood : List ℕ → Type 0
IsGood bytes = (plan : Plan) × IsProgramOf bytes plan

-- the end of a program that is refused
abbrev pub IsEndOfRefused : List ℕ → Ending → Type 0
IsEndOfRefused bytes ending =
    (number : ℕ) × (cause : ProgramCause) × IsRefused bytes (Refused number cause) × (ending ≡ record { status = BadProgram; text = refused_text number cause })
