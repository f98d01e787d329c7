-- What a refusal says.
use Rattle.std.proofs.Common.{◌≡◌, ℕ, ◌⊎◌, inl, inr, List, subst}
use Rattle.std.specs.Prelude.{All, IsAscii}
use Rattle.std.specs.List.{AllByRecursion}
use Rattle.std.proofs.lemmas.List.Elements.{recursion_from_All}
use Rattle.circus_config.specs.declared.program_fault.ProgramCause.{ProgramCause}
use Rattle.circus_config.specs.declared.program_fault.ProgramFault.{ProgramFault}
use Rattle.circus_config.specs.declared.program_fault.ProgramFault.TheVariants.{Refused, NoMemory}
use Rattle.circus_config.specs.Told.{names_in, names_told}
use Rattle.circus_config.specs.Program.{IsRefused}

pub told_as : (fault : ProgramFault) (number : ℕ) (cause : ProgramCause) → fault ≡ Refused number cause → All IsAscii (names_told fault) → AllByRecursion IsAscii (names_in cause)
told_as fault number cause is told = recursion_from_All IsAscii (names_in cause) (subst (λ f. All IsAscii (names_told f)) is told)

pub refused_as : (text : List ℕ) (fault : ProgramFault) (number : ℕ) (cause : ProgramCause) → fault ≡ Refused number cause → (fault ≡ NoMemory) ⊎ IsRefused text fault → IsRefused text (Refused number cause)
refused_as text fault number cause is (inl none) = absurd (cc)
refused_as text fault number cause is (inr refused) = subst (λ f. IsRefused text f) is refused
