-- The faults of interfaces, of modules and of deployments as a program file tells them: modules by their names.
use Rattle.std.specs.Prelude.{ℕ, suc, List, [], ◌∷◌, map, take, Option, Some, None, unwrap_or, slice_get}
use Rattle.circus_fault.specs.declared.fault.Fault.{Fault}
use Rattle.circus_idl.specs.declared.fault.Cause as idl
use Rattle.circus_idl.specs.declared.fault.Cause.TheVariants as interface
use Rattle.circus_idl.specs.declared.interface.Procedure.{Procedure}
use Rattle.circus_idl.specs.declared.interface.Interface.{Interface}
use Rattle.circus_resolve.specs.declared.cause.CheckCause.{CheckCause}
use Rattle.circus_resolve.specs.declared.cause.CheckCause.TheVariants as check
use Rattle.circus_lang.specs.ModuleTree.{ModuleTree}
use Rattle.circus_limits.specs.Limits.{most_modules}
use Rattle.circus_check.specs.Answer.{lacks, shares, SharedBy}
use Rattle.circus_deployment.specs.declared.cause.Cause as deployed
use Rattle.circus_deployment.specs.declared.cause.Cause.TheVariants as deployment
use Rattle.circus_config.specs.declared.program_fault.ProgramCause.{ProgramCause}
use Rattle.circus_config.specs.declared.program_fault.ProgramCause.TheVariants.{BadCharacter, OpenString, LongNumber, Syntax, Deep, UnknownName, Repeated, OutOfRange, TooLarge, Mistyped, NoReturn, Forward, Shared, Missing, TooMany}
use Rattle.circus_config.specs.declared.program_fault.ProgramFault.{ProgramFault}
use Rattle.circus_config.specs.declared.program_fault.ProgramFault.TheVariants.{Refused, NoMemory}

-- ---- interfaces

abbrev pub interface_cause : idl.Cause → ProgramCause
interface_cause interface.Expected = Syntax
interface_cause interface.Deep = Deep
interface_cause interface.Unknown = UnknownName
interface_cause interface.Repeated = Repeated
interface_cause interface.OutOfRange = OutOfRange
interface_cause interface.TooLarge = TooLarge

abbrev pub interface_told : Fault idl.Cause → Fault ProgramCause
interface_told f = record { place = f.place; cause = interface_cause f.cause }

-- ---- modules

abbrev pub module_names : List ModuleTree → List (List ℕ)
module_names modules = map (λ (m : ModuleTree). m.name.name) modules

-- the name of this number
abbrev pub name_at : List (List ℕ) → ℕ → List ℕ
name_at names number = unwrap_or (slice_get names number) []

-- what is told of a module that two roots share, and of a procedure that a module lacks; a fault of either cause stands at a
-- name of which there is something to tell
abbrev pub shared_cause : List (List ℕ) → Option SharedBy → ProgramCause
shared_cause names None = Shared (name_at names 0) (name_at names 0) (name_at names 0)
shared_cause names (Some s) = Shared (name_at names s.shared.«module») (name_at names s.shared.first) (name_at names s.second)

abbrev pub lacking_cause : Option Procedure → ProgramCause
lacking_cause None = Missing []
lacking_cause (Some p) = Missing p.name

module _ (interfaces : List Interface) (modules : List ModuleTree) where
  abbrev pub module_cause : ℕ → CheckCause → ProgramCause
  module_cause place check.Unknown = UnknownName
  module_cause place check.Repeated = Repeated
  module_cause place check.OutOfRange = OutOfRange
  module_cause place check.TooLarge = TooLarge
  module_cause place check.Mistyped = Mistyped
  module_cause place check.Unfinished = NoReturn
  module_cause place check.Forward = Forward
  module_cause place check.Shared = shared_cause (module_names modules) (shares modules place 0 (take (suc most_modules) modules))
  module_cause place check.Missing = lacking_cause (lacks interfaces place (take (suc most_modules) modules))
  module_cause place check.TooMany = TooMany

  abbrev pub module_told : Fault CheckCause → Fault ProgramCause
  module_told f = record { place = f.place; cause = module_cause f.place f.cause }

-- ---- deployments

-- where this module has no troupe
abbrev pub deployment_cause : Option (List ℕ) → deployed.Cause → ProgramCause
deployment_cause lacks deployment.Unknown = UnknownName
deployment_cause lacks deployment.Repeated = Repeated
deployment_cause lacks deployment.OutOfRange = OutOfRange
deployment_cause lacks deployment.Missing = Missing (unwrap_or lacks [])
deployment_cause lacks deployment.TooMany = TooMany

abbrev pub deployment_told : Option (List ℕ) → Fault deployed.Cause → Fault ProgramCause
deployment_told lacks f = record { place = f.place; cause = deployment_cause lacks f.cause }

-- ---- what an answer names

abbrev pub names_in : ProgramCause → List (List ℕ)
names_in BadCharacter = []
names_in OpenString = []
names_in LongNumber = []
names_in Syntax = []
names_in Deep = []
names_in UnknownName = []
names_in Repeated = []
names_in OutOfRange = []
names_in TooLarge = []
names_in Mistyped = []
names_in NoReturn = []
names_in Forward = []
names_in (Shared shared first second) = shared ∷ first ∷ second ∷ []
names_in (Missing name) = name ∷ []
names_in TooMany = []

abbrev pub names_told : ProgramFault → List (List ℕ)
names_told (Refused line cause) = names_in cause
names_told NoMemory = []
