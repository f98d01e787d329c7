-- How code is seen: what is found so far, which faults are looked for, and how the answers of the crates below are told.
use Rattle.std.specs.Prelude.{ℕ, List, ◌++◌, map, Option, Some, None, option_map}
use Rattle.circus_fault.specs.declared.fault.Fault.{Fault}
use Rattle.circus_idl.specs.declared.interface.Interface.{Interface}
use Rattle.circus_idl.specs.declared.idl_fault.IdlFault.{IdlFault}
use Rattle.circus_idl.specs.declared.idl_fault.IdlFault.TheVariants as interface
use Rattle.circus_lang.specs.ModuleTree.{ModuleTree}
use Rattle.circus_check.specs.Faults.{faults}
use Rattle.circus_check.specs.declared.check_fault.CheckFault.{CheckFault}
use Rattle.circus_check.specs.declared.check_fault.CheckFault.TheVariants as check
use Rattle.circus_troupe.specs.declared.deployment_text.DeploymentText.{DeploymentText}
use Rattle.circus_deployment.specs.Nodes.{troupe_numbers}
use Rattle.circus_deployment.specs.Faults.{first_without_troupe, deployment_faults}
use Rattle.circus_deployment.specs.declared.deployment_fault.DeploymentFault.{DeploymentFault}
use Rattle.circus_deployment.specs.declared.deployment_fault.DeploymentFault.TheVariants as deployment
use Rattle.circus_config.specs.declared.program_fault.ProgramCause.{ProgramCause}
use Rattle.circus_config.specs.declared.program_fault.ProgramCause.TheVariants.{Syntax, Deep, UnknownName, Repeated, OutOfRange, TooLarge, Mistyped, NoReturn, Forward, Shared, Missing, TooMany}
use Rattle.circus_config.specs.declared.least.Found.{Found}
use Rattle.circus_config.specs.declared.least.Least.{Least}
use Rattle.circus_config.specs.Told.{name_at, module_told, deployment_told}

abbrev pub fault_of : Found → Fault ProgramCause
fault_of f = record { place = f.place; cause = f.cause }

abbrev pub least_fault : Least → Option (Fault ProgramCause)
least_fault l = option_map fault_of l.found

-- the faults of the pass that checks, where bodies behind a fault aren't looked into
abbrev pub looked_faults : List Interface → List ModuleTree → ℕ → DeploymentText → List (Fault ProgramCause)
looked_faults interfaces modules end d =
    map (module_told interfaces modules) (faults interfaces modules)
    ++ map (deployment_told (first_without_troupe (troupe_numbers d.troupes) modules)) (deployment_faults modules end d)

-- ---- answers of the crates below; want of memory is no fault of a file

abbrev pub found_at : ℕ → ProgramCause → Option (Fault ProgramCause)
found_at place cause = Some (record { place = place; cause = cause })

abbrev pub interface_answer : IdlFault → Option (Fault ProgramCause)
interface_answer (interface.Expected place) = found_at place Syntax
interface_answer (interface.Deep place) = found_at place Deep
interface_answer (interface.Unknown place) = found_at place UnknownName
interface_answer (interface.Repeated place) = found_at place Repeated
interface_answer (interface.OutOfRange place) = found_at place OutOfRange
interface_answer (interface.TooLarge place) = found_at place TooLarge
interface_answer interface.NoMemory = None

-- modules have these names
abbrev pub modules_answer : List (List ℕ) → CheckFault → Option (Fault ProgramCause)
modules_answer names (check.Unknown place) = found_at place UnknownName
modules_answer names (check.Repeated place) = found_at place Repeated
modules_answer names (check.OutOfRange place) = found_at place OutOfRange
modules_answer names (check.TooLarge place) = found_at place TooLarge
modules_answer names (check.Mistyped place) = found_at place Mistyped
modules_answer names (check.Unfinished place) = found_at place NoReturn
modules_answer names (check.Forward place) = found_at place Forward
modules_answer names (check.Shared place shared first second) = found_at place (Shared (name_at names shared) (name_at names first) (name_at names second))
modules_answer names (check.Missing place name) = found_at place (Missing name)
modules_answer names (check.TooMany place) = found_at place TooMany
modules_answer names check.NoMemory = None

abbrev pub deployment_answer : DeploymentFault → Option (Fault ProgramCause)
deployment_answer (deployment.Unknown place) = found_at place UnknownName
deployment_answer (deployment.Repeated place) = found_at place Repeated
deployment_answer (deployment.OutOfRange place) = found_at place OutOfRange
deployment_answer (deployment.Missing place name) = found_at place (Missing name)
deployment_answer (deployment.TooMany place) = found_at place TooMany
deployment_answer deployment.NoMemory = None
