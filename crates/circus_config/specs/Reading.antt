-- The faults of the pass that reads: where reading stopped, and the rules of the interfaces that were read, also of one that
-- the stop cuts.
use Rattle.std.specs.Prelude.{ℕ, ◌+◌, ◌==◌, List, [], ◌∷◌, ◌++◌, map, Option, is_some}
use Rattle.circus_syntax.specs.declared.stopping.Stop.{Stop}
use Rattle.circus_syntax.specs.InterfaceTree.{InterfaceTree}
use Rattle.circus_fault.specs.declared.fault.Fault.{Fault}
use Rattle.circus_fault.specs.Least.{faults_if}
use Rattle.circus_fault.specs.Known.{Known, nobody, add_name}
use Rattle.circus_fault.specs.Stopping.{stop_faults}
use Rattle.circus_idl.specs.Faults.{Cut, cut_of, interface_faults}
use Rattle.circus_config.specs.declared.program_fault.ProgramCause.{ProgramCause}
use Rattle.circus_config.specs.declared.program_fault.ProgramCause.TheVariants.{Syntax, Deep, Repeated, TooMany}
use Rattle.circus_limits.specs.Limits.{most_interfaces}
use Rattle.circus_config.specs.Told.{interface_told}

-- the name of an interface behind earlier ones, of which there are so many
abbrev pub name_faults : Known → ℕ → InterfaceTree → List (Fault ProgramCause)
name_faults earlier number i = faults_if (is_some (earlier i.name.name)) i.name.at Repeated ++ faults_if (number == most_interfaces) i.name.at TooMany

-- interfaces from a number on, behind those of these names. A type or a list of fields in which reading stopped isn't
-- measured; it stands where no other one does
abbrev pub interfaces_faults : Cut → Known → ℕ → List InterfaceTree → List (Fault ProgramCause)
interfaces_faults cut earlier number [] = []
interfaces_faults cut earlier number (i ∷ is) =
    name_faults earlier number i ++ map interface_told (interface_faults cut i) ++ interfaces_faults cut (add_name i.name.name number earlier) (number + 1) is

-- all faults of what is read of a file
abbrev pub read_faults : Option Stop → List InterfaceTree → List (Fault ProgramCause)
read_faults stop interfaces = stop_faults Syntax Deep stop ++ interfaces_faults (cut_of stop) nobody 0 interfaces
