-- The faults of a placing as it is written, in the order of its text.
use Rattle.std.specs.Prelude.{ℕ, ◌+◌, ◌==◌, List, [], ◌∷◌, ◌++◌, map, Option, Some, None, is_some, is_none}
use Rattle.circus_syntax.specs.declared.named.Named.{Named}
use Rattle.circus_syntax.specs.declared.stopping.Stop.{Stop}
use Rattle.circus_place.specs.Obeys.{most_machines, most_members}
use Rattle.circus_fault.specs.declared.fault.Fault.{Fault}
use Rattle.circus_fault.specs.Least.{faults_if, out_of}
use Rattle.circus_fault.specs.Known.{Known, nobody, add_name}
use Rattle.circus_fault.specs.Known as names
use Rattle.circus_fault.specs.Stopping.{stop_faults}
use Rattle.circus_place.specs.declared.place_fault.PlaceCause.{PlaceCause}
use Rattle.circus_place.specs.declared.place_fault.PlaceCause.TheVariants.{Syntax, Deep, UnknownName, Repeated, OutOfRange, TooMany}
use Rattle.circus_place.specs.declared.text.AttributeText.{AttributeText}
use Rattle.circus_place.specs.declared.text.MachineText.{MachineText}
use Rattle.circus_place.specs.declared.text.OperandText.{OperandText}
use Rattle.circus_place.specs.declared.text.OperandText.TheVariants as operand
use Rattle.circus_place.specs.Written.{Written, or, and, not, group, differ, compare, holds, PlacingTree}

-- a name that stands before
abbrev pub repeat_faults : Known → Named → List (Fault PlaceCause)
repeat_faults known n = faults_if (is_some (known n.name)) n.at Repeated

abbrev pub repeated_names : Known → List Named → List (Fault PlaceCause)
repeated_names known [] = []
repeated_names known (n ∷ ns) = repeat_faults known n ++ repeated_names (add_name n.name 0 known) ns

abbrev pub attribute_names : List AttributeText → List Named
attribute_names attributes = map (λ (a : AttributeText). a.name) attributes

-- the machine that has this number
abbrev pub machine_faults : Known → ℕ → MachineText → List (Fault PlaceCause)
machine_faults known number m =
    repeat_faults known m.name ++ faults_if (number == most_machines) m.name.at TooMany ++ repeated_names nobody (attribute_names m.attributes)

-- the machines from this number on
abbrev pub machines_faults : Known → ℕ → List MachineText → List (Fault PlaceCause)
machines_faults known number [] = []
machines_faults known number (m ∷ ms) = machine_faults known number m ++ machines_faults (add_name m.name.name number known) (number + 1) ms

-- the numbers of machines by their names
abbrev pub numbers_of : List MachineText → Known
numbers_of machines = names.numbers_of (λ (m : MachineText). m.name.name) machines

abbrev pub operand_faults : ℕ → OperandText → List (Fault PlaceCause)
operand_faults members (operand.Attribute member name) = out_of OutOfRange members member
operand_faults members (operand.Fixed c) = []

abbrev pub condition_faults : ℕ → Written → List (Fault PlaceCause)
condition_faults members (or a b) = condition_faults members a ++ condition_faults members b
condition_faults members (and a b) = condition_faults members a ++ condition_faults members b
condition_faults members (not a) = condition_faults members a
condition_faults members (group a) = condition_faults members a
condition_faults members (differ name) = []
condition_faults members (compare c a b) = operand_faults members a ++ operand_faults members b
condition_faults members (holds a) = operand_faults members a

-- the names of no machine
abbrev pub unknown_names : Known → List Named → List (Fault PlaceCause)
unknown_names machines [] = []
unknown_names machines (n ∷ ns) = faults_if (is_none (machines n.name)) n.at UnknownName ++ unknown_names machines ns

abbrev pub present_faults : Known → Option (List Named) → List (Fault PlaceCause)
present_faults machines None = []
present_faults machines (Some names) = unknown_names machines names ++ repeated_names nobody names

abbrev pub placing_faults : PlacingTree → List (Fault PlaceCause)
placing_faults p =
    machines_faults nobody 0 p.machines ++ out_of OutOfRange most_members p.members ++ condition_faults p.members.value p.condition
    ++ present_faults (numbers_of p.machines) p.present

-- all faults of what is read of a text
abbrev pub read_faults : Option Stop → PlacingTree → List (Fault PlaceCause)
read_faults stop p = stop_faults Syntax Deep stop ++ placing_faults p
