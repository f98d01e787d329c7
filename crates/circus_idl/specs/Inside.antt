-- The faults inside of types and lists in an interface, where the name of a type is one that is declared before, and none of
-- another interface.
use Rattle.std.specs.Prelude.{ℕ, Bool, cond, List, Option, Some, None}
use Rattle.circus_syntax.specs.declared.named.Named.{Named}
use Rattle.circus_syntax.specs.declared.named.Numeral.{Numeral}
use Rattle.circus_syntax.specs.declared.named.TypeName.{TypeName}
use Rattle.circus_syntax.specs.TypeTree.{TypeTree, GroupTrees}
use Rattle.circus_fault.specs.declared.fault.Fault.{Fault}
use Rattle.circus_type.specs.Inside as type
use Rattle.circus_idl.specs.declared.fault.Cause.{Cause}
use Rattle.circus_idl.specs.OfTypes.{of_type}

-- what the own name of a type has
abbrev pub by_name : {A : Type 0} → (List ℕ → A) → TypeName → A
by_name of_name t = of_name t.name.name

-- the place of what is unknown in a name
abbrev pub unknown_at : (List ℕ → Bool) → Option Named → Named → Option ℕ
unknown_at is_known None name = cond (is_known name.name) None (Some name.at)
unknown_at is_known (Some m) name = Some m.at

abbrev pub unknown_in : (List ℕ → Bool) → TypeName → Option ℕ
unknown_in is_known t = unknown_at is_known t.«module» t.name

abbrev pub repeated_name : (List ℕ → Bool) → Named → List (Fault Cause)
repeated_name = type.repeated_name of_type

abbrev pub repeated_number : (ℕ → Bool) → Numeral → List (Fault Cause)
repeated_number = type.repeated_number of_type

abbrev pub above : ℕ → Numeral → List (Fault Cause)
above = type.above of_type

abbrev pub repeated_names : (List ℕ → Bool) → List Named → List (Fault Cause)
repeated_names = type.repeated_names of_type

abbrev pub inside_faults : (List ℕ → Bool) → TypeTree → List (Fault Cause)
inside_faults is_known t = type.inside of_type (unknown_in is_known) t

abbrev pub inside_groups : (List ℕ → Bool) → GroupTrees → List (Fault Cause)
inside_groups is_known groups = type.inside_groups of_type (unknown_in is_known) groups
