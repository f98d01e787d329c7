-- Which node a name is of.
use Rattle.std.specs.Prelude.{ℕ, ◌≡◌, List, ◌++◌, codes, Some, slice_get, option_map}
use Rattle.circus_collate.specs.declared.deployment.Deployment.{Deployment}
use Rattle.circus_record.specs.Line.{line}
use Rattle.circus_record.specs.Naming.{host_name}
use Rattle.circus_commands.specs.declared.status.Status.TheVariants.{BadProgram}
use Rattle.circus_commands.specs.Ending.{Ending}

-- the node of a program that is called so
abbrev pub IsNamed : Deployment → List ℕ → ℕ → Type 0
IsNamed d name node = option_map host_name (slice_get d.nodes node) ≡ Some name

-- none is
abbrev pub no_node : List ℕ → Ending
no_node name = record { status = BadProgram; text = line (codes "program has no node " ++ name) }
