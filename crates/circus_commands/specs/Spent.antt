-- How a command ends where no call number is left.
use Rattle.std.specs.Prelude.{ℕ, List, ◌++◌, codes}
use Rattle.circus_record.specs.Line.{line}
use Rattle.circus_record.specs.Naming.{Names}
use Rattle.circus_commands.specs.declared.status.Status.TheVariants.{Spent}
use Rattle.circus_commands.specs.Ending.{Ending}

-- a node has no number left for another one
abbrev pub end_of_spent : Names → ℕ × ℕ → Ending
end_of_spent names nodes = record { status = Spent; text = line (codes "spent " ++ names.node nodes.0 ++ codes " " ++ names.node nodes.1) }
