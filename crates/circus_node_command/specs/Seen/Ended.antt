-- The end of a node, by what serving it answered.
use Rattle.std.specs.Prelude.{◌≡◌, ℕ, Result, Ok, Err}
use Rattle.circus_collate.specs.declared.deployment.Deployment.{Deployment}
use Rattle.circus_record.specs.Naming.{Names}
use Rattle.circus_serve.specs.declared.fault.ServeFault.{ServeFault}
use Rattle.circus_serve.specs.declared.fault.ServeFault.TheVariants as fault
use Rattle.circus_serve.specs.Recorded.{Recorded}
use Rattle.circus_commands.specs.Ending.{Ending}
use Rattle.circus_commands.specs.Spent.{end_of_spent}
use Rattle.circus_node_command.specs.NodeEnds.{done_end, link_fault}

abbrev pub EndsSo : {M : Type 0} → Names → Deployment → ℕ → Result (Recorded M) ServeFault → Ending → Type 0
EndsSo names d node (Ok recorded) ending = ending ≡ done_end names d node recorded
EndsSo names d node (Err fault.LinkFailed) ending = ending ≡ link_fault
EndsSo names d node (Err (fault.Spent peer)) ending = ending ≡ end_of_spent names (node, peer)
EndsSo names d node (Err fault.NoMemory) ending = ⊥
