-- What comes of a replay that ends before its last line.
use Rattle.std.specs.Prelude.{◌≡◌, ℕ, Option, List}
use Rattle.circus_record.specs.Naming.{Names}
use Rattle.circus_report.specs.declared.running.RunFault.{RunFault}
use Rattle.circus_report.specs.declared.running.RunFault.TheVariants as fault
use Rattle.circus_commands.specs.declared.status.Status.{Status}
use Rattle.circus_commands.specs.declared.status.Status.TheVariants.{SinkFault, NoMemory}
use Rattle.circus_commands.specs.Spent.{end_of_spent}
use Rattle.circus_program.specs.Replay.{cause_text, refuse_line}
use Rattle.circus_program.specs.Seen.Put.{IsPutEnd}

-- the end at the line of this number was put, and nothing where the sink had failed or memory had run out
abbrev pub IsEndedBy : Names → ℕ → RunFault → Option (List ℕ) → Option (List ℕ) → ℕ → ℕ → Status → Type 0
IsEndedBy names number (fault.Illegal cause) old new before after result = IsPutEnd (refuse_line number (cause_text names cause)) old new before after result
IsEndedBy names number (fault.Spent node peer) old new before after result = IsPutEnd (end_of_spent names (node, peer)) old new before after result
IsEndedBy names number fault.SinkFailed old new before after result = (result ≡ SinkFault) × (new ≡ old) × (after ≡ before)
IsEndedBy names number fault.NoMemory old new before after result = (result ≡ NoMemory) × (new ≡ old)
