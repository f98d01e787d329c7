-- How a command ends.
use Rattle.std.specs.Prelude.{ℕ, List}
use Rattle.circus_commands.specs.declared.status.Status.{Status}

-- its status, and all that it writes
pub record Ending : Type 0 where
  pub status : Status
  pub text : List ℕ
