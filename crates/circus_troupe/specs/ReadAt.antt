-- What reading a deployment at a token of a text answers.
use Rattle.std.specs.Prelude.{◌≡◌, ℕ, ◌-◌, List, length}
use Rattle.circus_text.specs.declared.token.Token.{Token}
use Rattle.circus_syntax.specs.Placed.{Placed}
use Rattle.circus_syntax.specs.Read.{placed_from}
use Rattle.circus_syntax.specs.Reader.{open_at}
use Rattle.circus_troupe.specs.declared.read.ReadDeployment.{ReadDeployment}
use Rattle.circus_troupe.specs.DeploymentReading.{deployment}

-- the tree, what is left and the stop are those of the reader at these tokens
pub record Answers (text : List ℕ) (ts : List Token) (at : ℕ) (read : ReadDeployment) : Type 0 where
  pub left : List Placed
  pub is : deployment (open_at (placed_from text ts at) (length text)) ≡ (read.deployment, record { rest = left; end = length text; stop = read.stop })
  pub next : read.next ≡ length ts - length left
