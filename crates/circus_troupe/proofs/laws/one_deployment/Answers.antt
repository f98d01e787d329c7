use Rattle.std.proofs.Common.{sym, ◌∙◌, ap}
use Rattle.circus_syntax.specs.Reader.{Reader}
use Rattle.circus_troupe.specs.declared.deployment_text.DeploymentText.{DeploymentText}
use Rattle.circus_troupe.proofs.Whole.{deployment_read}
use Rattle.circus_troupe.proofs.laws.one_deployment.Goals as goal

pub returns : goal.returns
returns c = λ all tree other one two. ap (λ (x : DeploymentText × Reader). x.0) (sym (deployment_read all tree 0 one) ∙ deployment_read all other 0 two)
