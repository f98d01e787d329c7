use Rattle.circus_plan_modules.proofs.Named.{nodes_ascii}
use Rattle.circus_node_command.proofs.served.end_of_result.Goals as goal

pub end_of_spent-requires : goal.end_of_spent-requires
end_of_spent-requires g c = nodes_ascii c.args.deployment.now c.requires.deployment
