use Rattle.circus_plan_modules.proofs.Named.{nodes_ascii}
use Rattle.circus_node_command.proofs.served.end_of_record.Goals as goal

pub show_node-requires-clause-nodes : goal.show_node-requires-clause-nodes
show_node-requires-clause-nodes g c = nodes_ascii c.args.deployment.now c.requires.deployment
