use Rattle.circus_plan_modules.proofs.Named.{nodes_ascii}
use Rattle.tests_command.proofs.calls.lines.Goals as goal

pub show_member-requires-clause-nodes : goal.show_member-requires-clause-nodes
show_member-requires-clause-nodes c = nodes_ascii c.args.deployment.now c.requires.deployment
