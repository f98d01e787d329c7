use Rattle.circus_node.proofs.TroupeLemmas.{can_boot}
use Rattle.circus_node.proofs.laws.all_nodes_may_boot.Goals as goal

pub returns : goal.returns
returns c = λ d declared node good are within. can_boot d declared node good are within
