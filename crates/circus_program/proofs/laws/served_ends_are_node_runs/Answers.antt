use Rattle.circus_program.proofs.ServedRuns.{served_ends, served_so_far}
use Rattle.circus_program.proofs.laws.served_ends_are_node_runs.Goals as goal

pub returns-clause-done : goal.returns-clause-done
returns-clause-done c = λ plan node turns old new ending is end done. served_ends plan is node turns old new ending end done

pub returns-clause-so_far : goal.returns-clause-so_far
returns-clause-so_far c = λ plan node turns old new ending is end. served_so_far plan is node turns old new ending end
