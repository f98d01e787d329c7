use Rattle.circus_program.proofs.Accepting.Written.{audits_accept, no_bad_line, is_a_run}
use Rattle.circus_program.proofs.laws.audits_accept_served_nodes.Goals as goal

pub returns-clause-accepted : goal.returns-clause-accepted
returns-clause-accepted c = λ plan node turns old new ending is named within end done. audits_accept plan is named node within turns old new ending end done

pub returns-clause-no_bad_line : goal.returns-clause-no_bad_line
returns-clause-no_bad_line c = no_bad_line

pub returns-clause-a_run : goal.returns-clause-a_run
returns-clause-a_run c = is_a_run
