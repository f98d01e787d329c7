use Rattle.circus_program.proofs.Reports.{is_reported, is_cut_by_refusal, is_cut_by_spending}
use Rattle.circus_program.proofs.laws.reports_are_of_worlds.Goals as goal

pub returns-clause-done : goal.returns-clause-done
returns-clause-done c = is_reported

pub returns-clause-refused : goal.returns-clause-refused
returns-clause-refused c = is_cut_by_refusal

pub returns-clause-spent : goal.returns-clause-spent
returns-clause-spent c = is_cut_by_spending
