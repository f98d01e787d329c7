use Rattle.circus_headline_theory.proofs.Ended.{none_left, roots_end}
use Rattle.circus_headline_theory.proofs.laws.ended.enough_deliveries_show_ended_roots.Goals as goal

pub returns-clause-none : goal.returns-clause-none
returns-clause-none c = λ d program hosted most booted done world enough settled. none_left d program hosted most booted done world enough settled

pub returns-clause-roots : goal.returns-clause-roots
returns-clause-roots c = λ d program hosted most booted done world enough settled asks. roots_end d program hosted most booted done world enough settled asks
