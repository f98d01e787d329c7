use Rattle.circus_world_theory.proofs.Quiescence.Plain.{plain_roots_are_done}
use Rattle.circus_headline_theory.proofs.Ended.{facts_end}
use Rattle.circus_headline_theory.proofs.laws.ended.quiet_worlds_show_ended_roots.Goals as goal

pub returns : goal.returns
returns c = λ d program hosted lines booted last world quiet enough.
    facts_end d last (plain_roots_are_done d program hosted lines booted last world quiet enough)
