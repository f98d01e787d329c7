use Rattle.circus_headline_theory.proofs.Owed.Fanouts.{calls_who_is_owed}
use Rattle.circus_headline_theory.proofs.laws.owed.calls_go_to_whom_they_are_owed.Goals as goal

pub returns : goal.returns
returns c = λ header body kind first gone acts real. calls_who_is_owed header body kind first gone acts real
