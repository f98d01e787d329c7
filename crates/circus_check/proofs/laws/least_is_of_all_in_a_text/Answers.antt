use Rattle.circus_check.proofs.laws.least_is_of_all_in_a_text.Goals as goal

pub returns : goal.returns
returns c interfaces modules text are = c.least_is_of_all.ensures interfaces modules (c.modules_are_in_order.ensures interfaces modules text are)
