use Rattle.std.specs.Bool.{Decides}
use Rattle.std.proofs.Common.{◌≡◌, ◌∙◌, true, false, List, sym, subst}
use Rattle.circus_member_rules.specs.declared.occurrence.Difference.{Difference}
use Rattle.circus_member_theory.specs.Made.{at_most_one}
use Rattle.circus_verdict.proofs.Stationing.{untold_numbers, untold_gives, tells_then}
use Rattle.circus_verdict.proofs.telling.is_told.Goals as goal

pub returns-then-not-has_numbers-clause-tells : goal.returns-then-not-has_numbers-clause-tells
returns-then-not-has_numbers-clause-tells c = λ d node acts came stand same peers.
    untold_numbers d node acts came c.args.made (at_most_one c.args.differs.now) c.args.told.now c.hand.new.pairs c.hand.new.gives c.in_ok-has_numbers.has_numbers c.if-not-has_numbers.true
    (c.in_ok-has_numbers.ensures.handed d node acts came stand same peers)

pub returns-then-not-is_same-clause-tells : goal.returns-then-not-is_same-clause-tells
returns-then-not-is_same-clause-tells c = λ d node acts came stand same peers.
    untold_gives d node acts came c.args.made (at_most_one c.args.differs.now) c.args.told.now c.hand.new.pairs c.hand.new.gives c.in_ok-has_numbers.has_numbers c.if-not-has_numbers.false
    (c.in_ok-has_numbers.ensures.handed d node acts came stand same peers)
    (λ is. let clash : false ≡ true = sym c.if-not-is_same.true ∙ c.is_same.ensures.1 is in cc)

pub returns-clause-tells : goal.returns-clause-tells
returns-clause-tells c = λ d node acts came stand same peers.
    tells_then d node acts came c.args.made (at_most_one c.args.differs.now) c.args.told.now c.hand.new.pairs c.hand.new.gives c.in_ok-has_numbers.has_numbers c.if-not-has_numbers.false
    (c.in_ok-has_numbers.ensures.handed d node acts came stand same peers) (c.is_same.ensures.0 c.if-not-is_same.false) c.differs_so.result
    (subst (λ (l : List Difference). Decides c.differs_so.result (l ≡ at_most_one c.args.differs.now)) c.as_slice.ensures c.differs_so.ensures)
