use Rattle.std.proofs.Common.{◌≡◌, IfOk, sym, ap, subst, ◌∙◌}
use Rattle.circus_node.specs.declared.acting.Consequences.{Consequences}
use Rattle.circus_node.specs.NodeState.{Acting}
use Rattle.circus_node.specs.Making.{is_told_to_join}
use Rattle.circus_node.specs.Seen.ActingOf.{acting_of}
use Rattle.circus_node.proofs.acting.Acting.join.Goals as goal

pub returns-in-Member-clause-acting : goal.returns-in-Member-clause-acting
returns-in-Member-clause-acting g c =
    let M = g.M.Module in
    let is = sym (ap acting_of c.in-Member.is) ∙ c.self.view_is in
    subst (λ (a : Acting g.row.M.Denot). IfOk c.happen.result (λ (made : Acting g.row.M.Denot × Consequences). made.0 ≡ (is_told_to_join M.declared M.turn c.args.at a).acting))
    is c.happen.ensures.acting

pub returns-in-Member-clause-came : goal.returns-in-Member-clause-came
returns-in-Member-clause-came g c =
    let M = g.M.Module in
    let is = sym (ap acting_of c.in-Member.is) ∙ c.self.view_is in
    subst (λ (a : Acting g.row.M.Denot). IfOk c.happen.result (λ (made : Acting g.row.M.Denot × Consequences). made.1 ≡ (is_told_to_join M.declared M.turn c.args.at a).came))
    is c.happen.ensures.came
