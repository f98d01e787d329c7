use Rattle.std.proofs.Common.{◌≡◌, List, sym, ap, subst, ◌∙◌}
use Rattle.circus_member_rules.specs.declared.occurrence.Effect.{Effect}
use Rattle.circus_member_rules.specs.declared.occurrence.Difference.{Difference}
use Rattle.circus_member_rules.specs.MemberState.{MemberState}
use Rattle.circus_node.specs.declared.acting.Consequences.{Consequences}
use Rattle.circus_node.specs.NodeState.{Acting, member}
use Rattle.circus_node.specs.Making.{consequences}
use Rattle.circus_node.specs.Seen.Kept.{IsActing}
use Rattle.circus_node.proofs.ViewLemmas.{still_member}
use Rattle.circus_node.proofs.acting.happen.Goals as goal

both_came : (came : Consequences) (es made : List Effect) (ds told : List Difference)
    → came ≡ consequences es ds → es ≡ made → ds ≡ told → came ≡ consequences made told
both_came came es made ds told is effects differences =
    is ∙ ap (λ x. consequences x ds) effects ∙ ap (λ x. consequences made x) differences

pub returns-clause-acting : goal.returns-clause-acting
returns-clause-acting g c = c.member.ensures ∙ ap (λ (m : MemberState g.row.M.Denot). member m) c.in_ok-member.ensures.member

pub returns-clause-came : goal.returns-clause-came
returns-clause-came g c =
    both_came c.of-came.result c.in_ok-member.effects _ c.in_ok-member.differences _ c.of-came.ensures c.in_ok-member.ensures.effects c.in_ok-member.ensures.differences

pub returns-clause-kept : goal.returns-clause-kept
returns-clause-kept g c d of =
    let M = g.M.Module in
    subst (λ (a : Acting g.row.M.Denot). IsActing d a) (sym c.member.ensures)
    (still_member M.declared M.turn c.args.at c.args.occurrence c.args.member c.in_ok-member.member d of c.in_ok-member.ensures.member, c.in_ok-member.ensures.rest)
