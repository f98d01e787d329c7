use Rattle.std.proofs.Common.{◌+◌, ◌≤◌, length, sym, ◌∙◌, ap, subst, arith}
use Rattle.std.specs.List.{AllByRecursion}
use Rattle.circus_deployment.specs.declared.meaning.NumberedTroupe.{NumberedTroupe}
use Rattle.circus_limits.specs.Limits.{most_nodes}
use Rattle.circus_deployment.specs.InRange.{IsTroupeInRange}
use Rattle.circus_deployment.specs.Nodes.{hosts_of, number_troupes}
use Rattle.circus_deployment.proofs.NumberedMore.{few_numbered, all_in_range}
use Rattle.circus_deployment.proofs.checking.deployment_of.Goals as goal

pub troupes-requires-clause-few : goal.troupes-requires-clause-few
troupes-requires-clause-few c =
    subst (AllByRecursion (λ (n : NumberedTroupe). n.first + length (hosts_of n.troupe.now) ≤ most_nodes)) (sym c.as_slice-2.ensures.value)
    (few_numbered c.in_ok-numbered.numbered.items c.args.text.now.troupes (c.in_ok-numbered.ensures ∙ ap number_troupes c.as_slice.ensures) (omega (arith, c.requires.few)))

pub troupes-requires-clause-in_range : goal.troupes-requires-clause-in_range
troupes-requires-clause-in_range c =
    subst (AllByRecursion (λ (n : NumberedTroupe). IsTroupeInRange n.troupe.now)) (sym c.as_slice-2.ensures.value)
    (all_in_range c.in_ok-numbered.numbered.items c.args.text.now.troupes (c.in_ok-numbered.ensures ∙ ap number_troupes c.as_slice.ensures) c.requires.in_range.troupes)
