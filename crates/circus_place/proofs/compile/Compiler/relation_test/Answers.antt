use Rattle.std.proofs.Common.{◌∙◌, ap}
use Rattle.std.specs.Prelude.{slice_index}
use Rattle.circus_place.specs.Seen.Table.{pointed_to, relates}
use Rattle.circus_place.proofs.Compiled.{related_is}
use Rattle.circus_place.proofs.compile.Compiler.relation_test.Goals as goal

pub returns-clause-same : goal.returns-clause-same
returns-clause-same c = λ machines choice are placed.
    (λ i. relates c.in_ok-relation.relation (slice_index choice (c.member_of.ensures i)) (slice_index choice (c.member_of-2.ensures i)))
    ∙ related_is c.args.comparison c.in_ok-relation.relation machines c.args.self.now.machines.items c.args.self.now.members choice c.args.left.now c.args.right.now (pointed_to c.deref.result.now) (pointed_to c.deref-2.result.now)
    c.in_ok-relation.ensures (ap pointed_to c.deref.ensures.value ∙ c.in_ok-values.ensures) (ap pointed_to c.deref-2.ensures.value ∙ c.in_ok-values-2.ensures) are placed c.requires.some c.requires.left c.requires.right
