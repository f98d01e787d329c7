use Rattle.std.proofs.Common.{List, subst}
use Rattle.circus_value.specs.ShapeTree.{ArmTree, arm_trees}
use Rattle.circus_value.specs.Seen.ShapeWords.{AreWords, arm_words}
use Rattle.circus_value.proofs.ShapeWords.{arms_told, lists_told}
use Rattle.circus_value.proofs.shape.Arms.is_like.Goals as goal

pub returns : goal.returns
returns c =
    let spelled = (λ (arms : List ArmTree). arm_words (arm_trees arms)) in
    lists_told spelled arms_told c.args.self.now c.args.other.now c.self.inside.words c.other.inside.words c.are_like.result
    (subst (λ xs. AreWords (spelled xs) c.self.inside.words) c.self.view_is c.self.invariant.1)
    (subst (λ xs. AreWords (spelled xs) c.other.inside.words) c.other.view_is c.other.invariant.1)
    c.are_like.ensures.one c.are_like.ensures.other c.are_like.ensures.decides
