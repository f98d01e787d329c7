use Rattle.std.proofs.Common.{subst}
use Rattle.circus_value.specs.Seen.ShapeWords.{AreWords, label_words}
use Rattle.circus_value.proofs.ShapeWords.{labels_told, lists_told}
use Rattle.circus_value.proofs.shape.Labels.is_like.Goals as goal

pub returns : goal.returns
returns c =
    lists_told label_words labels_told c.args.self.now c.args.other.now c.self.inside.words c.other.inside.words c.are_like.result
    (subst (λ xs. AreWords (label_words xs) c.self.inside.words) c.self.view_is c.self.invariant.1)
    (subst (λ xs. AreWords (label_words xs) c.other.inside.words) c.other.view_is c.other.invariant.1)
    c.are_like.ensures.one c.are_like.ensures.other c.are_like.ensures.decides
