use Rattle.std.proofs.Common.{◌+◌, [], ◌∷◌, ◌++◌, sym, ◌∙◌, ap}
use Rattle.circus_deployment.proofs.Hosting.{numbers_more}
use Rattle.circus_deployment.proofs.meaning.numbers_from.Goals as goal

pub loop-place-preserved : goal.loop-place-preserved
loop-place-preserved c =
    let first = c.args.first in
    let place = c.loop-place.place in
    c.in_ok-push.ensures.ok ∙ ap (λ l. l ++ (first + place) ∷ []) c.loop-place.invariant ∙ sym (numbers_more first place 1)
