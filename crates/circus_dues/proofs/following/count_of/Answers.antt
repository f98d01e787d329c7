use Rattle.std.proofs.Common.{ap, ◌∙◌}
use Rattle.std.specs.Prelude.{unwrap_or, slice_get}
use Rattle.std.proofs.lemmas.Option.{unwrap_or-slice_get}
use Rattle.circus_dues.proofs.following.count_of.Goals as goal

pub returns : goal.returns
returns c =
    c.unwrap_or.ensures ∙ ap (λ o. unwrap_or o 0) (c.copied.ensures ∙ c.get.ensures)
    ∙ ap (λ i. unwrap_or (slice_get c.args.clock.now i) 0) c.from.ensures ∙ unwrap_or-slice_get c.args.clock.now c.args.module 0
