use Rattle.std.proofs.Common.{◌≡◌, ◌-◌, ◌*◌, take, drop, ap, ◌∙◌}
use Rattle.circus_segment.specs.Cut.{part_at}
use Rattle.circus_segment.proofs.Cuts.{clamped_part}
use Rattle.circus_segment.proofs.cut.part_at.Goals as goal

pub returns : goal.returns
unfolding part_at
returns c =
    let m = c.args.message.now in
    let at : 1024 * c.from.result ≡ 1024 * (c.args.number - 1) = ap (λ n. 1024 * n) (c.from.ensures ∙ c.saturating_sub.ensures) in
    clamped_part m (1024 * c.from.result) 1024 _ _ c.min-start.ensures c.min-end.ensures ∙ ap (λ a. take 1024 (drop a m)) at
