use Rattle.std.proofs.Common.{rules, filter, ap, ◌∙◌}
use Rattle.indexmap.proofs.CallerLemmas.{filter-RetainsPairs}
use Rattle.circus_member_rules.specs.OpenAsks.{is_waiting}
use Rattle.circus_member_rules.specs.Rules.{stays_open}
use Rattle.circus_member_rules.proofs.open_asks.OpenAsks.close_all.Goals as goal

pub returns : goal.returns
returns c =
    let stays = stays_open c.args.known.now (is_waiting c.args.waiting) in
    filter-RetainsPairs _ stays _ (λ k v b w g call. search rules) _ _ c.retain.ensures.filtered
    ∙ ap (λ es. filter stays es) c.self.view_is
