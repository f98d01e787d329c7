use Rattle.std.proofs.Common.{rules, not, filter, sym, ap, ◌∙◌}
use Rattle.std.proofs.lemmas.Fn.{filter_same}
use Rattle.circus_gather.specs.Gathering.{is_of_index}
use Rattle.circus_gather.specs.Seen.Groups.{Waits, is_in_group, stays}
use Rattle.circus_gather.specs.Seen.Slots.{items_in, places_from}
use Rattle.circus_gather.proofs.Standing.{kept-spared}
use Rattle.circus_gather.proofs.waiting.Waiting.remove.Goals as goal

pub invariant_of-self : goal.invariant_of-self
invariant_of-self c q =
    let left = filter_same _ (stays c.self.inside.module c.args.group) _ (λ x b f' k. search rules) _ _ c.retain.ensures.filtered in
    c.in_ok-self-inside.ensures q
    ∙ ap (λ s. places_from (is_of_index c.self.inside.module q) 0 (filter (stays c.self.inside.module c.args.group) s)) c.as_slice.ensures.value
    ∙ ap (places_from (is_of_index c.self.inside.module q) 0) (sym left)

pub returns-clause-ok : goal.returns-clause-ok
returns-clause-ok c =
    let left = filter_same _ (stays c.self.inside.module c.args.group) _ (λ x b f' k. search rules) _ _ c.retain.ensures.filtered in
    ap (λ cs. record { «module» = c.self.inside.module; calls = cs }) (ap items_in left ∙ kept-spared c.self.inside.module c.args.group c.self.inside.slots.items)
    ∙ ap (λ (w : Waits). record w { calls = filter (λ call. not (is_in_group w.module c.args.group call)) w.calls }) c.self.view_is
