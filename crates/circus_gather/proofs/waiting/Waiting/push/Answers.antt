use Rattle.std.proofs.Common.{◌≡◌, ◌+◌, nat_eq, [], ◌∷◌, ◌++◌, length, Some, if◌then◌else◌, sym, ap, ◌∙◌, arith}
use Rattle.circus_gather.specs.Gathering.{is_of_index}
use Rattle.circus_gather.specs.Seen.Groups.{Waits}
use Rattle.circus_gather.specs.Seen.Slots.{items_in, places_from}
use Rattle.circus_gather.proofs.Standing.{places-append, kept-append}
use Rattle.circus_gather.proofs.waiting.Waiting.push.Goals as goal

pub invariant_of-self-2 : goal.invariant_of-self-2
invariant_of-self-2 c q =
    let slots = c.self.inside.slots.items in
    let place : c.len-place.result ≡ 0 + length slots = omega (arith, c.len-place.ensures) in
    let pushed = c.push_reserved.ensures.items ∙ ap (λ s. s ++ Some c.args.call ∷ []) c.reserve.ensures.items in
    c.in_ok-note.ensures.ok q
    ∙ ap (λ ps. ps ++ (if nat_eq c.index_of-index.result q then c.len-place.result ∷ [] else [])) (c.self.invariant q)
    ∙ ap (λ i. places_from (is_of_index c.self.inside.module q) 0 slots ++ (if nat_eq i q then c.len-place.result ∷ [] else [])) c.index_of-index.ensures
    ∙ sym (places-append (is_of_index c.self.inside.module q) 0 c.len-place.result slots c.args.call place)
    ∙ ap (places_from (is_of_index c.self.inside.module q) 0) (sym pushed)

pub returns-clause-ok : goal.returns-clause-ok
returns-clause-ok c =
    let slots = c.self.inside.slots.items in
    let pushed = c.push_reserved.ensures.items ∙ ap (λ s. s ++ Some c.args.call ∷ []) c.reserve.ensures.items in
    ap (λ cs. record { «module» = c.self.inside.module; calls = cs }) (ap items_in pushed ∙ kept-append slots c.args.call)
    ∙ ap (λ (w : Waits). record w { calls = w.calls ++ c.args.call ∷ [] }) c.self.view_is
