use Rattle.std.specs.Prelude.{unwrap_or}
use Rattle.std.proofs.Common.{◌≡◌, [], filter, ap, ◌∙◌}
use Rattle.std.proofs.lemmas.Result.{IfOk-weaker}
use Rattle.circus_gather.specs.Gathering.{callers, is_of_index}
use Rattle.circus_gather.specs.Seen.Groups.{Waits}
use Rattle.circus_gather.specs.Seen.Slots.{calls_at}
use Rattle.circus_gather.proofs.Standing.{calls-places}
use Rattle.circus_gather.proofs.waiting.Waiting.callers_of.Goals as goal

pub returns-in-Some : goal.returns-in-Some
returns-in-Some c =
    let slots = c.self.inside.slots.items in
    let index = c.args.index in
    IfOk-weaker c.senders_at.result (λ made. made ≡ callers (calls_at c.as_slice.result.now c.as_slice-in-Some.result.now))
    (λ made. made ≡ callers (filter (is_of_index c.args.self.now.module index) c.args.self.now.calls)) (λ made is.
    is ∙ ap (λ s. callers (calls_at s c.as_slice-in-Some.result.now)) c.as_slice.ensures.value
    ∙ ap (λ ps. callers (calls_at slots ps)) (c.as_slice-in-Some.ensures ∙ ap (λ o. unwrap_or o []) c.in-Some.ensures.value ∙ c.self.invariant index)
    ∙ ap callers (calls-places (is_of_index c.self.inside.module index) slots)
    ∙ ap (λ (w : Waits). callers (filter (is_of_index w.module index) w.calls)) c.self.view_is) c.senders_at.ensures

pub returns-in-None : goal.returns-in-None
returns-in-None c =
    let slots = c.self.inside.slots.items in
    let index = c.args.index in
    c.new.ensures ∙ ap (λ ps. callers (calls_at slots ps)) (ap (λ o. unwrap_or o []) c.in-None.ensures.value ∙ c.self.invariant index)
    ∙ ap callers (calls-places (is_of_index c.self.inside.module index) slots)
    ∙ ap (λ (w : Waits). callers (filter (is_of_index w.module index) w.calls)) c.self.view_is
