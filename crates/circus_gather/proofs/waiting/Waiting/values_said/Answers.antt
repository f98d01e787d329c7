use Rattle.std.specs.Prelude.{unwrap_or}
use Rattle.std.proofs.Common.{◌≡◌, List, [], map, filter, ap, ◌∙◌}
use Rattle.std.proofs.lemmas.Result.{IfOk-weaker}
use Rattle.circus_gather.specs.declared.held.HeldCall.{HeldCall}
use Rattle.circus_gather.specs.Gathering.{is_counted, as_said}
use Rattle.circus_gather.specs.Seen.Groups.{Waits}
use Rattle.circus_gather.specs.Seen.Slots.{calls_at}
use Rattle.circus_gather.proofs.Standing.{counted-places}
use Rattle.circus_gather.proofs.waiting.Waiting.values_said.Goals as goal

pub returns-in-Some : goal.returns-in-Some
returns-in-Some c =
    let required = c.args.required in
    let views = c.args.views.now in
    let index = c.args.index in
    let slots = c.self.inside.slots.items in
    let m = c.self.inside.module in
    let said_of = λ (calls : List HeldCall). map as_said (filter (is_counted m required views index) calls) in
    IfOk-weaker c.said_at.result (λ said. said ≡ said_of (calls_at c.as_slice.result.now c.as_slice-in-Some.result.now))
    (λ said. said ≡ map as_said (filter (is_counted c.args.self.now.module required views index) c.args.self.now.calls)) (λ said made.
    made ∙ ap (λ s. said_of (calls_at s c.as_slice-in-Some.result.now)) c.as_slice.ensures.value
    ∙ ap (λ ps. said_of (calls_at slots ps)) (c.as_slice-in-Some.ensures ∙ ap (λ o. unwrap_or o []) c.in-Some.ensures.value ∙ c.self.invariant index)
    ∙ ap (map as_said) (counted-places m required views index slots)
    ∙ ap (λ (w : Waits). map as_said (filter (is_counted w.module required views index) w.calls)) c.self.view_is) c.said_at.ensures

pub returns-in-None : goal.returns-in-None
returns-in-None c =
    let required = c.args.required in
    let views = c.args.views.now in
    let index = c.args.index in
    let slots = c.self.inside.slots.items in
    let m = c.self.inside.module in
    let said_of = λ (calls : List HeldCall). map as_said (filter (is_counted m required views index) calls) in
    c.new.ensures ∙ ap (λ ps. said_of (calls_at slots ps)) (ap (λ o. unwrap_or o []) c.in-None.ensures.value ∙ c.self.invariant index)
    ∙ ap (map as_said) (counted-places m required views index slots)
    ∙ ap (λ (w : Waits). map as_said (filter (is_counted w.module required views index) w.calls)) c.self.view_is
