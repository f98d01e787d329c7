use Rattle.std.proofs.Common.{◌≡◌, ℕ, List, [], nat_eq, not, filter, if◌then◌else◌, inl, inr, sym, ap, ◌∙◌}
use Rattle.circus_gather.specs.Gathering.{is_of_index}
use Rattle.circus_gather.specs.Seen.Groups.{Waits}
use Rattle.circus_gather.specs.Seen.Slots.{items_in, places_from, empty_slots, slots_of_index}
use Rattle.circus_gather.proofs.Standing.{places-left, none_left, kept-emptied}
use Rattle.circus_gather.proofs.waiting.Waiting.remove_of.Goals as goal

pub invariant_of-self : goal.invariant_of-self
invariant_of-self c q =
    let m = c.self.inside.module in
    let slots = c.self.inside.slots.items in
    let index = c.args.index in
    let empty = c.empty_slots.ensures ∙ ap (empty_slots slots) (c.as_slice.ensures ∙ c.take-places.ensures.taken ∙ c.self.invariant index) in
    let left =
    c.take-places.ensures.left q ∙ ap (λ ps. if nat_eq index q then [] else ps) (c.self.invariant q) ∙ sym (places-left m slots index q) in
    elim c.give_up.ensures [
      | inl gone ↦ ap (λ (es : List (ℕ × List ℕ)). slots_of_index es q) gone.0 ∙ ap (places_from (is_of_index m q) 0) (sym gone.1)
      | inr same ↦ left ∙ ap (places_from (is_of_index m q) 0) (sym (same ∙ empty))
    ]

pub returns : goal.returns
returns c =
    let m = c.self.inside.module in
    let slots = c.self.inside.slots.items in
    let index = c.args.index in
    let empty = c.empty_slots.ensures ∙ ap (empty_slots slots) (c.as_slice.ensures ∙ c.take-places.ensures.taken ∙ c.self.invariant index) in
    let left = λ (q : ℕ).
    c.take-places.ensures.left q ∙ ap (λ ps. if nat_eq index q then [] else ps) (c.self.invariant q) ∙ sym (places-left m slots index q) in
    let calls : items_in c.give_up.new.slots.items ≡ filter (λ call. not (is_of_index m index call)) (items_in slots) =
    elim c.give_up.ensures [
      | inl gone ↦
          ap items_in gone.1
          ∙ sym (none_left m 0 (empty_slots slots (places_from (is_of_index m index) 0 slots)) (λ q. sym (left q) ∙ ap (λ (es : List (ℕ × List ℕ)). slots_of_index es q) gone.0))
          ∙ kept-emptied (is_of_index m index) slots
      | inr same ↦ ap items_in (same ∙ empty) ∙ kept-emptied (is_of_index m index) slots
    ] in
    ap (λ cs. record { «module» = m; calls = cs }) calls
    ∙ ap (λ (w : Waits). record w { calls = filter (λ call. not (is_of_index w.module index call)) w.calls }) c.self.view_is
