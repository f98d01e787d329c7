use Rattle.std.proofs.Common.{◌<◌, ◌≤◌, ap, sym, ◌∙◌, ◌++◌, map, arith}
use Rattle.std.specs.Prelude.{flat_map}
use Rattle.std.specs.FinMap.{entries}
use Rattle.std.specs.Map.Iter.{deref_pair}
use Rattle.std.proofs.lemmas.Map.Iter.{iter_end, rest_so_far, rest_more}
use Rattle.circus_exchange.specs.Outbox.{HandedOver, reminder, reminders}
use Rattle.circus_exchange.proofs.Outboxes.{reminded_none, reminded_more, reminded_below, reminded_all}
use Rattle.circus_exchange.proofs.outbox.Outbox.remind.Goals as goal

pub loop-number-init : goal.loop-number-init
loop-number-init c = reminded_none _

pub loop-number-preserved : goal.loop-number-preserved
loop-number-preserved c =
    let less : c.in-Some.number.now < c.args.limit = omega arith in
    reminded_more (reminder c.args.self.now c.args.format c.args.kind c.args.limit) c.args.datagrams.now _ _ c.loop-number.yielded (c.in-Some.number, c.in-Some.message) c.loop-number.invariant
    (c.in_ok-remind_of.ensures
    ∙ ap (λ d. c.loop-number.datagrams ++ d) (reminded_below c.args.self.now c.args.format c.args.kind c.args.limit c.in-Some.number.now c.as_slice.result.now less)
    ∙ ap (λ m. c.loop-number.datagrams ++ reminder c.args.self.now c.args.format c.args.kind c.args.limit (c.in-Some.number.now, m)) c.as_slice.ensures)

pub returns-then-from-limit : goal.returns-then-from-limit
returns-then-from-limit c =
    let past : c.args.limit ≤ c.in-Some.number.now = omega arith in
    reminded_all c.args.self.now c.args.format c.args.kind c.args.limit c.args.datagrams.now _ (map deref_pair c.loop-number.yielded) c.in-Some.number.now c.in-Some.message.now _
    (sym (c.into_iter-number-iterator.ensures.into_iter_gives ∙ c.iter-number-items.ensures.rest ∙ ap (λ (b : HandedOver). entries b.messages) c.self.view_is)
    ∙ rest_so_far deref_pair c.loop-number.yielded _ _ c.loop-number.yielded_by
    ∙ ap (λ l. map deref_pair c.loop-number.yielded ++ l) (rest_more deref_pair _ _ _ (c.in-Some.number, c.in-Some.message) c.in-Some.is c.next.ensures.steps))
    past c.loop-number.invariant

pub returns : goal.returns
unfolding reminders
returns c =
    let end = iter_end deref_pair _ c.loop-number.yielded _ _ _ _ (c.into_iter-number-iterator.ensures.into_iter_gives ∙ c.iter-number-items.ensures.rest ∙ ap (λ (b : HandedOver). entries b.messages) c.self.view_is) c.loop-number.yielded_by c.in-None.is c.next.ensures.steps in
    c.loop-number.invariant ∙ ap (λ es. c.args.datagrams.now ++ flat_map (reminder c.args.self.now c.args.format c.args.kind c.args.limit) es) end.0
