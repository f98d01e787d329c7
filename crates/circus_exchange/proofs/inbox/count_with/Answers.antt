use Rattle.std.proofs.Common.{inl, inr, sym, ◌∙◌, arith}
use Rattle.std.specs.Prelude.{option_copied}
use Rattle.circus_exchange.proofs.Inboxes.{there_at_first, front_is}
use Rattle.circus_exchange.proofs.inbox.count_with.Goals as goal

pub loop-count-init : goal.loop-count-init
loop-count-init c = record { within = c.requires; there = there_at_first c.args.known (option_copied c.args.parts) c.args.segment.now.number }

pub returns-else-has_with : goal.returns-else-has_with
returns-else-has_with c = sym (front_is _ _ _ c.loop-count.invariant.within c.loop-count.invariant.there (inr (sym c.has_with.ensures ∙ c.if-has_with.false)))

pub returns-after-loop-count : goal.returns-after-loop-count
returns-after-loop-count c = sym (front_is _ _ _ c.loop-count.invariant.within c.loop-count.invariant.there (inl (omega arith)))
