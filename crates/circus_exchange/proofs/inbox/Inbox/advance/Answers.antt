use Rattle.std.proofs.Common.{◌≡◌, ap, sym, ◌∙◌}
use Rattle.std.specs.Prelude.{option_copied}
use Rattle.std.specs.FinMap as map
use Rattle.circus_segment.specs.Seen.Pieces.{piece}
use Rattle.circus_exchange.specs.Inbox.{Arriving, is_new, count_with}
use Rattle.circus_exchange.proofs.Inboxes.{is_new_is, completes_is, count_of_new, count_of_old, new_low}
use Rattle.circus_exchange.proofs.inbox.Inbox.advance.Goals as goal

pub count_with-count-requires : goal.count_with-count-requires
count_with-count-requires c = new_low c.progress_so_far-known.result (option_copied c.of-parts.result) (piece c.args.segment.now) (sym c.is_new-is_new.ensures ∙ c.if-is_new.true) c.requires.within

then_new : (c : goal.After-count_with-count) → c.is_new-is_new.result ≡ is_new c.args.self.now (piece c.args.segment.now)
then_new c =
    c.is_new-is_new.ensures ∙ is_new_is c.args.self.now (piece c.args.segment.now) c.progress_so_far-known.result _ c.progress_so_far-known.ensures (c.of-parts.ensures ∙ ap (λ (b : Arriving). map.get b.parts c.args.segment.now.call) c.self.view_is)

then_count : (c : goal.After-count_with-count) → c.count_with-count.result ≡ count_with c.args.self.now (piece c.args.segment.now)
then_count c =
    c.count_with-count.ensures
    ∙ count_of_new c.args.self.now (piece c.args.segment.now) c.progress_so_far-known.result _ c.progress_so_far-known.ensures (c.of-parts.ensures ∙ ap (λ (b : Arriving). map.get b.parts c.args.segment.now.call) c.self.view_is) (sym (then_new c) ∙ c.if-is_new.true)

else_new : (c : goal.Else-is_new) → c.is_new-is_new.result ≡ is_new c.args.self.now (piece c.args.segment.now)
else_new c =
    c.is_new-is_new.ensures ∙ is_new_is c.args.self.now (piece c.args.segment.now) c.progress_so_far-known.result _ c.progress_so_far-known.ensures (c.of-parts.ensures ∙ ap (λ (b : Arriving). map.get b.parts c.args.segment.now.call) c.self.view_is)

else_count : (c : goal.Else-is_new) → c.progress_so_far-known.result.count ≡ count_with c.args.self.now (piece c.args.segment.now)
else_count c = count_of_old c.args.self.now (piece c.args.segment.now) c.progress_so_far-known.result c.progress_so_far-known.ensures (sym (else_new c) ∙ c.if-is_new.false)

pub returns-then-is_new-clause-is_new : goal.returns-then-is_new-clause-is_new
returns-then-is_new-clause-is_new c = then_new c

pub returns-then-is_new-clause-count : goal.returns-then-is_new-clause-count
returns-then-is_new-clause-count c = then_count c

pub returns-then-is_new-clause-completes : goal.returns-then-is_new-clause-completes
returns-then-is_new-clause-completes c = completes_is c.args.self.now (piece c.args.segment.now) c.is_new-is_new.result c.count_with-count.result (then_new c) (then_count c)

pub returns-else-is_new-clause-is_new : goal.returns-else-is_new-clause-is_new
returns-else-is_new-clause-is_new c = else_new c

pub returns-else-is_new-clause-count : goal.returns-else-is_new-clause-count
returns-else-is_new-clause-count c = else_count c

pub returns-else-is_new-clause-completes : goal.returns-else-is_new-clause-completes
returns-else-is_new-clause-completes c = completes_is c.args.self.now (piece c.args.segment.now) c.is_new-is_new.result c.progress_so_far-known.result.count (else_new c) (else_count c)
