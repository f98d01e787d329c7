use Rattle.std.proofs.Common.{◌+◌, length, length-append, ap, ◌∙◌, arith}
use Rattle.std.specs.FinMap as map
use Rattle.circus_segment.specs.Seen.Pieces.{piece}
use Rattle.circus_exchange.specs.Inbox.{Arriving, data_with}
use Rattle.circus_exchange.proofs.Inboxes.{data_is, joined_more}
use Rattle.circus_exchange.proofs.inbox.Inbox.message.Goals as goal

pub loop-before-preserved : goal.loop-before-preserved
loop-before-preserved c =
    let s = piece c.args.segment.now in
    let parts = c.of-parts.ensures ∙ ap (λ (b : Arriving). map.get b.parts s.call) c.self.view_is in
    record {
      bytes = c.in_ok-add.ensures.ok ∙ joined_more (data_with c.args.self.now s) c.loop-before.before c.loop-before.message _ c.loop-before.invariant.bytes (c.in_ok-data_with.ensures.value ∙ data_is c.args.self.now s _ (c.loop-before.before + 1) parts);
      short = omega (arith, ap length c.in_ok-add.ensures.ok ∙ length-append c.loop-before.message _, c.in_ok-data_with.ensures.short);
    }
