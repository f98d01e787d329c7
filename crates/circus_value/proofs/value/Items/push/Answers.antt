use Rattle.circus_value.proofs.SizeLemmas.{counted_more}
use Rattle.circus_value.proofs.value.Items.push.Goals as goal

pub returns-clause-size : goal.returns-clause-size
returns-clause-size c =
    counted_more c.args.self.now.values.items c.push.new.self.items c.args.item c.args.self.now.size c.external_size-grows.result c.saturating_add-self.result c.requires c.external_size-grows.ensures c.saturating_add-self.ensures c.in_ok-push.ensures.items
