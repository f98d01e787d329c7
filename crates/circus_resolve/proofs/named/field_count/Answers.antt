use Rattle.std.proofs.Common.{◌∙◌}
use Rattle.circus_resolve.proofs.Shapes.{field_count_is}
use Rattle.circus_resolve.proofs.named.field_count.Goals as goal

pub returns : goal.returns
returns c = c.len.ensures ∙ field_count_is c.args.fields.now
