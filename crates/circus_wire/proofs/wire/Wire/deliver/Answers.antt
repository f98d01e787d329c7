use Rattle.std.proofs.Common.{sym, ◌∙◌}
use Rattle.std.proofs.lemmas.Result.{on_ok_weaker, IfOk-weaker}
use Rattle.circus_segment.specs.Seen.Pieces.{piece}
use Rattle.circus_wire.proofs.Performing.{came_stands, came_owes, came_tells}
use Rattle.circus_wire.proofs.wire.Wire.deliver.Goals as goal

pub returns-in-Ok-clause-stands : goal.returns-in-Ok-clause-stands
returns-in-Ok-clause-stands g c b acts s stands is =
    on_ok_weaker c.hear.result (came_stands b acts c.args.self.now c.args.from s (piece c.in-Ok.segment) c.requires stands (sym c.in-Ok.ensures.exact ∙ is) c.in-Ok.ensures.read.0 _) c.hear.ensures.state

pub returns-in-Ok-clause-owed : goal.returns-in-Ok-clause-owed
returns-in-Ok-clause-owed g c b acts s stands is =
    IfOk-weaker c.hear.result _ _ (λ delivery e. e ∙ came_owes b acts c.args.self.now c.args.from s (piece c.in-Ok.segment) c.requires stands (sym c.in-Ok.ensures.exact ∙ is) c.in-Ok.ensures.read.0) c.hear.ensures.sent

pub returns-in-Ok-clause-heard : goal.returns-in-Ok-clause-heard
returns-in-Ok-clause-heard g c b acts s stands is =
    IfOk-weaker c.hear.result _ _ (λ delivery e. e ∙ came_tells b acts c.args.self.now c.args.from s (piece c.in-Ok.segment) c.requires stands (sym c.in-Ok.ensures.exact ∙ is) c.in-Ok.ensures.read.0) c.hear.ensures.told
