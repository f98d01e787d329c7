use Rattle.std.proofs.Common.{◌∙◌, [], List, Option, ap}
use Rattle.std.specs.Prelude.{unwrap_or, slice_get}
use Rattle.std.proofs.lemmas.Option.{unwrap_or-slice_get}
use Rattle.circus_model.specs.declared.history.Run.{Run}
use Rattle.circus_verdict.proofs.member.runs_of.Goals as goal

pub returns-in-None : goal.returns-in-None
returns-in-None c = ap (λ (o : Option (List Run)). unwrap_or o []) c.in-None.ensures ∙ ap (λ n. unwrap_or (slice_get c.args.history.now n) []) c.from.ensures ∙ unwrap_or-slice_get c.args.history.now c.args.number []
