use Rattle.std.proofs.Common.{◌∙◌, Some, None}
use Rattle.circus_resolve.proofs.NamedPlaces.{no_label, label_found}
use Rattle.circus_resolve.proofs.named.label_named.Goals as goal

pub returns-in_err-place : goal.returns-in_err-place
returns-in_err-place c = c.from_residual.ensures ∙ no_label c.args.labels.now c.args.name.now c.in_err-place.ensures

pub returns-in_err-label : goal.returns-in_err-label
returns-in_err-label c = c.from_residual-in_err-label.ensures ∙ label_found c.args.labels.now c.args.name.now c.in_ok-place.place c.in_ok-place.ensures None c.in_err-label.ensures

pub returns : goal.returns
returns c = label_found c.args.labels.now c.args.name.now c.in_ok-place.place c.in_ok-place.ensures (Some c.in_ok-label.label.now) c.in_ok-label.ensures
