use Rattle.std.proofs.Common.{◌∙◌, ap, Some, None, option_map}
use Rattle.circus_value.specs.ShapeOf.{field_of}
use Rattle.circus_resolve.specs.Seen.Parts.{field_as}
use Rattle.circus_resolve.proofs.NamedPlaces.{no_field, field_found}
use Rattle.circus_resolve.proofs.named.field_named.Goals as goal

pub returns-in_err-place : goal.returns-in_err-place
returns-in_err-place c = ap (option_map field_as) c.from_residual.ensures ∙ no_field c.args.fields.now c.args.name.now c.in_err-place.ensures

pub returns-in_err-field : goal.returns-in_err-field
returns-in_err-field c = ap (option_map field_as) c.from_residual-in_err-field.ensures ∙ field_found c.args.fields.now c.args.name.now c.in_ok-place.place c.in_ok-place.ensures None c.in_err-field.ensures

pub returns : goal.returns
returns c = field_found c.args.fields.now c.args.name.now c.in_ok-place.place c.in_ok-place.ensures (Some (field_of c.in_ok-field.field.now)) c.in_ok-field.ensures
