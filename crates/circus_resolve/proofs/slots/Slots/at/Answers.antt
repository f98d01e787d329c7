use Rattle.std.specs.Prelude.{option_map}
use Rattle.std.proofs.Common.{ap, ◌∙◌, sym}
use Rattle.circus_value.specs.ShapeTree.{FieldTree}
use Rattle.circus_resolve.specs.Faults.{slot_at}
use Rattle.circus_resolve.specs.Seen.Wanted.{slots_as}
use Rattle.circus_resolve.proofs.Shapes.{field_at_is}
use Rattle.circus_resolve.proofs.slots.Slots.at.Goals as goal

pub returns-in-Some : goal.returns-in-Some
returns-in-Some c =
    ap (option_map (λ (f : FieldTree). f.shape)) c.in-Some.ensures ∙ field_at_is c.in-ForFields.fields.now c.args.place
    ∙ ap (λ s. slot_at (slots_as s) c.args.place) (sym c.in-ForFields.is)

pub returns-in-None : goal.returns-in-None
returns-in-None c =
    ap (option_map (λ (f : FieldTree). f.shape)) c.in-None.ensures ∙ field_at_is c.in-ForFields.fields.now c.args.place
    ∙ ap (λ s. slot_at (slots_as s) c.args.place) (sym c.in-ForFields.is)
