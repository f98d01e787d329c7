use Rattle.std.proofs.Common.{bytes_eq, ap, ◌∙◌}
use Rattle.std.specs.List.{position_from}
use Rattle.circus_value.specs.declared.shape.Field.{Field}
use Rattle.circus_value.specs.ShapeTree.{FieldTree}
use Rattle.circus_value.specs.ShapeOf.{field_of}
use Rattle.circus_value.proofs.NameItems.{first_made}
use Rattle.circus_value.proofs.shape.Fields.find.Goals as goal

pub returns : goal.returns
returns c =
    c.find.ensures
    ∙ ap (position_from (λ (f : Field). bytes_eq f.name c.args.name.now) 0) c.as_slice.ensures.value
    ∙ first_made field_of (λ (f : FieldTree). bytes_eq f.name c.args.name.now) 0 c.self.inside.items.items
    ∙ ap (position_from (λ (f : FieldTree). bytes_eq f.name c.args.name.now) 0) c.self.view_is
