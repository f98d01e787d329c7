use Rattle.std.proofs.Common.{bytes_eq, ap, ◌∙◌}
use Rattle.std.specs.List.{position_from}
use Rattle.circus_value.specs.declared.shape.Arm.{Arm}
use Rattle.circus_value.specs.ShapeTree.{ArmTree}
use Rattle.circus_value.specs.ShapeOf.{arm_of}
use Rattle.circus_value.proofs.NameItems.{first_made}
use Rattle.circus_value.proofs.shape.Arms.find.Goals as goal

pub returns : goal.returns
returns c =
    c.find.ensures
    ∙ ap (position_from (λ (a : Arm). bytes_eq a.name c.args.name.now) 0) c.as_slice.ensures.value
    ∙ first_made arm_of (λ (a : ArmTree). bytes_eq a.name c.args.name.now) 0 c.self.inside.items.items
    ∙ ap (position_from (λ (a : ArmTree). bytes_eq a.name c.args.name.now) 0) c.self.view_is
