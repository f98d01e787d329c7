use Rattle.std.proofs.Common.{◌∙◌, ap, Some, None, option_map}
use Rattle.circus_value.specs.ShapeOf.{arm_of}
use Rattle.circus_resolve.specs.Seen.Parts.{arm_as}
use Rattle.circus_resolve.proofs.NamedPlaces.{no_arm, arm_found}
use Rattle.circus_resolve.proofs.named.arm_named.Goals as goal

pub returns-in_err-place : goal.returns-in_err-place
returns-in_err-place c = ap (option_map arm_as) c.from_residual.ensures ∙ no_arm c.args.arms.now c.args.name.now c.in_err-place.ensures

pub returns-in_err-arm : goal.returns-in_err-arm
returns-in_err-arm c = ap (option_map arm_as) c.from_residual-in_err-arm.ensures ∙ arm_found c.args.arms.now c.args.name.now c.in_ok-place.place c.in_ok-place.ensures None c.in_err-arm.ensures

pub returns : goal.returns
returns c = arm_found c.args.arms.now c.args.name.now c.in_ok-place.place c.in_ok-place.ensures (Some (arm_of c.in_ok-arm.arm.now)) c.in_ok-arm.ensures
