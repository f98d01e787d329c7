use Rattle.std.proofs.Common.{◌≡◌, drop, map}
use Rattle.circus_value.specs.ShapeOf.{arm_of}
use Rattle.circus_value.specs.ArmShape.{arm_shape}
use Rattle.circus_value.proofs.shape.Arms.shape_of.Given as goal

-- the arms that are left decide
abbrev pub invariant-loop-arm : goal.invariant-loop-arm
invariant-loop-arm l = arm_shape (map arm_of (drop l.arm-index l.arm-items)) l.number ≡ arm_shape l.self l.number
