use Rattle.std.proofs.Common.{arith}
use Rattle.circus_type.proofs.TypeItems.{group_falls, group_in_range, arm_falls, arm_in_range}
use Rattle.circus_type.proofs.writing.+written.Goals as goal

pub written_arms-shape_of_type-requires : goal.written_arms-shape_of_type-requires
written_arms-shape_of_type-requires g t c κs within =
    let is = c.arm-item.is in (
      omega (arith, c.decreases, arm_falls c.args.arms.now _ c.arm-item.result c.loop-arm-test.true is),
      (within, arm_in_range c.args.arms.now _ c.arm-item.result c.loop-arm-test.true is c.requires),
    )

pub written_groups-shape_of_type-requires : goal.written_groups-shape_of_type-requires
written_groups-shape_of_type-requires g t c κs within =
    let is = c.group-item.is in (
      omega (arith, c.decreases, group_falls c.args.groups.now _ c.group-item.result c.loop-group-test.true is),
      (within, group_in_range c.args.groups.now _ c.group-item.result c.loop-group-test.true is c.requires),
    )
