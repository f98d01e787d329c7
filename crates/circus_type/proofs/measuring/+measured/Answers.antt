use Rattle.std.proofs.Common.{arith}
use Rattle.circus_type.proofs.TypeItems.{group_falls, arm_falls}
use Rattle.circus_type.proofs.measuring.+measured.Goals as goal

pub measured_arms-measure_of_type-requires : goal.measured_arms-measure_of_type-requires
measured_arms-measure_of_type-requires g t c κs within =
    (omega (arith, c.decreases, arm_falls c.args.arms.now _ c.index-arms-place.result (omega arith) c.index-arms-place.is), within)

pub measured_groups-measure_of_type-requires : goal.measured_groups-measure_of_type-requires
measured_groups-measure_of_type-requires g t c κs within =
    (omega (arith, c.decreases, group_falls c.args.groups.now _ c.index-groups-place.result (omega arith) c.index-groups-place.is), within)
