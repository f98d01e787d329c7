use Rattle.std.proofs.Common.{◌≡◌, ◌-◌, ◌≤◌}
use Rattle.circus_value.specs.ShapeTree.{ArmTrees}
use Rattle.circus_stub.specs.Seen.Standing.{ArmsStand, first_arm}
use Rattle.circus_stub.proofs.place.arm_place.Given as goal

-- the arms that are left decide
abbrev pub invariant-loop-here : goal.invariant-loop-here
invariant-loop-here l = record {
  behind : l.place ≤ l.here;
  left :
      (arms : ArmTrees)
      → ArmsStand l.operations l.place l.end arms
      → (others : ArmTrees) × ArmsStand l.operations l.here l.end others × (first_arm arms l.wanted ≡ first_arm others l.wanted);
}

abbrev pub decreases-loop-here : goal.decreases-loop-here
decreases-loop-here l = l.end - l.here
