-- The arms of a list.
use Rattle.std.proofs.Common.{◌≡◌, ◌||◌, nat_lt, List, [], ◌∷◌, map, refl, ap}
use Rattle.std.specs.List.{list_any}
use Rattle.circus_value.specs.declared.shape.Arm.{Arm}
use Rattle.circus_value.specs.ShapeTree.{arm_trees}
use Rattle.circus_value.specs.ShapeOf.{arm_of}
use Rattle.circus_external.specs.Refusal.{has_arm}

pub any_arm : (arms : List Arm) → list_any (λ (a : Arm). nat_lt a.number 65536) arms ≡ has_arm (arm_trees (map arm_of arms))
any_arm [] = refl
any_arm (a ∷ arms) = ap (λ b. nat_lt a.number 65536 || b) (any_arm arms)
