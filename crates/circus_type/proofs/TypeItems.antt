-- The items of a list of groups or arms: they are lighter than the list, and in range where it is.
use Rattle.std.proofs.Common.{arith, ◌≡◌, ℕ, ◌+◌, ◌<◌, ◌≤◌, List, [], ◌∷◌, length, map, get_or, zero, suc, ap, sym, subst}
use Rattle.circus_syntax.specs.declared.type_text.GroupText.{GroupText}
use Rattle.circus_syntax.specs.declared.type_text.ArmText.{ArmText}
use Rattle.circus_syntax.specs.TypeOf.{tree_of, group_of, arm_of}
use Rattle.circus_syntax.specs.TypeTree.{group_trees, arm_trees}
use Rattle.circus_syntax.specs.Seen.TypeWeight.{weight, group_weights, arm_weights}
use Rattle.circus_type.specs.InRange.{IsInRange, AreGroupsInRange, AreArmsInRange}

group_lighter : (gs : List GroupText) (i : ℕ) (d : GroupText) → i < length gs → weight (tree_of (get_or gs i d).shape) + 2 ≤ group_weights (group_trees (map group_of gs))
group_lighter [] i d below = omega arith
group_lighter (g ∷ gs) zero d below = omega arith
group_lighter (g ∷ gs) (suc i) d below = omega (arith, group_lighter gs i d (omega arith))

-- a group of a list
pub group_falls : (gs : List GroupText) (i : ℕ) (g : GroupText) → i < length gs → g ≡ get_or gs i g → weight (tree_of g.shape) + 2 ≤ group_weights (group_trees (map group_of gs))
group_falls gs i g below is = omega (arith, group_lighter gs i g below, ap (λ (h : GroupText). weight (tree_of h.shape)) is)

arm_lighter : (arms : List ArmText) (i : ℕ) (d : ArmText) → i < length arms → weight (tree_of (get_or arms i d).shape) + 2 ≤ arm_weights (arm_trees (map arm_of arms))
arm_lighter [] i d below = omega arith
arm_lighter (a ∷ arms) zero d below = omega arith
arm_lighter (a ∷ arms) (suc i) d below = omega (arith, arm_lighter arms i d (omega arith))

-- an arm of a list
pub arm_falls : (arms : List ArmText) (i : ℕ) (a : ArmText) → i < length arms → a ≡ get_or arms i a → weight (tree_of a.shape) + 2 ≤ arm_weights (arm_trees (map arm_of arms))
arm_falls arms i a below is = omega (arith, arm_lighter arms i a below, ap (λ (b : ArmText). weight (tree_of b.shape)) is)

group_at : (gs : List GroupText) (i : ℕ) (d : GroupText) → i < length gs → AreGroupsInRange (group_trees (map group_of gs)) → IsInRange (tree_of (get_or gs i d).shape)
group_at [] i d below all = absurd (omega (arith, below))
group_at (g ∷ gs) zero d below all = all.0
group_at (g ∷ gs) (suc i) d below all = group_at gs i d (omega (arith, below)) all.1

-- a group of a list
pub group_in_range : (gs : List GroupText) (i : ℕ) (g : GroupText) → i < length gs → g ≡ get_or gs i g → AreGroupsInRange (group_trees (map group_of gs)) → IsInRange (tree_of g.shape)
group_in_range gs i g below is all = subst (λ (h : GroupText). IsInRange (tree_of h.shape)) (sym is) (group_at gs i g below all)

arm_at : (arms : List ArmText) (i : ℕ) (d : ArmText) → i < length arms → AreArmsInRange (arm_trees (map arm_of arms)) → IsInRange (tree_of (get_or arms i d).shape)
arm_at [] i d below all = absurd (omega (arith, below))
arm_at (a ∷ arms) zero d below all = all.1
arm_at (a ∷ arms) (suc i) d below all = arm_at arms i d (omega (arith, below)) all.2

-- an arm of a list
pub arm_in_range : (arms : List ArmText) (i : ℕ) (a : ArmText) → i < length arms → a ≡ get_or arms i a → AreArmsInRange (arm_trees (map arm_of arms)) → IsInRange (tree_of a.shape)
arm_in_range arms i a below is all = subst (λ (b : ArmText). IsInRange (tree_of b.shape)) (sym is) (arm_at arms i a below all)
