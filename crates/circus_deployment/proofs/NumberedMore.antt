-- Troupes with the numbers of their nodes, one behind the other.
use Rattle.std.proofs.Common.{◌≡◌, ℕ, ◌+◌, ◌≤◌, List, [], ◌∷◌, length, map, sym, subst, arith, length-append}
use Rattle.std.specs.List.{AllByRecursion, flat_map}
use Rattle.circus_troupe.specs.declared.deployment_text.TroupeText.{TroupeText}
use Rattle.circus_deployment.specs.declared.meaning.NumberedTroupe.{NumberedTroupe}
use Rattle.circus_limits.specs.Limits.{most_nodes}
use Rattle.circus_deployment.specs.Nodes.{Numbered, hosts_of, numbered_from}
use Rattle.circus_deployment.specs.InRange.{IsTroupeInRange}
use Rattle.circus_deployment.specs.Seen.{numbered_as}

few_from : (n limit : ℕ) (ts : List TroupeText) → n + length (flat_map hosts_of ts) ≤ limit → AllByRecursion (λ (x : Numbered). x.first + length (hosts_of x.troupe) ≤ limit) (numbered_from n ts)
few_from n limit [] few = tt
few_from n limit (t ∷ ts) few =
    let parts = length-append (hosts_of t) (flat_map hosts_of ts) in
    (omega (arith, few, parts), few_from (n + length (hosts_of t)) limit ts (omega (arith, few, parts)))

few_as : (limit : ℕ) (made : List NumberedTroupe) → AllByRecursion (λ (x : Numbered). x.first + length (hosts_of x.troupe) ≤ limit) (map numbered_as made) → AllByRecursion (λ (n : NumberedTroupe). n.first + length (hosts_of n.troupe.now) ≤ limit) made
few_as limit [] all = tt
few_as limit (n ∷ ns) all = (all.0, few_as limit ns all.1)

-- no troupe that is numbered passes the limit
pub few_numbered : (made : List NumberedTroupe) (ts : List TroupeText) → map numbered_as made ≡ numbered_from 1 ts → 1 + length (flat_map hosts_of ts) ≤ most_nodes → AllByRecursion (λ (n : NumberedTroupe). n.first + length (hosts_of n.troupe.now) ≤ most_nodes) made
few_numbered made ts is few = few_as most_nodes made (subst (AllByRecursion (λ (x : Numbered). x.first + length (hosts_of x.troupe) ≤ most_nodes)) (sym is) (few_from 1 most_nodes ts few))

all_from : (n : ℕ) (ts : List TroupeText) → AllByRecursion IsTroupeInRange ts → AllByRecursion (λ (x : Numbered). IsTroupeInRange x.troupe) (numbered_from n ts)
all_from n [] all = tt
all_from n (t ∷ ts) all = (all.0, all_from (n + length (hosts_of t)) ts all.1)

all_as : (made : List NumberedTroupe) → AllByRecursion (λ (x : Numbered). IsTroupeInRange x.troupe) (map numbered_as made) → AllByRecursion (λ (n : NumberedTroupe). IsTroupeInRange n.troupe.now) made
all_as [] all = tt
all_as (n ∷ ns) all = (all.0, all_as ns all.1)

-- each of them stays in range
pub all_in_range : (made : List NumberedTroupe) (ts : List TroupeText) → map numbered_as made ≡ numbered_from 1 ts → AllByRecursion IsTroupeInRange ts → AllByRecursion (λ (n : NumberedTroupe). IsTroupeInRange n.troupe.now) made
all_in_range made ts is all = all_as made (subst (AllByRecursion (λ (x : Numbered). IsTroupeInRange x.troupe)) (sym is) (all_from 1 ts all))
