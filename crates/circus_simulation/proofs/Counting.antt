-- The lines of members are added, one by one.
use Rattle.std.proofs.Common.{◌≡◌, ℕ, ◌+◌, ◌<◌, List, [], ◌++◌, length, drop, Some, sym, ap, ◌∙◌, append_assoc}
use Rattle.std.specs.Prelude.{slice_get}
use Rattle.circus_collate.specs.declared.deployment.Deployment.{Deployment}
use Rattle.circus_collate.specs.declared.deployment.Host.{Host}
use Rattle.circus_record.specs.Naming.{Names, names_of}
use Rattle.circus_world.specs.WorldState.{Standing}
use Rattle.circus_world.proofs.SlotLemmas.{get_there}
use Rattle.circus_simulation.specs.Summary.{count_at, count_lines}
use Rattle.circus_simulation.proofs.Places.{from_here}

-- names as the code has them
pub names_used : (used : List Host × List (List ℕ)) (nodes : List Host) (seen d : Deployment) → used ≡ (nodes, []) → nodes ≡ seen.nodes → seen ≡ d
    → names_of used.0 used.1 ≡ names_of d.nodes []
names_used used nodes seen d is all same =
    ap (λ (p : List Host × List (List ℕ)). names_of p.0 p.1) is ∙ ap (λ l. names_of l []) (all ∙ ap (λ (e : Deployment). e.nodes) same)

-- where a member's line is added, those that are left go on from the next node
pub count_added : {M : Type 0} (names used : Names) (text next whole : List ℕ) (node : ℕ) (nodes : List (Standing M)) → node < length nodes → used ≡ names
    → text ++ count_lines names node (drop node nodes) ≡ whole
    → ((s : Standing M) → slice_get nodes node ≡ Some s → next ≡ text ++ count_at used node s)
    → next ++ count_lines names (node + 1) (drop (node + 1) nodes) ≡ whole
count_added names used text next whole node nodes within same so_far added =
    let found = get_there nodes node within in
    let rest = count_lines names (node + 1) (drop (node + 1) nodes) in
    ap (λ l. l ++ rest) (added found.0 found.1 ∙ ap (λ n. text ++ count_at n node found.0) same)
    ∙ append_assoc text (count_at names node found.0) rest
    ∙ ap (λ l. text ++ count_lines names node l) (sym (from_here nodes node found.0 found.1))
    ∙ so_far
