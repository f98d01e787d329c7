-- The founders of a deployment's troupes are few and differ.
use Rattle.std.proofs.Common.{◌≡◌, ◌≢◌, ℕ, ◌<◌, ◌≤◌, zero, suc, List, [], ◌∷◌, ◌++◌, length, All, AllPairs, sym, ◌∙◌, subst, arith, Some, slice_get}
use Rattle.std.proofs.lemmas.Bool.{cond_both}
use Rattle.std.proofs.lemmas.List.{length-append, get_or_append_left}
use Rattle.std.proofs.lemmas.List.Kept.{AllPairs-cons}
use Rattle.circus_collate.specs.declared.deployment.Troupe.{Troupe}
use Rattle.circus_collate.specs.declared.deployment.Host.{Host}
use Rattle.circus_collate.specs.declared.deployment.Deployment.{Deployment}
use Rattle.circus_collate.specs.Deployment.{hosts, hosting_from, IsDeployment}
use Rattle.circus_ring.specs.ViewOf.{IsBootable}

abbrev Differ : ℕ → ℕ → Type 0
Differ a b = a ≢ b

-- the numbers begin at the first one
from_on : (from m : ℕ) (nodes : List Host) → All (λ n. from ≤ n) (hosting_from from m nodes)
from_on from m [] = λ k d few. absurd (omega arith)
from_on from m (h ∷ hs) =
    let rest : All (λ n. from ≤ n) (hosting_from (suc from) m hs) = λ k d few. let later = from_on (suc from) m hs k d few in omega arith in
    cond_both (hosts m h) (from ∷ hosting_from (suc from) m hs) (hosting_from (suc from) m hs) (All (λ n. from ≤ n)) (λ _. first rest) (λ _. rest)
  where
    first : All (λ n. from ≤ n) (hosting_from (suc from) m hs) → All (λ n. from ≤ n) (from ∷ hosting_from (suc from) m hs)
    first rest zero d few = omega arith
    first rest (suc k) d few = rest k d (omega arith)

nodes_differ : (from m : ℕ) (nodes : List Host) → AllPairs Differ (hosting_from from m nodes)
nodes_differ from m [] = λ i j d before few. absurd (omega arith)
nodes_differ from m (h ∷ hs) =
    let rest = nodes_differ (suc from) m hs in
    let later : All (Differ from) (hosting_from (suc from) m hs) = λ k d few. let above = from_on (suc from) m hs k d few in λ e. absurd (omega arith) in
    cond_both (hosts m h) (from ∷ hosting_from (suc from) m hs) (hosting_from (suc from) m hs) (AllPairs Differ) (λ _. AllPairs-cons Differ from (hosting_from (suc from) m hs) later rest) (λ _. rest)

-- those in front of a list differ where all do
front_differs : (xs ys : List ℕ) → AllPairs Differ (xs ++ ys) → AllPairs Differ xs
front_differs xs ys all i j d before few =
    let within : j < length (xs ++ ys) = let e = length-append xs ys in omega arith in
    λ e. all i j d before within (get_or_append_left xs ys d i (omega arith) ∙ e ∙ sym (get_or_append_left xs ys d j few))

pub deployed_are : (d : Deployment) (place : ℕ) (troupe : Troupe) → IsDeployment d → slice_get d.troupes place ≡ Some troupe → IsBootable troupe
deployed_are d place troupe is has =
    let t = is.troupes place troupe has in
    record { few = t.few_founders; differ = front_differs troupe.founders troupe.spares (subst (AllPairs Differ) (sym t.members) (nodes_differ 0 place d.nodes)) }
