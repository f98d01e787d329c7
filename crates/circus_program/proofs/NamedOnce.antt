-- A name in a program is that of one node, or of none.
use Rattle.std.proofs.Common.{◌≡◌, ◌≢◌, ℕ, zero, suc, ◌<◌, ◌⊎◌, inl, inr, Option, Some, List, [], ◌∷◌, ◌++◌, length, map, refl, sym, ap, subst, ◌∙◌, arith}
use Rattle.std.specs.Prelude.{is_some, slice_get, option_map, ◌==◌}
use Rattle.std.specs.List.{AllByRecursion, flat_map}
use Rattle.std.proofs.lemmas.List.{length-map, map-append}
use Rattle.std.proofs.lemmas.Option.{slice_get-map, slice_get_within}
use Rattle.circus_fault.specs.Known.{Known}
use Rattle.circus_fault.specs.Least.{faults_if, out_of}
use Rattle.circus_fault.proofs.Items.{none_in}
use Rattle.circus_fault.proofs.KnownNames.{IsFresh, apart}
use Rattle.circus_fault.proofs.NoFaults.{no_fault}
use Rattle.circus_type.specs.Distinct.{AreDistinct}
use Rattle.circus_troupe.specs.declared.deployment_text.HostText.{HostText}
use Rattle.circus_troupe.specs.declared.deployment_text.TroupeText.{TroupeText}
use Rattle.circus_troupe.specs.declared.deployment_text.DeploymentText.{DeploymentText}
use Rattle.circus_collate.specs.declared.deployment.Host.{Host}
use Rattle.circus_collate.specs.declared.deployment.Deployment.{Deployment}
use Rattle.circus_deployment.specs.declared.cause.Cause.TheVariants.{Repeated, OutOfRange, TooMany}
use Rattle.circus_limits.specs.Limits.{most_nodes, greatest_port}
use Rattle.circus_deployment.specs.Nodes.{hosts_of, nodes_of, module_numbers}
use Rattle.circus_deployment.specs.Faults.{Before, no_nodes, node_faults, behind_node, nodes_faults, troupes_faults}
use Rattle.circus_deployment.specs.Meaning.{host_meant, module_of_troupe, hosts_meant, nodes_meant}
use Rattle.circus_config.specs.declared.plan.Plan.{Plan}
use Rattle.circus_config.specs.Program.{IsProgramOf}
use Rattle.circus_record.specs.Naming.{host_name}
use Rattle.circus_node_command.specs.Named.{IsNamed}
use Rattle.circus_program.proofs.Decided.{IsDecided, same_bytes}

abbrev text_name : HostText → List ℕ
text_name h = h.name.name

-- ---- names of nodes without a fault differ

record Differ (before : Before) (hs : List HostText) : Type 0 where
  fresh : AllByRecursion (λ n. IsFresh before.names n) (map text_name hs)
  distinct : AreDistinct (map text_name hs)

nodes_differ : (before : Before) (hs : List HostText) → nodes_faults before hs ≡ [] → Differ before hs
nodes_differ before [] none = record { fresh = tt; distinct = tt }
nodes_differ before (h ∷ hs) none =
    let (own, rest) = none_in (node_faults before h.name h.port) (nodes_faults (behind_node before h.name h.port) hs) none in
    let name_ones = faults_if (is_some (before.names h.name.name)) h.name.at Repeated in
    let many_ones = faults_if (before.count == most_nodes) h.name.at TooMany in
    let port_ones = faults_if (before.ports h.port.value) h.port.at Repeated in
    let three = none_in (name_ones ++ many_ones ++ port_ones) (out_of OutOfRange greatest_port h.port) own in
    let two = none_in (name_ones ++ many_ones) port_ones three.0 in
    let name = none_in name_ones many_ones two.0 in
    let others = nodes_differ (behind_node before h.name h.port) hs rest in
    let (fresh_names, other_names) = apart (λ (n : List ℕ). n) before.names h.name.name 0 (map text_name hs) others.fresh in
    record { fresh = (no_fault _ _ _ name.0, fresh_names); distinct = (other_names, others.distinct) }

other_place : {X : Type 0} (P : X → Type 0) (xs : List X) → AllByRecursion P xs → (place : ℕ) (x : X) → slice_get xs place ≡ Some x → P x
other_place P [] all place x there = absurd (cc)
other_place P (y ∷ ys) all zero x there = let same : y ≡ x = cc in subst P same all.0
other_place P (y ∷ ys) all (suc place) x there = other_place P ys all.1 place x there

one_place : (xs : List (List ℕ)) → AreDistinct xs → (one other : ℕ) (x : List ℕ) → slice_get xs one ≡ Some x → slice_get xs other ≡ Some x → one ≡ other
one_place [] distinct one other x first second = absurd (cc)
one_place (y ∷ ys) distinct zero zero x first second = refl
one_place (y ∷ ys) distinct zero (suc other) x first second = let same : y ≡ x = cc in absurd (other_place (λ z. y ≢ z) ys distinct.0 other x second same)
one_place (y ∷ ys) distinct (suc one) zero x first second = let same : y ≡ x = cc in absurd (other_place (λ z. y ≢ z) ys distinct.0 one x first same)
one_place (y ∷ ys) distinct (suc one) (suc other) x first second = ap (λ k. suc k) (one_place ys distinct.1 one other x first second)

-- ---- nodes have the names that are written

hosts_named : (o : Option ℕ) (hs : List HostText) → map host_name (map (host_meant o) hs) ≡ map text_name hs
hosts_named o [] = refl
hosts_named o (h ∷ hs) = ap (λ l. h.name.name ∷ l) (hosts_named o hs)

troupes_named : (modules : Known) (ts : List TroupeText) → map host_name (flat_map (hosts_meant modules) ts) ≡ map text_name (flat_map hosts_of ts)
troupes_named modules [] = refl
troupes_named modules (t ∷ ts) =
    map-append host_name (hosts_meant modules t) (flat_map (hosts_meant modules) ts)
    ∙ (λ i. hosts_named (module_of_troupe modules t) (hosts_of t) i ++ troupes_named modules ts i)
    ∙ sym (map-append text_name (hosts_of t) (flat_map hosts_of ts))

nodes_named : (modules : Known) (d : DeploymentText) → map host_name (nodes_meant modules d) ≡ map text_name (nodes_of d)
nodes_named modules d = ap (λ l. d.ringmaster.name.name ∷ l) (troupes_named modules d.troupes)

-- ---- one node has a name

none_mapped : {X Y : Type 0} (f : X → Y) (xs : List X) → map f xs ≡ [] → xs ≡ []
none_mapped f [] none = refl
none_mapped f (x ∷ xs) none = absurd (cc)

distinct_names : (text : List ℕ) (plan : Plan) → IsProgramOf text plan → AreDistinct (map host_name plan.deployment.nodes)
distinct_names text plan means =
    let d = means.tree.deployment in
    let modules = means.tree.modules in
    let told = (none_in _ _ means.faultless).1 in
    let faults = none_mapped _ _ told in
    let two = none_in (nodes_faults no_nodes (nodes_of d) ++ troupes_faults (module_numbers modules) _ 0 d.troupes) _ faults in
    let nodes = none_in (nodes_faults no_nodes (nodes_of d)) _ two.0 in
    let names : map host_name plan.deployment.nodes ≡ map text_name (nodes_of d) =
    ap (λ (x : Deployment). map host_name x.nodes) means.deployment ∙ nodes_named (module_numbers modules) d in
    subst AreDistinct (sym names) (nodes_differ no_nodes (nodes_of d) nodes.0).distinct

pub named_once : (text : List ℕ) (plan : Plan) (name : List ℕ) (one other : ℕ) → IsProgramOf text plan → IsNamed plan.deployment name one → IsNamed plan.deployment name other → one ≡ other
named_once text plan name one other means first second =
    let nodes = plan.deployment.nodes in
    one_place (map host_name nodes) (distinct_names text plan means) one other name (slice_get-map host_name nodes one ∙ first) (slice_get-map host_name nodes other ∙ second)

-- a node that has a name is there
pub named_within : (d : Deployment) (name : List ℕ) (number : ℕ) → IsNamed d name number → number < length d.nodes
named_within d name number named =
    omega (arith, slice_get_within (map host_name d.nodes) number name (slice_get-map host_name d.nodes number ∙ named), length-map d.nodes host_name)

-- ---- and whether one has can be told

named_among : (hosts : List Host) (name : List ℕ) → IsDecided ((number : ℕ) × (option_map host_name (slice_get hosts number) ≡ Some name))
named_among [] name = inr (λ (number, is). absurd (cc))
named_among (h ∷ hosts) name = by_first (same_bytes h.name name) (named_among hosts name)
  where
    by_first : IsDecided (h.name ≡ name) → IsDecided ((number : ℕ) × (option_map host_name (slice_get hosts number) ≡ Some name))
        → IsDecided ((number : ℕ) × (option_map host_name (slice_get (h ∷ hosts) number) ≡ Some name))
    by_first (inl same) others = inl (0, ap (λ n. Some n) same)
    by_first (inr other) (inl (number, is)) = inl (suc number, is)
    by_first (inr other) (inr none) = inr (λ (number, is). by_place number is)
      where
        by_place : (number : ℕ) → option_map host_name (slice_get (h ∷ hosts) number) ≡ Some name → ⊥
        by_place zero is = other cc
        by_place (suc number) is = none (number, is)

pub decided_named : (d : Deployment) (name : List ℕ) → ((number : ℕ) × IsNamed d name number) ⊎ ((number : ℕ) → IsNamed d name number → ⊥)
decided_named d name = elim (named_among d.nodes name) [
  | inl found ↦ inl found
  | inr none ↦ inr (λ number named. none (number, named))
]
