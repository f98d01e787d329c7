-- What holds of a deployment without a fault.
use Rattle.std.proofs.Common.{◌≡◌, ◌≢◌, ℕ, zero, suc, ◌+◌, ◌<◌, ◌≤◌, ◌⊎◌, inl, inr, Bool, true, false, cond, List, [], ◌∷◌, ◌++◌, length, map, refl, sym, subst, arith, Option, Some, None}
use Rattle.std.specs.Prelude.{◌==◌, bytes_eq, is_some, is_none, slice_get}
use Rattle.std.specs.List.{AllByRecursion}
use Rattle.std.proofs.lemmas.Bool.{eq-eqb}
use Rattle.std.proofs.lemmas.Slice.Eq.{bytes_eq-Decides}
use Rattle.circus_fault.specs.Least.{faults_if, out_of}
use Rattle.circus_fault.specs.Known.{Known, nobody, add_name, numbers_behind, numbers_of}
use Rattle.circus_fault.proofs.Items.{none_in}
use Rattle.circus_fault.proofs.KnownNames.{IsFresh, apart}
use Rattle.circus_fault.proofs.NoFaults.{no_fault, in_range}
use Rattle.circus_type.specs.Distinct.{AreDistinct}
use Rattle.circus_type.proofs.NoFaults.{numbers_apart}
use Rattle.circus_lang.specs.ModuleTree.{ModuleTree}
use Rattle.circus_troupe.specs.declared.deployment_text.WrittenKind.{WrittenKind}
use Rattle.circus_troupe.specs.declared.deployment_text.WrittenKind.TheVariants.{First, Majority, Unanimous, AtLeast, Watchdog}
use Rattle.circus_troupe.specs.declared.deployment_text.HostText.{HostText}
use Rattle.circus_troupe.specs.declared.deployment_text.TroupeText.{TroupeText}
use Rattle.circus_deployment.specs.declared.cause.Cause.TheVariants.{Unknown, Repeated, OutOfRange, TooMany}
use Rattle.circus_limits.specs.Limits.{most_nodes, most_members, most_needed, greatest_port}
use Rattle.circus_deployment.specs.Faults.{Before, node_faults, behind_node, nodes_faults, needed_faults, crowd_faults, troupe_faults, troupes_faults, first_without_troupe}

abbrev pub host_name : HostText → List ℕ
host_name h = h.name.name

abbrev pub host_port : HostText → ℕ
host_port h = h.port.value

abbrev pub troupe_name : TroupeText → List ℕ
troupe_name t = t.name.name

-- ---- nodes

pub record AreNodes (before : Before) (hs : List HostText) : Type 0 where
  pub names_fresh : AllByRecursion (λ n. IsFresh before.names n) (map host_name hs)
  pub names : AreDistinct (map host_name hs)
  pub ports_fresh : AllByRecursion (λ n. before.ports n ≡ false) (map host_port hs)
  pub ports : AreDistinct (map host_port hs)
  pub ranged : AllByRecursion (λ n. (0 < n) × (n ≤ greatest_port)) (map host_port hs)
  pub few : before.count ≤ most_nodes → before.count + length hs ≤ most_nodes

pub nodes_clean : (before : Before) (hs : List HostText) → nodes_faults before hs ≡ [] → AreNodes before hs
nodes_clean before [] none = record { names_fresh = tt; names = tt; ports_fresh = tt; ports = tt; ranged = tt; few = λ low. omega (arith, low) }
nodes_clean before (h ∷ hs) none =
    let (own, rest) = none_in (node_faults before h.name h.port) (nodes_faults (behind_node before h.name h.port) hs) none in
    let name_ones = faults_if (is_some (before.names h.name.name)) h.name.at Repeated in
    let many_ones = faults_if (before.count == most_nodes) h.name.at TooMany in
    let port_ones = faults_if (before.ports h.port.value) h.port.at Repeated in
    let (three, range) = none_in (name_ones ++ many_ones ++ port_ones) (out_of OutOfRange greatest_port h.port) own in
    let (two, port) = none_in (name_ones ++ many_ones) port_ones three in
    let (name, many) = none_in name_ones many_ones two in
    let others = nodes_clean (behind_node before h.name h.port) hs rest in
    let (fresh_names, other_names) = apart (λ (n : List ℕ). n) before.names h.name.name 0 (map host_name hs) others.names_fresh in
    let (fresh_ports, other_ports) = numbers_apart before.ports h.port.value (map host_port hs) others.ports_fresh in
    record {
      names_fresh = (no_fault _ _ _ name, fresh_names);
      names = (other_names, others.names);
      ports_fresh = (no_fault _ _ _ port, fresh_ports);
      ports = (other_ports, others.ports);
      ranged = (in_range OutOfRange greatest_port h.port range, others.ranged);
      few = λ low.
          let another : before.count ≢ most_nodes = λ same. let is = eq-eqb before.count most_nodes same in let never = no_fault _ _ _ many in absurd (cc) in
          omega (arith, others.few (omega (arith, low, another)));
    }

-- ---- troupes

-- the number behind LEAST
abbrev pub IsNeeded : WrittenKind → Type 0
IsNeeded First = Unit {0}
IsNeeded Majority = Unit {0}
IsNeeded Unanimous = Unit {0}
IsNeeded (AtLeast n) = (0 < n.value) × (n.value ≤ most_needed)
IsNeeded Watchdog = Unit {0}

needed_clean : (k : WrittenKind) → needed_faults k ≡ [] → IsNeeded k
needed_clean First none = tt
needed_clean Majority none = tt
needed_clean Unanimous none = tt
needed_clean (AtLeast n) none = in_range OutOfRange most_needed n none
needed_clean Watchdog none = tt

none_past : {X : Type 0} (xs : List X) (i : ℕ) → slice_get xs i ≡ None → length xs ≤ i
none_past [] i is = omega arith
none_past (x ∷ xs) zero is = absurd (cc)
none_past (x ∷ xs) (suc i) is = omega (arith, none_past xs i is)

crowd_none : (o : Option HostText) → crowd_faults o ≡ [] → o ≡ None
crowd_none None none = refl
crowd_none (Some h) none = absurd (cc)

pub record IsTroupeClean (modules : Known) (t : TroupeText) : Type 0 where
  pub known : is_none (modules t.name.name) ≡ false
  pub calls : IsNeeded t.calls.kind
  pub replies : IsNeeded t.replies.kind
  pub few : length t.members ≤ most_members

pub record AreTroupes (modules earlier : Known) (ts : List TroupeText) : Type 0 where
  pub fresh : AllByRecursion (λ n. IsFresh earlier n) (map troupe_name ts)
  pub names : AreDistinct (map troupe_name ts)
  pub clean : AllByRecursion (IsTroupeClean modules) ts

pub troupes_clean : (modules earlier : Known) (number : ℕ) (ts : List TroupeText) → troupes_faults modules earlier number ts ≡ [] → AreTroupes modules earlier ts
troupes_clean modules earlier number [] none = record { fresh = tt; names = tt; clean = tt }
troupes_clean modules earlier number (t ∷ ts) none =
    let (own, rest) = none_in (troupe_faults modules earlier t) (troupes_faults modules (add_name t.name.name number earlier) (number + 1) ts) none in
    let unknown_ones = faults_if (is_none (modules t.name.name)) t.name.at Unknown in
    let again_ones = faults_if (is_some (earlier t.name.name)) t.name.at Repeated in
    let (four, many) = none_in (unknown_ones ++ again_ones ++ needed_faults t.calls.kind ++ needed_faults t.replies.kind) (crowd_faults (slice_get t.members most_members)) own in
    let (three, replies) = none_in (unknown_ones ++ again_ones ++ needed_faults t.calls.kind) (needed_faults t.replies.kind) four in
    let (two, calls) = none_in (unknown_ones ++ again_ones) (needed_faults t.calls.kind) three in
    let (unknown, again) = none_in unknown_ones again_ones two in
    let others = troupes_clean modules (add_name t.name.name number earlier) (number + 1) ts rest in
    let (fresh_names, other_names) = apart (λ (n : List ℕ). n) earlier t.name.name number (map troupe_name ts) others.fresh in
    record {
      fresh = (no_fault _ _ _ again, fresh_names);
      names = (other_names, others.names);
      clean = (
        record {
          known = no_fault _ _ _ unknown;
          calls = needed_clean t.calls.kind calls;
          replies = needed_clean t.replies.kind replies;
          few = none_past t.members most_members (crowd_none (slice_get t.members most_members) many);
        },
        others.clean,
      );
    }

-- ---- modules

abbrev pub module_name : ModuleTree → List ℕ
module_name m = m.name.name

pub none_lacks : (troupes : Known) (ms : List ModuleTree) → first_without_troupe troupes ms ≡ None → AllByRecursion (λ (m : ModuleTree). is_none (troupes m.name.name) ≡ false) ms
none_lacks troupes [] none = tt
none_lacks troupes (m ∷ ms) none = by_test (λ later. none_lacks troupes ms later) (is_none (troupes m.name.name)) refl none
  where
    by_test : (first_without_troupe troupes ms ≡ None → AllByRecursion (λ (n : ModuleTree). is_none (troupes n.name.name) ≡ false) ms) → (b : Bool) → is_none (troupes m.name.name) ≡ b → cond b (Some m.name.name) (first_without_troupe troupes ms) ≡ None
        → AllByRecursion (λ (n : ModuleTree). is_none (troupes n.name.name) ≡ false) (m ∷ ms)
    by_test others true is none = absurd (cc)
    by_test others false is none = (is, others none)

-- ---- what has a number

item_behind : {X : Type 0} (name_of : X → List ℕ) (known : Known) (n : ℕ) (xs : List X) (name : List ℕ) (k : ℕ) → numbers_behind name_of known n xs name ≡ Some k
    → (known name ≡ Some k) ⊎ ((j : ℕ) × (k ≡ n + j) × (x : X) × (slice_get xs j ≡ Some x) × (name_of x ≡ name))
item_behind name_of known n [] name k is = inl is
item_behind {X} name_of known n (x ∷ xs) name k is =
    elim (item_behind name_of (add_name (name_of x) n known) (n + 1) xs name k is) [
      | inl before ↦ by_test (bytes_eq (name_of x) name) refl before
      | inr there ↦ inr (suc there.0, omega (arith, there.1), there.2, there.3, there.4)
    ]
  where
    by_test : (b : Bool) → bytes_eq (name_of x) name ≡ b → cond b (Some n) (known name) ≡ Some k → (known name ≡ Some k) ⊎ ((j : ℕ) × (k ≡ n + j) × (y : X) × (slice_get (x ∷ xs) j ≡ Some y) × (name_of y ≡ name))
    by_test true same is = let number : n ≡ k = cc in inr (0, omega (arith, number), x, refl, (bytes_eq-Decides (name_of x) name).0 same)
    by_test false other is = inl is

-- the item of this number has this name
pub item_of : {X : Type 0} (name_of : X → List ℕ) (xs : List X) (name : List ℕ) (k : ℕ) → numbers_of name_of xs name ≡ Some k → (x : X) × (slice_get xs k ≡ Some x) × (name_of x ≡ name)
item_of {X} name_of xs name k is =
    elim (item_behind name_of nobody 0 xs name k is) [
      | inl before ↦ absurd (cc)
      | inr there ↦ (there.2, subst (λ i. slice_get xs i ≡ Some there.2) (sym (omega arith)) there.3, there.4)
    ]

pub some_number : (o : Option ℕ) → is_none o ≡ false → (k : ℕ) × (o ≡ Some k)
some_number None none = absurd (cc)
some_number (Some k) none = (k, refl)
