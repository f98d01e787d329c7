-- Which troupes and nodes a program may have.
use Rattle.std.specs.Prelude.{◌≡◌, ◌≢◌, ℕ, suc, ◌<◌, ◌≤◌, ◌⊎◌, ◌↔◌, Bool, false, ◌&&◌, ◌==◌, List, [], ◌∷◌, ◌++◌, length, AllPairs, IsTrue, None, Some, slice_get, if◌then◌else◌}
use Rattle.std.specs.Char.{is_ascii_alphabetic, is_ascii_alphanumeric}
use Rattle.std.specs.List.{list_all}
use Rattle.std.specs.Option.{option_map_or}
use Rattle.circus_limits.specs.Limits.{most_modules, most_nodes, most_members, most_needed, longest_name}
use Rattle.circus_collate.specs.declared.kind.Kind.{Kind}
use Rattle.circus_collate.specs.declared.kind.Kind.TheVariants.{First, Majority, Unanimous, AtLeast, Watchdog}
use Rattle.circus_collate.specs.declared.deployment.Troupe.{Troupe}
use Rattle.circus_collate.specs.declared.deployment.Host.{Host}
use Rattle.circus_collate.specs.declared.deployment.Deployment.{Deployment}

-- a letter, then letters and digits
abbrev pub is_word : List ℕ → Bool
is_word [] = false
is_word (b ∷ bs) = is_ascii_alphabetic b && list_all is_ascii_alphanumeric bs

-- a collator of replies
abbrev pub IsKind : Kind → Type 0
IsKind (AtLeast number) = (1 ≤ number) × (number ≤ most_needed)
IsKind First = Unit {0}
IsKind Majority = Unit {0}
IsKind Unanimous = Unit {0}
IsKind Watchdog = Unit {0}

-- the node hosts a member of the module's troupe
abbrev pub hosts : ℕ → Host → Bool
hosts «module» h = option_map_or (λ n. n == «module») h.module false

-- the numbers of the nodes that host members of the module's troupe, the first node having this number
abbrev pub hosting_from : ℕ → ℕ → List Host → List ℕ
hosting_from number «module» [] = []
hosting_from number «module» (h ∷ hs) =
    if hosts «module» h then number ∷ hosting_from (suc number) «module» hs else hosting_from (suc number) «module» hs

-- a troupe of a module: its members at boot and its spares are the nodes that host it
pub record IsTroupe (nodes : List Host) («module» : ℕ) (troupe : Troupe) : Type 0 where
  pub some_founders : 1 ≤ length troupe.founders
  pub few_founders : length troupe.founders ≤ most_members
  pub members : troupe.founders ++ troupe.spares ≡ hosting_from 0 «module» nodes
  pub calls : IsKind troupe.calls
  pub no_watchdog : troupe.calls ≢ Watchdog
  pub replies : IsKind troupe.replies

-- a node: the first one is the Ringmaster's, each other one hosts a member of a module
pub record IsHost (troupes : List Troupe) (number : ℕ) (host : Host) : Type 0 where
  pub name : IsTrue (is_word host.name)
  pub short_name : length host.name ≤ longest_name
  pub port : 1 ≤ host.port
  pub ringmaster : (host.module ≡ None) ↔ (number ≡ 0)
  pub hosted : (m : ℕ) → host.module ≡ Some m → m < length troupes

-- the troupes and nodes of a program
pub record IsDeployment (d : Deployment) : Type 0 where
  pub few_troupes : length d.troupes ≤ most_modules
  pub some_nodes : 1 ≤ length d.nodes
  pub few_nodes : length d.nodes ≤ most_nodes
  pub format : (d.format ≡ 1) ⊎ (d.format ≡ 2)
  pub troupes : (m : ℕ) (troupe : Troupe) → slice_get d.troupes m ≡ Some troupe → IsTroupe d.nodes m troupe
  pub nodes : (number : ℕ) (host : Host) → slice_get d.nodes number ≡ Some host → IsHost d.troupes number host
  pub names_differ : AllPairs (λ (a b : Host). a.name ≢ b.name) d.nodes
  pub ports_differ : AllPairs (λ (a b : Host). a.port ≢ b.port) d.nodes
