-- What nodes and modules are called.
use Rattle.std.specs.Prelude.{ℕ, List, [], slice_get}
use Rattle.std.specs.Option.{option_map_or}
use Rattle.circus_collate.specs.declared.deployment.Host.{Host}

-- by their numbers; a module's troupe has its name
pub record Names : Type 0 where
  pub node : ℕ → List ℕ
  pub troupe : ℕ → List ℕ

abbrev pub host_name : Host → List ℕ
host_name h = h.name

-- a number that none has is called nothing
abbrev pub names_of : List Host → List (List ℕ) → Names
names_of nodes modules =
    record { node = λ n. option_map_or host_name (slice_get nodes n) []; troupe = λ n. option_map_or (λ name. name) (slice_get modules n) [] }
