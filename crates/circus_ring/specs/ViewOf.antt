-- What is true of a troupe's view after every list of requests.
use Rattle.std.specs.Prelude.{◌≡◌, ◌≢◌, ℕ, ◌≤◌, true, ◌++◌, length, All, AllPairs}
use Rattle.circus_value.specs.Among.{is_among}
use Rattle.circus_collate.specs.declared.view.Entry.{Entry}
use Rattle.circus_collate.specs.declared.view.View.{View}
use Rattle.circus_collate.specs.declared.deployment.Troupe.{Troupe}
use Rattle.circus_ring.specs.RingTable.{most_entries, last_incarnation}

-- a troupe whose view has room for its founders, who differ
pub record IsBootable (troupe : Troupe) : Type 0 where
  pub few : length troupe.founders ≤ most_entries
  pub differ : AllPairs (λ (a b : ℕ). a ≢ b) troupe.founders

-- a view of the troupe at this place: few entries, which differ and are founders or spares
pub record IsViewOf (place : ℕ) (troupe : Troupe) (view : View) : Type 0 where
  pub number : view.troupe ≡ place
  pub first : 1 ≤ view.incarnation
  pub last : view.incarnation ≤ last_incarnation
  pub few : length view.entries ≤ most_entries
  pub members : All (λ (e : Entry). is_among (troupe.founders ++ troupe.spares) e.node ≡ true) view.entries
  pub differ : AllPairs (λ (a b : Entry). a.node ≢ b.node) view.entries
