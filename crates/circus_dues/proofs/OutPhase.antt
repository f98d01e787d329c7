-- The phase along a trace, the state with which a member becomes active, and the requests but
-- Lookups for what comes.
use Rattle.std.proofs.Common.{◌≡◌, ℕ, Bool, true, false, ◌&&◌, not, if◌then◌else◌, List, [], Some, refl, sym}
use Rattle.std.specs.Prelude.{slice_get}
use Rattle.std.specs.Option.{option_map_or}
use Rattle.circus_value.specs.ValueTree.{ValueTree}
use Rattle.circus_header.specs.declared.call.Request.{Request}
use Rattle.circus_header.specs.declared.call.Request.TheVariants.{Join, Active, Gone}
use Rattle.circus_collate.specs.Expecting.{has_node}
use Rattle.circus_collate.specs.declared.table.Table.{Table}
use Rattle.circus_collate.specs.declared.view.View.{View}
use Rattle.circus_transfer.specs.declared.joiner.Joiner.{Joiner}
use Rattle.circus_transfer.specs.Joining.{after_table}
use Rattle.circus_fanout.specs.Knowing.{Knowing}
use Rattle.circus_performing.specs.Performing.{is_fetching}
use Rattle.circus_member_rules.specs.declared.place.Place.{Place}
use Rattle.circus_member_rules.specs.declared.occurrence.Effect.{Effect}
use Rattle.circus_member_rules.specs.declared.occurrence.Occurrence.{Occurrence}
use Rattle.circus_member_rules.specs.declared.occurrence.Occurrence.TheVariants as comes
use Rattle.circus_member_rules.specs.Rules.{state_requests}
use Rattle.circus_member_rules.specs.Step.{is_join}
use Rattle.circus_member_theory.specs.Past as past
use Rattle.circus_member_theory.specs.Past.{Past, followed, phase, snapshot_fetched}
use Rattle.circus_member_theory.specs.Requests.{to_ring, for_what_came}
use Rattle.circus_member_theory.specs.Snapshots.{began}
use Rattle.circus_member_theory.proofs.Timely.Phases.{once_told, once_tabled, once_restored}
use Rattle.circus_dues.specs.Out.{phase_behind, snapshot_behind, began_behind, requests_of, KnowsViews}

-- ---- the phase, and the state

module _ (begins : Joiner) (p : Past) (step : ℕ) where
  abbrev j : Joiner
  j = phase begins p

  once_joined : (request : Request) (table : Table) → (if is_join request then after_table table j else j) ≡ (if is_join request && past.is_asking j then past.taken_in table else j)
  once_joined request table = by_test (is_join request)
    where
      by_test : (b : Bool) → (if b then after_table table j else j) ≡ (if b && past.is_asking j then past.taken_in table else j)
      by_test true = once_tabled table j
      by_test false = refl

  pub phase_then : (o : Occurrence) → phase begins (followed p step o) ≡ phase_behind o (phase begins p)
  phase_then (comes.Asked header body sender) = refl
  phase_then (comes.Fetched incarnation sender) = refl
  phase_then (comes.Replied name from reply) = refl
  phase_then (comes.IsStale name server from incarnation) = refl
  phase_then (comes.IsBefore name from) = refl
  phase_then (comes.Told request table) = sym (once_joined request table)
  phase_then (comes.Restored state count) = sym (once_restored count j)
  phase_then (comes.Declared node) = refl
  phase_then comes.Joins = sym (once_told j)

  pub snapshot_then : (o : Occurrence) → snapshot_fetched begins (followed p step o) ≡ snapshot_behind o (phase begins p) (snapshot_fetched begins p)
  snapshot_then (comes.Asked header body sender) = refl
  snapshot_then (comes.Fetched incarnation sender) = refl
  snapshot_then (comes.Replied name from reply) = refl
  snapshot_then (comes.IsStale name server from incarnation) = refl
  snapshot_then (comes.IsBefore name from) = refl
  snapshot_then (comes.Told request table) = refl
  snapshot_then (comes.Restored state count) = refl
  snapshot_then (comes.Declared node) = refl
  snapshot_then comes.Joins = refl

  pub began_then : (first : List ValueTree) (o : Occurrence) → began begins first (followed p step o) ≡ began_behind o (phase begins p) (began begins first p)
  began_then first (comes.Asked header body sender) = refl
  began_then first (comes.Fetched incarnation sender) = refl
  began_then first (comes.Replied name from reply) = refl
  began_then first (comes.IsStale name server from incarnation) = refl
  began_then first (comes.IsBefore name from) = refl
  began_then first (comes.Told request table) = refl
  began_then first (comes.Restored state count) = by_test (is_fetching j)
    where
      by_test : (b : Bool) → option_map_or (λ (s : List ValueTree × ℕ). s.0) (if b then Some (state, count) else snapshot_fetched begins p) first ≡ (if b then state else began begins first p)
      by_test true = refl
      by_test false = refl
  began_then first (comes.Declared node) = refl
  began_then first comes.Joins = refl

-- ---- requests

-- Gone, by views and the nodes that are down
abbrev gone_by : List View → List ℕ → Place → ℕ → List Effect
gone_by views nodes place node =
    option_map_or
    (λ hosted. option_map_or (λ troupe. option_map_or (λ (v : View). if has_node v node then to_ring nodes (Gone troupe node) else []) (slice_get views troupe) []) hosted [])
    (slice_get place.troupes node)
    []

module _ (place : Place) (boot : List View) (begins : Joiner) (p : Past) (step : ℕ) (k : Knowing) where
  pub requests_are : (o : Occurrence) → KnowsViews boot (followed p step o) k → for_what_came place boot begins (followed p step o) ≡ requests_of place o (phase begins p) k
  requests_are (comes.Asked header body sender) h = refl
  requests_are (comes.Fetched incarnation sender) h = refl
  requests_are (comes.Replied name from reply) h = refl
  requests_are (comes.IsStale name server from incarnation) h = refl
  requests_are (comes.IsBefore name from) h = refl
  requests_are (comes.Told request table) h =
      λ i. if not (is_fetching (phase begins p)) && is_fetching (phase_then begins p step (comes.Told request table) i) then state_requests place (sym h.down i) table.view else []
  requests_are (comes.Restored state count) h = λ i. if is_fetching (phase begins p) then to_ring (sym h.down i) (Active place.troupe place.node count) else []
  requests_are (comes.Declared node) h = λ i. gone_by (sym h.views i) (sym h.down i) place node
  requests_are comes.Joins h = λ i. to_ring (sym h.down i) (Join place.troupe place.node)
