-- Nodes found by their names.
use Rattle.std.proofs.Common.{◌≡◌, ℕ, ◌<◌, ◌≤◌, Bool, List, [], ◌∷◌, length, get_or, Option, None, Some, ap, ◌∙◌, refl, arith}
use Rattle.std.specs.Prelude.{position, slice_get, option_map}
use Rattle.std.specs.List.{position_or_len}
use Rattle.std.proofs.lemmas.Grind.{common_steps}
use Rattle.std.proofs.lemmas.List.Quantifiers.{position-Some}
use Rattle.std.proofs.lemmas.List.Sums.{fails_before_first}
use Rattle.std.proofs.lemmas.Option.{slice_get-get_or, slice_get_within, get_or_from_slice_get, same_Some}
use Rattle.std.proofs.lemmas.Slice.Eq.{bytes_eq-Decides}
use Rattle.circus_collate.specs.declared.deployment.Host.{Host}
use Rattle.circus_record.specs.Naming.{host_name}
use Rattle.circus_node_command.specs.Seen.Called.{is_host_named}

-- the host that is found is there, and called so
pub found_is : (hosts : List Host) (name : List ℕ) (place : ℕ) → position (is_host_named name) hosts ≡ Some place
    → (place < length hosts) × (option_map host_name (slice_get hosts place) ≡ Some name)
found_is [] name place is = absurd (cc)
found_is (host ∷ hosts) name place is =
    let found = position-Some (is_host_named name) (host ∷ hosts) place host is in
    let same = (bytes_eq-Decides (get_or (host ∷ hosts) place host).name name).0 found.1 in
    (found.0, ap (option_map host_name) (slice_get-get_or (host ∷ hosts) place host found.0) ∙ ap Some same)

-- where none is found all fail
none_first : (p : Host → Bool) (hosts : List Host) → position p hosts ≡ None → length hosts ≤ position_or_len p hosts
none_first p hosts none = grind (arith, common_steps)

-- none is called so where none is found
pub none_is : (hosts : List Host) (name : List ℕ) → position (is_host_named name) hosts ≡ None → (place : ℕ) → option_map host_name (slice_get hosts place) ≡ Some name → ⊥
none_is hosts name none place = by_host (slice_get hosts place) refl
  where
    by_host : (o : Option Host) → slice_get hosts place ≡ o → option_map host_name o ≡ Some name → ⊥
    by_host None there is = absurd (cc)
    by_host (Some host) there is =
        let within : place < length hosts = slice_get_within hosts place host there in
        let first = none_first (is_host_named name) hosts none in
        let fails = fails_before_first (is_host_named name) hosts place host (omega (arith, within, first)) in
        let passes = (bytes_eq-Decides (get_or hosts place host).name name).1 (ap (λ (h : Host). h.name) (get_or_from_slice_get hosts place host host there) ∙ same_Some host.name name is) in
        absurd (cc)
