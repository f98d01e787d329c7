-- What nodes are called.
use Rattle.std.proofs.Common.{◌≡◌, ℕ, List, [], Option, None, Some, All, IsAscii, refl, subst, arith}
use Rattle.std.specs.Prelude.{slice_get}
use Rattle.std.specs.Option.{option_map_or}
use Rattle.std.proofs.lemmas.Option.{slice_get_within, get_or_from_slice_get}
use Rattle.circus_collate.specs.declared.deployment.Host.{Host}
use Rattle.circus_record.specs.Naming.{host_name}

-- the name of a number is ASCII, where those of all nodes are
pub ascii_at : (nodes : List Host) (number : ℕ) → All (λ h. IsAscii (host_name h)) nodes → IsAscii (option_map_or host_name (slice_get nodes number) [])
ascii_at nodes number all = by_option (slice_get nodes number) refl
  where
    by_option : (o : Option Host) → slice_get nodes number ≡ o → IsAscii (option_map_or host_name o [])
    by_option None is = λ i. omega arith
    by_option (Some h) is = subst (λ x. IsAscii (host_name x)) (get_or_from_slice_get nodes number h h is) (all number h (slice_get_within nodes number h is))
