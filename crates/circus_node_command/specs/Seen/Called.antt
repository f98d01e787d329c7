-- How a host is found by its name.
use Rattle.std.specs.Prelude.{ℕ, Bool, List, bytes_eq}
use Rattle.circus_collate.specs.declared.deployment.Host.{Host}
use Rattle.circus_record.specs.Naming.{host_name}

abbrev pub is_host_named : List ℕ → Host → Bool
is_host_named name host = bytes_eq (host_name host) name
