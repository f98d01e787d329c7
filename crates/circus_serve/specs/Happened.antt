-- What happened to a served node, and what it gave and took then.
use Rattle.std.specs.Prelude.{ℕ, ◌==◌, if◌then◌else◌, List, [], ◌∷◌, slice_get, position, Option, None, Some, option_and_then, map}
use Rattle.std.specs.Option.{option_map_or}
use Rattle.std.specs.List.{flat_map}
use Rattle.circus_collate.specs.declared.deployment.Host.{Host}
use Rattle.circus_collate.specs.declared.deployment.Deployment.{Deployment}
use Rattle.circus_outside.specs.declared.link.TakenFrom.{TakenFrom}
use Rattle.circus_outside.specs.declared.link.TakenFrom.TheVariants.{From, Nothing}
use Rattle.circus_node.specs.declared.event.Event.{Event}
use Rattle.circus_node.specs.declared.event.Event.TheVariants as event
use Rattle.circus_node.specs.declared.event.Give.{Give}
use Rattle.circus_serve.specs.declared.happening.Happening.{Happening}
use Rattle.circus_serve.specs.declared.happening.Happening.TheVariants.{Booted, Stepped, Foreign}

-- ---- ports

-- at which port a node is
abbrev pub port_of : Deployment → ℕ → ℕ
port_of d node = option_map_or (λ (h : Host). h.port) (slice_get d.nodes node) 0

-- the other node at a port
abbrev pub peer_at : Deployment → ℕ → ℕ → Option ℕ
peer_at d own port =
    option_and_then (λ node. if node == own then None else Some node) (position (λ (h : Host). h.port == port) d.nodes)

-- ---- what was given

abbrev pub gives_in : Happening → List Give
gives_in (Booted gives) = gives
gives_in (Stepped event gives differences) = gives
gives_in (Foreign port bytes) = []

-- to which ports, and what
abbrev pub all_given : Deployment → List Give → List (ℕ × List ℕ)
all_given d gives = map (λ (give : Give). (port_of d give.to, give.bytes)) gives

abbrev pub given_in : Deployment → List Happening → List (ℕ × List ℕ)
given_in d happened = all_given d (flat_map gives_in happened)

-- ---- what was taken

abbrev pub taken_by : Deployment → Event → List TakenFrom
taken_by d (event.Datagram from bytes) = From (port_of d from) bytes ∷ []
taken_by d event.Tick = Nothing ∷ []
taken_by d (event.Down node) = []
taken_by d event.Join = []

-- the take by which something happened: none at boot, at a join and at a declaration
abbrev pub take_of : Deployment → Happening → List TakenFrom
take_of d (Booted gives) = []
take_of d (Stepped event gives differences) = taken_by d event
take_of d (Foreign port bytes) = From port bytes ∷ []

abbrev pub takes_in : Deployment → List Happening → List TakenFrom
takes_in d happened = flat_map (take_of d) happened
