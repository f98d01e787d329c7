-- The lines of events, behind their first words.
use Rattle.std.specs.Prelude.{ℕ, ◌==◌, cond, List, codes, bytes_eq, option_map, Option, Some, None}
use Rattle.circus_node.specs.declared.event.Event.{Event}
use Rattle.circus_node.specs.declared.event.Event.TheVariants.{Datagram, Tick, Down, Join}
use Rattle.circus_node.specs.declared.event.Give.{Give}
use Rattle.circus_value_text.specs.Reading.{Read, behind, behind_prefix, number_read}
use Rattle.circus_value_text.specs.WordReading.{bytes_of}
use Rattle.circus_audit.specs.declared.noted.Differing.{Differing}
use Rattle.circus_audit.specs.Seen.Answers.{then_read, from_some, or_else, whole, only_if}
use Rattle.circus_audit.specs.Seen.Names.{number_of_name, other}

-- bytes, to the end
abbrev pub addressed_by : ℕ → List ℕ → Option (ℕ × List ℕ)
addressed_by node text = from_some (behind_prefix (codes " ") text) (λ inner. option_map (λ bytes. (node, bytes)) (bytes_of inner))

-- a number of two bytes, and bytes
abbrev pub foreign_read : List ℕ → Option (ℕ × List ℕ)
foreign_read text = then_read (number_read 65535 text) addressed_by

-- an event that one word says
abbrev pub bare_event : List ℕ → Option (Option Event)
bare_event text =
    cond (bytes_eq text (codes "tick")) (Some (Some Tick))
    (cond (bytes_eq text (codes "join")) (Some (Some Join)) (cond (bytes_eq text (codes "boot")) (Some None) None))

-- another node behind a mark
abbrev pub other_behind : List ℕ → List (List ℕ) → ℕ → List ℕ → Read ℕ
other_behind mark nodes own text = behind (behind_prefix mark text) (λ inner. other own (number_of_name nodes inner))

module _ (nodes : List (List ℕ)) (own : ℕ) where
  -- another node
  abbrev pub other_node : List ℕ → Option (ℕ × List ℕ)
  other_node text = other own (number_of_name nodes text)

  -- another node, and bytes
  abbrev pub node_and_bytes : List ℕ → Option (ℕ × List ℕ)
  node_and_bytes text = then_read (other_node text) addressed_by

  abbrev pub datagram_read : List ℕ → Option Event
  datagram_read text = option_map (λ r. Datagram r.0 r.1) (node_and_bytes text)

  abbrev pub down_read : List ℕ → Option Event
  down_read text = option_map (λ node. Down node) (whole (other_node text))

  abbrev pub what_read : List ℕ → Option (Option Event)
  what_read text =
      or_else (behind_prefix (codes "datagram ") text) (λ inner. option_map (λ e. Some e) (datagram_read inner))
      (or_else (behind_prefix (codes "down ") text) (λ inner. option_map (λ e. Some e) (down_read inner)) (bare_event text))

  -- the event of this number
  abbrev pub event_read : ℕ → List ℕ → Option (Option Event)
  event_read number text =
      then_read (number_read 4294967295 text) (λ n rest. only_if (n == number) (from_some (behind_prefix (codes " ") rest) what_read))

  abbrev pub give_read : List ℕ → Option Give
  give_read text = option_map (λ r. record { to = r.0; bytes = r.1 }) (node_and_bytes text)

-- which ask of which run, and what was replied
abbrev pub differing_read : List ℕ → Option Differing
differing_read text =
    then_read (number_read 4294967295 text) (λ run rest. from_some (behind_prefix (codes " ask ") rest)
    (λ inner. then_read (number_read 4294967295 inner) (λ ask replies. Some (record { run = run; ask = ask; replies = replies }))))
