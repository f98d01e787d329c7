-- What happened, by one more line.
use Rattle.std.specs.Prelude.{ℕ, Bool, true, false, List, [], ◌∷◌, ◌++◌, length, codes, option_map, Option, Some, None}
use Rattle.circus_node.specs.declared.event.Event.{Event}
use Rattle.circus_value_text.specs.Reading.{behind_prefix}
use Rattle.circus_audit.specs.declared.noted.Noted.{Noted}
use Rattle.circus_audit.specs.declared.noted.Kind.{Kind}
use Rattle.circus_audit.specs.declared.noted.Kind.TheVariants.{Gives, Differences, Foreign}
use Rattle.circus_audit.specs.declared.noted.Happened.{Happened}
use Rattle.circus_audit.specs.Seen.Answers.{from_some, or_else, only_if}
use Rattle.circus_audit.specs.Seen.Events.{event_read, give_read, differing_read, foreign_read}

-- all events
abbrev pub all_noted : List Noted → Option Noted → List Noted
all_noted earlier None = earlier
all_noted earlier (Some noted) = earlier ++ noted ∷ []

-- a line of this kind may stand behind one of that kind
abbrev pub may_follow : Kind → Kind → Bool
may_follow Gives Gives = true
may_follow Gives Differences = false
may_follow Gives Foreign = false
may_follow Differences Gives = true
may_follow Differences Differences = true
may_follow Differences Foreign = false
may_follow Foreign _ = true

-- the earlier events, and the last one, where a line of this kind may stand behind it
abbrev pub open_for : Kind → Happened → Option (List Noted × Noted)
open_for kind h = from_some h.last (λ noted. only_if (may_follow kind h.kind) (Some (h.earlier, noted)))

abbrev pub with_last : List Noted → Kind → Noted → Happened
with_last earlier kind noted = record { earlier = earlier; last = Some noted; kind = kind }

abbrev pub begin_event : List Noted → Option Event → Happened
begin_event earlier event = record { earlier = earlier; last = Some (record { event = event; gives = []; differing = [] }); kind = Gives }

abbrev pub differing_added : Happened → List ℕ → Option Happened
differing_added h text =
    from_some (open_for Differences h) (λ r. option_map
    (λ d. with_last r.0 Differences (record { event = r.1.event; gives = r.1.gives; differing = r.1.differing ++ d ∷ [] }))
    (differing_read text))

abbrev pub foreign_passed : Happened → List ℕ → Option Happened
foreign_passed h text =
    from_some (open_for Foreign h) (λ r. option_map (λ stray. with_last r.0 Foreign r.1) (foreign_read text))

module _ (nodes : List (List ℕ)) (own : ℕ) where
  abbrev pub event_added : Happened → List ℕ → Option Happened
  event_added h text =
      let earlier = all_noted h.earlier h.last in
      option_map (begin_event earlier) (event_read nodes own (length earlier) text)

  abbrev pub give_added : Happened → List ℕ → Option Happened
  give_added h text =
      from_some (open_for Gives h) (λ r. option_map
      (λ give. with_last r.0 Gives (record { event = r.1.event; gives = r.1.gives ++ give ∷ []; differing = r.1.differing }))
      (give_read nodes own text))

  -- by a line of an event
  abbrev pub happened_after : Happened → List ℕ → Option Happened
  happened_after h line =
      or_else (behind_prefix (codes "event ") line) (event_added h)
      (or_else (behind_prefix (codes "give ") line) (give_added h)
      (or_else (behind_prefix (codes "differ run ") line) (differing_added h)
      (from_some (behind_prefix (codes "foreign ") line) (foreign_passed h))))
