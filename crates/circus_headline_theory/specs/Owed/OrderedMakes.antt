-- Of a trace and a record: what was made at boot, and that runs stand in the order of their starts.
use Rattle.std.specs.Prelude.{◌≡◌, ℕ, ◌<◌, ◌≤◌, List, Some, slice_get}
use Rattle.std.specs.List.{flat_map}
use Rattle.circus_collate.specs.declared.view.View.{View}
use Rattle.circus_record.specs.declared.record.MemberRecord.{MemberRecord}
use Rattle.circus_record.specs.declared.record.RunRecord.{RunRecord}
use Rattle.circus_member_rules.specs.declared.place.Place.{Place}
use Rattle.circus_member_rules.specs.declared.occurrence.Effect.{Effect}
use Rattle.circus_node.specs.Trace as trace
use Rattle.circus_node.specs.Trace.{Trace}
use Rattle.circus_member_theory.specs.Past.{booted}
use Rattle.circus_member_theory.specs.Asks.{knows, first_calls, new_asks}

-- what a node made at boot
abbrev pub made_at_boot : Trace → List Effect
made_at_boot (trace.booted made outputs) = made
made_at_boot (trace.stepped t at event made outputs) = made_at_boot t

-- at boot a member that stands here, with these views, made the first calls of the asks that its
-- record has of that step, and nothing else
abbrev pub BeginsRight : Place → List View → MemberRecord → List Effect → Type 0
BeginsRight place boot kept made =
    made
    ≡ flat_map (first_calls place boot (knows place boot booted)) (new_asks place boot kept booted)

-- no run was started before one that stands in front of it
abbrev pub StartInOrder : List RunRecord → Type 0
StartInOrder runs =
    (m n : ℕ) (one other : RunRecord) → m < n → slice_get runs m ≡ Some one
    → slice_get runs n ≡ Some other → one.started ≤ other.started
