-- What code does ask by ask: the calls that a view makes due, and which asks a step closes.
use Rattle.std.specs.Prelude.{Bool, if◌then◌else◌, List, [], Option}
use Rattle.std.specs.Option.{option_map_or}
use Rattle.std.specs.Map.{remove_entry}
use Rattle.circus_collate.specs.declared.view.View.{View}
use Rattle.circus_fanout.specs.Knowing.{Knowing}
use Rattle.circus_fanout.specs.Asking.{Asking}
use Rattle.circus_member_rules.specs.declared.closing.Concern.{Concern}
use Rattle.circus_member_rules.specs.declared.closing.Concern.TheVariants as concern
use Rattle.circus_member_rules.specs.declared.occurrence.AskName.{AskName}
use Rattle.circus_member_rules.specs.declared.occurrence.Occurrence.{Occurrence}
use Rattle.circus_member_rules.specs.declared.occurrence.Occurrence.TheVariants as comes
use Rattle.circus_member_rules.specs.declared.occurrence.Effect.{Effect}
use Rattle.circus_member_rules.specs.OpenAsks.{is_name, asking_of}
use Rattle.circus_member_rules.specs.MemberState.{Doing}
use Rattle.circus_member_rules.specs.Rules.{is_to, calls_for_view, is_settled, close_asks}
use Rattle.circus_member_rules.specs.Step.{waits}

-- the calls of any ask, which may be to another troupe
abbrev pub calls_by_ask : Knowing → View → AskName × Asking → List Effect
calls_by_ask k view e = if is_to view.troupe e then calls_for_view k view e else []

-- one ask is closed where it is settled
abbrev pub close_ask : Knowing → AskName → List (AskName × Asking) → List (AskName × Asking)
close_ask k name asks =
    option_map_or (λ (a : Asking). if is_settled k a then remove_entry (is_name name) asks else asks) (asking_of asks name) asks

-- one that doesn't wait for its value
abbrev pub close_one : Knowing → (AskName → Bool) → AskName → List (AskName × Asking) → List (AskName × Asking)
close_one k waits name asks = if waits name then asks else close_ask k name asks

-- what happens concerns one ask, or each, or only the one that waits
abbrev pub concern_of : Occurrence → Concern
concern_of (comes.Asked header body sender) = concern.Nothing
concern_of (comes.Fetched incarnation sender) = concern.Nothing
concern_of (comes.Replied name from reply) = concern.One name
concern_of (comes.IsStale name server from incarnation) = concern.One name
concern_of (comes.IsBefore name from) = concern.One name
concern_of (comes.Told request table) = concern.Each
concern_of (comes.Restored state count) = concern.Nothing
concern_of (comes.Declared node) = concern.Each
concern_of comes.Joins = concern.Nothing

-- what a step concerns of the asks; each of them
abbrev pub close_concerned : Knowing → (AskName → Bool) → Concern → List (AskName × Asking) → List (AskName × Asking)
close_concerned k waits (concern.One name) asks = close_one k waits name asks
close_concerned k waits concern.Nothing asks = asks
close_concerned k waits concern.Each asks = close_asks k waits asks

-- and the ask that waited for its value
abbrev pub close_by : Knowing → (AskName → Bool) → Concern → Option AskName → List (AskName × Asking) → List (AskName × Asking)
close_by k waits c waited asks =
    let left = close_concerned k waits c asks in
    option_map_or (λ name. close_one k waits name left) waited left

-- the ask that waits for its value stays open
abbrev pub closed_by : {M : Type 0} → Concern → Option AskName → Doing M → Doing M
closed_by concern waited d =
    let m = d.member in
    record d { member = record m { asks = close_by m.known (waits m.performing.kept) concern waited m.asks } }
